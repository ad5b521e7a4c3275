-- What is stored is what is admitted, and how long it is.
use Rattle.std.proofs.Common.{◌≡◌, ℕ, ◌≤◌, List, [], ◌∷◌, ◌++◌, length, drop, map, refl, sym, ap, ◌∙◌, length-append, arith}
use Rattle.std.specs.List.{AllByRecursion}
use Rattle.std.proofs.Math.Seq.{drop-append_seam}
use Rattle.std.proofs.lemmas.List.{map-append}
use Rattle.dl_lemmas.proofs.Lists.{all_both, all_map}
use Rattle.dl_bytes.specs.Id.{zero_id}
use Rattle.dl_bytes.specs.declared.moment.Moment.{Moment}
use Rattle.dl_bytes.specs.declared.user.UserMsg.{UserMsg}
use Rattle.dl_bytes.specs.declared.user.UserMsg.TheVariants as user
use Rattle.dl_headers.specs.Header.{storage_header}
use Rattle.dl_events.specs.declared.event.Event.{Event}
use Rattle.dl_events.specs.declared.event.Event.TheVariants as event
use Rattle.dl_message.specs.Frames.{overflow_record}
use Rattle.dl_model.specs.Frames.{FrameSource, admitted, frames_of, stored, stored_frames, stored_of, user_frames}
use Rattle.dl_model.specs.Overflow.{counters}
use Rattle.dl_model.specs.TraceFiles.{StoredFile, trace_files}
use Rattle.dl_laws.specs.OwnFiles.{own_files}
use Rattle.dl_laws.specs.ShortFrames.{AreShort, IsShort}
use Rattle.dl_laws.proofs.FileSuffix.{own_within}

-- ---- a storage header

pub header_len : (ecu : List ℕ) (moment : Moment) → length ecu ≡ 4 → length (storage_header ecu moment) ≡ 16
header_len [] moment four = absurd (omega (arith, four))
header_len (a ∷ []) moment four = absurd (omega (arith, four))
header_len (a ∷ b ∷ []) moment four = absurd (omega (arith, four))
header_len (a ∷ b ∷ c ∷ []) moment four = absurd (omega (arith, four))
header_len (a ∷ b ∷ c ∷ d ∷ []) moment four = refl
header_len (a ∷ b ∷ c ∷ d ∷ e ∷ more) moment four = absurd (omega (arith, four))

one_without : (ecu : List ℕ) (moment : Moment) (frame : List ℕ) → length ecu ≡ 4 → drop 16 (stored ecu moment frame) ≡ frame
one_without ecu moment frame four =
    ap (λ (n : ℕ). drop n (stored ecu moment frame)) (sym (header_len ecu moment four)) ∙ drop-append_seam (storage_header ecu moment) frame

all_without : (ecu : List ℕ) (moment : Moment) (frames : List (List ℕ)) → length ecu ≡ 4 → map (drop 16) (map (stored ecu moment) frames) ≡ frames
all_without ecu moment [] four = refl
all_without ecu moment (frame ∷ frames) four =
    ap (λ (f : List ℕ). f ∷ map (drop 16) (map (stored ecu moment) frames)) (one_without ecu moment frame four) ∙ ap (λ (fs : List (List ℕ)). frame ∷ fs) (all_without ecu moment frames four)

event_without : (source : FrameSource) (e : Event) → length source.ecu ≡ 4 → map (drop 16) (stored_of source e) ≡ frames_of source e
event_without source (event.Log app writer call moment) four = all_without source.ecu moment (frames_of source (event.Log app writer call moment)) four
event_without source (event.Lost app count moment) four = all_without source.ecu moment (frames_of source (event.Lost app count moment)) four
event_without source (event.User channel msg moment) four = all_without source.ecu moment (frames_of source (event.User channel msg moment)) four
event_without source (event.Claim claim moment) four = refl
event_without source (event.Level slot level) four = refl
event_without source (event.Connect client) four = refl
event_without source (event.Request client frame answer) four = refl
event_without source (event.Close client cause) four = refl

pub stored_admitted : (source : FrameSource) (events : List Event) → length source.ecu ≡ 4 → map (drop 16) (stored_frames source events) ≡ admitted source events
stored_admitted source [] four = refl
stored_admitted source (e ∷ events) four =
    map-append (drop 16) (stored_of source e) (stored_frames source events)
    ∙ ap (λ (fs : List (List ℕ)). fs ++ map (drop 16) (stored_frames source events)) (event_without source e four)
    ∙ ap (λ (fs : List (List ℕ)). frames_of source e ++ fs) (stored_admitted source events four)

-- ---- how long stored frames are

abbrev Short : List ℕ → Type 0
Short frame = length frame ≤ 2000

stored_len : (ecu : List ℕ) (moment : Moment) (frame : List ℕ) → length ecu ≡ 4 → length frame ≤ 1984 → Short (stored ecu moment frame)
stored_len ecu moment frame four short = omega (arith, header_len ecu moment four, short, length-append (storage_header ecu moment) frame)

all_stored_len : (ecu : List ℕ) (moment : Moment) (frames : List (List ℕ)) → length ecu ≡ 4 → AllByRecursion (λ (frame : List ℕ). length frame ≤ 1984) frames → AllByRecursion Short (map (stored ecu moment) frames)
all_stored_len ecu moment [] four all = tt
all_stored_len ecu moment (frame ∷ frames) four all = (stored_len ecu moment frame four all.0, all_stored_len ecu moment frames four all.1)

-- a record of a control unit with four bytes
record_of : (a b c d : ℕ) (apid : List ℕ) (n : ℕ) → length apid ≤ 4 → length (overflow_record (a ∷ b ∷ c ∷ d ∷ []) apid zero_id n) ≤ 1984
record_of a b c d [] n le = let size : length (overflow_record (a ∷ b ∷ c ∷ d ∷ []) [] zero_id n) ≡ 24 = refl in omega (arith, size)
record_of a b c d (w ∷ []) n le = let size : length (overflow_record (a ∷ b ∷ c ∷ d ∷ []) (w ∷ []) zero_id n) ≡ 25 = refl in omega (arith, size)
record_of a b c d (w ∷ x ∷ []) n le = let size : length (overflow_record (a ∷ b ∷ c ∷ d ∷ []) (w ∷ x ∷ []) zero_id n) ≡ 26 = refl in omega (arith, size)
record_of a b c d (w ∷ x ∷ y ∷ []) n le = let size : length (overflow_record (a ∷ b ∷ c ∷ d ∷ []) (w ∷ x ∷ y ∷ []) zero_id n) ≡ 27 = refl in omega (arith, size)
record_of a b c d (w ∷ x ∷ y ∷ z ∷ []) n le = let size : length (overflow_record (a ∷ b ∷ c ∷ d ∷ []) (w ∷ x ∷ y ∷ z ∷ []) zero_id n) ≡ 28 = refl in omega (arith, size)
record_of a b c d (w ∷ x ∷ y ∷ z ∷ v ∷ more) n le = absurd (omega (arith, le))

record_len : (ecu apid : List ℕ) (n : ℕ) → length ecu ≡ 4 → length apid ≤ 4 → length (overflow_record ecu apid zero_id n) ≤ 1984
record_len [] apid n four le = absurd (omega (arith, four))
record_len (a ∷ []) apid n four le = absurd (omega (arith, four))
record_len (a ∷ b ∷ []) apid n four le = absurd (omega (arith, four))
record_len (a ∷ b ∷ c ∷ []) apid n four le = absurd (omega (arith, four))
record_len (a ∷ b ∷ c ∷ d ∷ []) apid n four le = record_of a b c d apid n le
record_len (a ∷ b ∷ c ∷ d ∷ e ∷ more) apid n four le = absurd (omega (arith, four))

records_len : (ecu apid : List ℕ) (ns : List ℕ) → length ecu ≡ 4 → length apid ≤ 4 → AllByRecursion (λ (frame : List ℕ). length frame ≤ 1984) (map (overflow_record ecu apid zero_id) ns)
records_len ecu apid [] four le = tt
records_len ecu apid (n ∷ ns) four le = (record_len ecu apid n four le, records_len ecu apid ns four le)

user_len : (ecu : List ℕ) (msg : UserMsg) → length ecu ≡ 4 → IsShort msg → AllByRecursion (λ (frame : List ℕ). length frame ≤ 1984) (user_frames ecu msg)
user_len ecu (user.Log message) four short = (short, tt)
user_len ecu (user.Overflow counter apid) four short = records_len ecu apid (counters counter) four short
user_len ecu _ four short = tt

event_len : (source : FrameSource) (e : Event) → AreShort source (e ∷ []) → AllByRecursion Short (stored_of source e)
event_len source (event.Log app writer call moment) short = (stored_len source.ecu moment (source.frame writer call) short.ecu (short.frames writer call), tt)
event_len source (event.Lost app count moment) short = all_stored_len source.ecu moment (frames_of source (event.Lost app count moment)) short.ecu (records_len source.ecu (source.apid app) (counters count) short.ecu (short.apids app))
event_len source (event.User channel msg moment) short = all_stored_len source.ecu moment (user_frames source.ecu msg) short.ecu (user_len source.ecu msg short.ecu short.messages.0)
event_len source (event.Claim claim moment) short = tt
event_len source (event.Level slot level) short = tt
event_len source (event.Connect client) short = tt
event_len source (event.Request client frame answer) short = tt
event_len source (event.Close client cause) short = tt

pub stored_short : (source : FrameSource) (events : List Event) → AreShort source events → AllByRecursion Short (stored_frames source events)
stored_short source [] short = tt
stored_short source (e ∷ events) short =
    all_both Short (stored_of source e) (stored_frames source events)
    (event_len source e (record { ecu = short.ecu; frames = short.frames; apids = short.apids; messages = (short.messages.0, tt) }))
    (stored_short source events (record { ecu = short.ecu; frames = short.frames; apids = short.apids; messages = short.messages.1 }))

-- so trace files that may have so many bytes have no more
pub own_short : (size max_size : ℕ) (old : List StoredFile) (source : FrameSource) (events : List Event) → 2000 ≤ size → AreShort source events →
    AllByRecursion (λ (file : StoredFile). length file.bytes ≤ size) (own_files old (trace_files size max_size old (stored_frames source events)))
own_short size max_size old source events enough short =
    own_within size max_size old (stored_frames source events) (all_map Short (λ (frame : List ℕ). length frame ≤ size) (λ frame le. omega (arith, le, enough)) (stored_frames source events) (stored_short source events short))
