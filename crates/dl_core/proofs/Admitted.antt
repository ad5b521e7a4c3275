-- Frames that are admitted and stored one after the other.
use Rattle.std.proofs.Common.{◌≡◌, ℕ, ◌+◌, ◌-◌, ◌≤◌, ◌<◌, List, [], ◌∷◌, ◌++◌, length, map, Option, Some, None, refl, sym, ap, subst, ◌∙◌, append_assoc, length-append, arith, suc}
use Rattle.std.specs.Prelude.{IfSome, option_map, min, ◌^◌}
use Rattle.std.proofs.lemmas.List.{append-nil, map-append}
use Rattle.std.proofs.lemmas.List.Sums.{sum_by-cons}
use Rattle.dl_bytes.specs.Id.{zero_id}
use Rattle.dl_bytes.specs.declared.moment.Moment.{Moment}
use Rattle.dl_bytes.specs.declared.outcome.TraceEnd.{TraceEnd}
use Rattle.dl_outside.specs.Told.{FolderTold}
use Rattle.dl_message.specs.Frames.{overflow_record}
use Rattle.dl_model.specs.Backlog.{size_of}
use Rattle.dl_model.specs.Frames.{stored}
use Rattle.dl_model.specs.Traffic.{Traffic, Admitted}
use Rattle.dl_hub.specs.State.{Hub, Waiting, IsSameHub, EachHasRoom, is_open, outbox_of, replies_of}
use Rattle.dl_hub.specs.Follows.{Adds, IsAfter}
use Rattle.dl_hub.proofs.Overflow.{frames-step}
use Rattle.dl_trace.specs.State.{Trace}
use Rattle.dl_trace.specs.InFolder.{ChangesTraceFiles}
use Rattle.dl_trace.proofs.Joined.{changes_later, unchanged}
use Rattle.dl_core.specs.Admission.{Admits, lost_frames}
use Rattle.dl_core.specs.Noting.{TakesIn}
use Rattle.dl_trace.specs.Written.{StoresTill, StoresIn, StoresEach, ChangesTraceAlone}

-- ---- the hub

pub admits-none : (hub : Hub) → Admits [] hub hub
admits-none hub = λ traffic taken is. subst (λ (ts : List Traffic). IsAfter ts taken hub) (sym (append-nil traffic)) is

pub admits-one : (frames : List (List ℕ)) (frame : List ℕ) (a b c : Hub) → Admits frames a b → Adds (Admitted frame) b c → Admits (frames ++ frame ∷ []) a c
admits-one frames frame a b c first second = λ traffic taken is.
    subst (λ (ts : List Traffic). IsAfter ts taken c)
    (append_assoc traffic (map Admitted frames) (Admitted frame ∷ []) ∙ ap (λ (ts : List Traffic). traffic ++ ts) (sym (map-append Admitted frames (frame ∷ []))))
    (second (traffic ++ map Admitted frames) taken (first traffic taken is))

pub same_hub-later : (a b c : Hub) → IsSameHub a b → IsSameHub b c → IsSameHub a c
same_hub-later a b c first second = record { ecu = second.ecu ∙ first.ecu; buffer = second.buffer ∙ first.buffer; limit = second.limit ∙ first.limit }

-- ---- the trace

pub each-one : (frames : List (List ℕ)) (frame : List ℕ) (a b c : Option Trace) (f0 f1 f2 : FolderTold)
    → StoresEach frames a b f0 f1 → StoresIn (frame ∷ []) b c f1 f2 → StoresEach (frames ++ frame ∷ []) a c f0 f2
each-one [] frame a b c f0 f1 f2 first second = (
  c,
  f2,
  subst (λ (o : Option Trace). StoresIn (frame ∷ []) o c f0 f2) first.0 (subst (λ (f : FolderTold). StoresIn (frame ∷ []) b c f f2) first.1 second),
  (refl, refl),
)
each-one (x ∷ frames) frame a b c f0 f1 f2 first second = (first.0, first.1, first.2, each-one frames frame first.0 b c first.1 f1 f2 first.3 second)

abbrev pub directory_of : Option Trace → Option (List ℕ)
directory_of o = option_map (λ (t : Trace). t.directory) o

-- a call that stores leaves the directory
pub same_directory : (frames : List (List ℕ)) (a b : Option Trace) (folder folder_now : FolderTold) → StoresIn frames a b folder folder_now → directory_of b ≡ directory_of a
same_directory frames None b folder folder_now call = ap directory_of call.0
same_directory frames (Some a) None folder folder_now call = absurd call
same_directory frames (Some a) (Some b) folder folder_now call = ap Some (by_ends a.state.end b.state.end call) where
  by_ends : (before after : Option TraceEnd) → StoresTill before after frames a b folder folder_now → b.directory ≡ a.directory
  by_ends (Some end) after left = ap (λ (t : Trace). t.directory) left.0
  by_ends None None left = left.0.same.directory
  by_ends None (Some end) left = left.0.same.directory

pub alone-later : (a b : Option Trace) (f0 f1 f2 : FolderTold) → directory_of b ≡ directory_of a
    → ChangesTraceAlone a f0 f1 → ChangesTraceAlone b f1 f2 → ChangesTraceAlone a f0 f2
alone-later None None f0 f1 f2 same first second = second ∙ first
alone-later None (Some b) f0 f1 f2 same first second = absurd (cc same)
alone-later (Some a) None f0 f1 f2 same first second = absurd (cc same)
alone-later (Some a) (Some b) f0 f1 f2 same first second =
    let here : b.directory ≡ a.directory = cc same in
    changes_later a.directory f0.files f1.files f2.files first (subst (λ (d : List ℕ). ChangesTraceFiles d f1.files f2.files) here second)

pub alone-none : (a : Option Trace) (folder : FolderTold) → ChangesTraceAlone a folder folder
alone-none None folder = refl
alone-none (Some a) folder = unchanged a.directory folder.files

-- one frame by itself
pub each-alone : (frame : List ℕ) (a b : Option Trace) (folder folder_now : FolderTold) → StoresIn (frame ∷ []) a b folder folder_now → StoresEach (frame ∷ []) a b folder folder_now
each-alone frame a b folder folder_now stores = (b, folder_now, stores, (refl, refl))

-- where nothing is admitted
pub takes-none : (ecu : List ℕ) (moment : Moment) (hub : Hub) (kept : Option Trace) (folder : FolderTold) → TakesIn ecu moment [] hub hub kept kept folder folder
takes-none ecu moment hub kept folder = record {
  adds = admits-none hub;
  same = record { ecu = refl; buffer = refl; limit = refl };
  still_open = refl;
  replies = refl;
  admitted = omega arith;
  stores = (refl, refl);
  others = alone-none kept folder;
}

-- ---- records of lost messages, one after the other

-- these records are admitted and stored, and those for so many messages are left
pub record Reported (ecu apid : List ℕ) (count : ℕ) (moment : Moment) (left : ℕ) (hub hub_now : Hub) (kept kept_now : Option Trace) (folder folder_now : FolderTold) : Type 0 where
  pub done : List (List ℕ)
  pub all : lost_frames ecu apid count ≡ done ++ lost_frames ecu apid left
  pub takes : TakesIn ecu moment done hub hub_now kept kept_now folder folder_now
  pub directory : directory_of kept_now ≡ directory_of kept
  pub room : EachHasRoom (size_of (lost_frames ecu apid left)) hub_now

pub reports_none : (ecu apid : List ℕ) (count : ℕ) (moment : Moment) (hub : Hub) (kept : Option Trace) (folder : FolderTold) → EachHasRoom (size_of (lost_frames ecu apid count)) hub
    → Reported ecu apid count moment count hub hub kept kept folder folder
reports_none ecu apid count moment hub kept folder room = record { done = []; all = refl; takes = takes-none ecu moment hub kept folder; directory = refl; room = room }

-- the next record, and what is left then
pub next_record : (ecu apid : List ℕ) (left counter : ℕ) (frame : List ℕ) → 0 < left → counter ≡ min left 4294967295 → frame ≡ overflow_record ecu apid zero_id counter
    → lost_frames ecu apid left ≡ frame ∷ lost_frames ecu apid (left - counter)
next_record ecu apid left counter frame some is what = rw what (frames-step ecu apid zero_id left counter some is)

pub reports_one : (ecu apid : List ℕ) (count : ℕ) (moment : Moment) (left counter : ℕ) (frame : List ℕ) (h0 h1 h2 : Hub) (k0 k1 k2 : Option Trace) (f0 f1 f2 : FolderTold)
    → 0 < left → counter ≡ min left 4294967295 → frame ≡ overflow_record ecu apid zero_id counter
    → Reported ecu apid count moment left h0 h1 k0 k1 f0 f1
    → Adds (Admitted frame) h1 h2 → ((more : ℕ) → EachHasRoom (length frame + more) h1 → EachHasRoom more h2) → IsSameHub h1 h2
    → map is_open h2.clients ≡ map is_open h1.clients → replies_of h2 ≡ replies_of h1 → h2.admitted ≡ h1.admitted + 1
    → StoresIn (stored ecu moment frame ∷ []) k1 k2 f1 f2 → ChangesTraceAlone k1 f1 f2
    → Reported ecu apid count moment (left - counter) h0 h2 k0 k2 f0 f2
reports_one ecu apid count moment left counter frame h0 h1 h2 k0 k1 k2 f0 f1 f2 some is what far adds rooms same still asked admitted stores others =
    let next = next_record ecu apid left counter frame some is what in
    let rest = lost_frames ecu apid (left - counter) in record {
      done = far.done ++ frame ∷ [];
      all = far.all ∙ ap (λ (fs : List (List ℕ)). far.done ++ fs) next ∙ sym (append_assoc far.done (frame ∷ []) rest);
      takes = record {
        adds = admits-one far.done frame h0 h1 h2 far.takes.adds adds;
        same = same_hub-later h0 h1 h2 far.takes.same same;
        still_open = still ∙ far.takes.still_open;
        replies = asked ∙ far.takes.replies;
        admitted = admitted ∙ omega (arith, far.takes.admitted, length-append far.done (frame ∷ []));
        stores = subst (λ (fs : List (List ℕ)). StoresEach fs k0 k2 f0 f2) (sym (map-append (stored ecu moment) far.done (frame ∷ [])))
            (each-one (map (stored ecu moment) far.done) (stored ecu moment frame) k0 k1 k2 f0 f1 f2 far.takes.stores stores);
        others = alone-later k0 k1 f0 f1 f2 far.directory far.takes.others others;
      };
      directory = same_directory (stored ecu moment frame ∷ []) k1 k2 f1 f2 stores ∙ far.directory;
      room =
          let size : size_of (lost_frames ecu apid left) ≡ length frame + size_of rest = ap size_of next ∙ sum_by-cons length frame rest in
          rooms (size_of rest) (subst (λ (n : ℕ). EachHasRoom n h1) size far.room);
    }

-- room for more is room for less
pub less_room : (more less : ℕ) (hub : Hub) → less ≤ more → EachHasRoom more hub → EachHasRoom less hub
less_room more less hub below room = λ number. by_outbox (outbox_of hub number) (room number) where
  by_outbox : (o : Option Waiting) → IfSome o (λ w. length w.bytes + more ≤ w.capacity) → IfSome o (λ w. length w.bytes + less ≤ w.capacity)
  by_outbox None h = tt {0}
  by_outbox (Some w) h = omega (arith, h, below)

-- and there is room for the next record
pub room_for_next : (ecu apid : List ℕ) (left counter : ℕ) (frame : List ℕ) (hub : Hub) → 0 < left → counter ≡ min left 4294967295 → frame ≡ overflow_record ecu apid zero_id counter
    → EachHasRoom (size_of (lost_frames ecu apid left)) hub → EachHasRoom (length frame) hub
room_for_next ecu apid left counter frame hub some is what room =
    let next = next_record ecu apid left counter frame some is what in
    let size : size_of (lost_frames ecu apid left) ≡ length frame + size_of (lost_frames ecu apid (left - counter)) = ap size_of next ∙ sum_by-cons length frame (lost_frames ecu apid (left - counter)) in
    less_room (size_of (lost_frames ecu apid left)) (length frame) hub (omega (arith, size)) room

-- and so few records are left that the next one may be admitted
pub few_left : (ecu apid : List ℕ) (count : ℕ) (moment : Moment) (left counter : ℕ) (frame : List ℕ) (h0 h1 : Hub) (k0 k1 : Option Trace) (f0 f1 : FolderTold)
    → 0 < left → counter ≡ min left 4294967295 → frame ≡ overflow_record ecu apid zero_id counter
    → Reported ecu apid count moment left h0 h1 k0 k1 f0 f1 → h0.admitted + length (lost_frames ecu apid count) ≤ 2 ^ 40 → h1.admitted < 2 ^ 40
few_left ecu apid count moment left counter frame h0 h1 k0 k1 f0 f1 some is what far few =
    let next = next_record ecu apid left counter frame some is what in
    let all = ap length far.all ∙ length-append far.done (lost_frames ecu apid left) in
    let rest : length (lost_frames ecu apid left) ≡ suc (length (lost_frames ecu apid (left - counter))) = ap length next in
    omega (arith, far.takes.admitted, all, rest, few)

-- all are reported where none is left
pub reports_all : (ecu apid : List ℕ) (count : ℕ) (moment : Moment) (left : ℕ) (h0 h1 : Hub) (k0 k1 : Option Trace) (f0 f1 : FolderTold)
    → Reported ecu apid count moment left h0 h1 k0 k1 f0 f1 → left ≡ 0 → TakesIn ecu moment (lost_frames ecu apid count) h0 h1 k0 k1 f0 f1
reports_all ecu apid count moment left h0 h1 k0 k1 f0 f1 far none =
    subst (λ (fs : List (List ℕ)). TakesIn ecu moment fs h0 h1 k0 k1 f0 f1)
    (sym (append-nil far.done) ∙ ap (λ (n : ℕ). far.done ++ lost_frames ecu apid n) (sym none) ∙ sym far.all) far.takes
