-- Log messages of a program, together and one after the other.
use Rattle.std.proofs.Common.{◌≡◌, ◌≤◌, ◌+◌, ℕ, true, List, [], ◌∷◌, ◌++◌, length, length-append, map, None, refl, sym, ap, subst, ◌∙◌, append-nil, append_assoc, arith}
use Rattle.std.specs.List.{AllByRecursion, filter_map}
use Rattle.std.specs.Prelude.{slice_get, count_by}
use Rattle.std.proofs.lemmas.Grind.{flat_map-append}
use Rattle.std.proofs.lemmas.List.{map-append}
use Rattle.dl_bytes.specs.Limits.{admitted_limit}
use Rattle.dl_bytes.specs.UserMessage.{IsFit}
use Rattle.dl_bytes.specs.declared.moment.Moment.{Moment}
use Rattle.dl_bytes.specs.declared.user.UserMsg.{UserMsg}
use Rattle.dl_bytes.specs.declared.user.UserMsg.TheVariants as user
use Rattle.dl_events.specs.declared.event.Event.{Event}
use Rattle.dl_events.specs.declared.event.Why.{Why}
use Rattle.dl_model.specs.Frames.{stored, user_frames}
use Rattle.dl_model.specs.Journal.{AreInTurn, IsRunning}
use Rattle.dl_model.specs.Report.{closed_of}
use Rattle.dl_model.proofs.LongerJournals.{goes_on}
use Rattle.dl_registry.specs.Kept as registry
use Rattle.dl_registry.specs.Kept.{Kept, owed_change}
use Rattle.dl_registry.proofs.Following.{change_is_owed}
use Rattle.dl_hub.specs.State.{is_open}
use Rattle.dl_core.specs.State.{Core}
use Rattle.dl_core.specs.Admission.{IsLog, has_frames, message_frames, user_event}
use Rattle.dl_core.specs.Follows.{Run, source_of}
use Rattle.dl_core.specs.Noting.{NotesMessages}
use Rattle.dl_core.proofs.BatchedMessages.{registry_log}
use Rattle.dl_core.proofs.GatheredMessages.{one_each, one_frame}
use Rattle.dl_admission.specs.Admission.{Admits, AreNoted, Entry, Forwards, ForwardsAll, Uses, message_entry}
use Rattle.dl_admission.specs.Part.{Part}
use Rattle.dl_admission.specs.Slow.{TellRooms}
use Rattle.dl_admission.proofs.Admitted.{admits_both, admits_given, admits_none, running_both}
use Rattle.dl_admission.proofs.Entries.{uses_both, uses_none}
use Rattle.dl_admission.proofs.KeptClients.{clients_stay}
use Rattle.dl_admission.proofs.KeptTraces.{trace_in}

-- ---- together

module _ (moment : Moment) (channel : ℕ) where
  messages_noted : (ecu : List ℕ) (msgs : List UserMsg) → AreNoted (map (message_entry ecu moment channel) msgs) (map (user_event moment channel) msgs)
  messages_noted ecu [] = refl
  messages_noted ecu (msg ∷ msgs) = ([], map (user_event moment channel) msgs, refl, tt, tt, messages_noted ecu msgs)

  messages_running : (msgs : List UserMsg) → IsRunning (map (user_event moment channel) msgs)
  messages_running [] = refl
  messages_running (msg ∷ msgs) = messages_running msgs

  messages_close : (client : ℕ) (msgs : List UserMsg) → filter_map (closed_of client) (map (user_event moment channel) msgs) ≡ []
  messages_close client [] = refl
  messages_close client (msg ∷ msgs) = messages_close client msgs

  messages_in_turn : (run : Run) (msgs : List UserMsg) (before : List Event) (kept : Kept) → AllByRecursion IsLog msgs → registry.IsAfter run.setting before kept → owed_change kept ≡ None
      → IsRunning before → AreInTurn run.setting (source_of run) before (map (user_event moment channel) msgs)
  messages_in_turn run [] before kept logs is none running = tt
  messages_in_turn run (msg ∷ msgs) before kept logs is none running = (
    (sym (change_is_owed run.setting before kept is) ∙ none, running),
    messages_in_turn run msgs (before ++ user_event moment channel msg ∷ []) kept logs.1 (registry_log moment channel run.setting msg before kept logs.0 is) none
        (running_both before (user_event moment channel msg ∷ []) running refl),
  )

  messages_rooms : (run : Run) (taken : ℕ → List ℕ) (msgs : List UserMsg) (before : List Event) → TellRooms run taken before (map (user_event moment channel) msgs)
  messages_rooms run taken [] before = tt
  messages_rooms run taken (msg ∷ msgs) before = (tt, messages_rooms run taken msgs (before ++ user_event moment channel msg ∷ []))

  pub messages_admit : (msgs : List UserMsg) (old new : Part) → AllByRecursion IsLog msgs → owed_change old.core.registry ≡ None
      → NotesMessages moment channel msgs old.core new.core old.folder new.folder old.events new.events → new.core ≡ record old.core { hub = new.core.hub; trace = new.core.trace }
      → ForwardsAll moment channel msgs old new
  messages_admit msgs old new logs settled notes same =
      let more = map (user_event moment channel) msgs in
      record {
        more = more;
        events = notes.event;
        noted = messages_noted old.core.ecu msgs;
        running = messages_running msgs;
        after = notes.after;
        formed = λ run past taken gives is running well.
            goes_on run.setting (source_of run) past more well (messages_in_turn run msgs past old.core.registry logs is.registry settled running);
        rooms = λ run past taken gives is. messages_rooms run taken msgs past;
        admitted = notes.admitted;
        clients = clients_stay more old.core.hub new.core.hub (λ client. ap (λ (ws : List Why). slice_get ws 0) (messages_close client msgs)) notes.same notes.replies notes.still_open;
        trace = trace_in (map (stored old.core.ecu moment) (message_frames old.core.ecu msgs)) old.core.trace new.core.trace old.folder new.folder notes.stores notes.others;
        rest = same;
      }

-- as many frames were admitted as there are messages
pub all_admitted : (msgs : List UserMsg) (ecu : List ℕ) (before after : ℕ) → AllByRecursion IsLog msgs → after ≡ before + length (message_frames ecu msgs) → after ≡ before + length msgs
all_admitted msgs ecu before after logs so = so ∙ ap (λ (n : ℕ). before + n) (one_each ecu msgs logs)

-- ---- one by one

-- a log message has frames, and is fit
pub log_has_frames : (msg : UserMsg) → IsLog msg → has_frames msg ≡ true
log_has_frames (user.Log message) is = refl
log_has_frames (user.Overflow counter apid) is = absurd is
log_has_frames (user.RegisterApp apid pid text) is = absurd is
log_has_frames (user.UnregisterApp apid pid) is = absurd is
log_has_frames (user.RegisterContext apid ctid position level trace pid text) is = absurd is
log_has_frames (user.UnregisterContext apid ctid pid) is = absurd is
log_has_frames (user.LogLevel a b c) is = absurd is
log_has_frames (user.Injection a b c) is = absurd is

pub log_is_fit : (msg : UserMsg) → IsLog msg → IsFit msg
log_is_fit (user.Log message) is = is
log_is_fit (user.Overflow counter apid) is = absurd is
log_is_fit (user.RegisterApp apid pid text) is = absurd is
log_is_fit (user.UnregisterApp apid pid) is = absurd is
log_is_fit (user.RegisterContext apid ctid position level trace pid text) is = absurd is
log_is_fit (user.UnregisterContext apid ctid pid) is = absurd is
log_is_fit (user.LogLevel a b c) is = absurd is
log_is_fit (user.Injection a b c) is = absurd is

-- one message more
forwards_more : (moment : Moment) (channel : ℕ) (msgs : List UserMsg) (msg : UserMsg) (old between new : Part) → ForwardsAll moment channel msgs old between
    → Forwards moment channel msg between new → ForwardsAll moment channel (msgs ++ msg ∷ []) old new
forwards_more moment channel msgs msg old between new first second =
    let entry = message_entry old.core.ecu moment channel in
    let ecu : between.core.ecu ≡ old.core.ecu = ap (λ (k : Core). k.ecu) first.rest in
    let behind = subst (λ (e : List ℕ). Admits (message_entry e moment channel msg ∷ []) (λ run. Unit {0}) (length (user_frames e msg)) between new) ecu second in
    let both = admits_both (map entry msgs) (entry msg ∷ []) (λ run. Unit {0}) (λ run. Unit {0}) (length (message_frames old.core.ecu msgs)) (length (user_frames old.core.ecu msg)) old between new first behind in
    let frames : message_frames old.core.ecu (msgs ++ msg ∷ []) ≡ message_frames old.core.ecu msgs ++ user_frames old.core.ecu msg =
    flat_map-append (user_frames old.core.ecu) msgs (msg ∷ []) ∙ ap (λ (fs : List (List ℕ)). message_frames old.core.ecu msgs ++ fs) (append-nil (user_frames old.core.ecu msg)) in
    let count : length (message_frames old.core.ecu msgs) + length (user_frames old.core.ecu msg) ≡ length (message_frames old.core.ecu (msgs ++ msg ∷ [])) =
    sym (length-append (message_frames old.core.ecu msgs) (user_frames old.core.ecu msg)) ∙ ap length (sym frames) in
    subst (λ (n : ℕ). Admits (map entry (msgs ++ msg ∷ [])) (λ run. Unit {0}) n old new) count
    (subst (λ (es : List Entry). Admits es (λ run. Unit {0}) (length (message_frames old.core.ecu msgs) + length (user_frames old.core.ecu msg)) old new) (sym (map-append entry msgs (msg ∷ [])))
    (admits_given (λ run gives. (tt, tt)) both))

-- some of these log messages are forwarded, and those are left
pub record Forwarded (moment : Moment) (channel : ℕ) (all left : List UserMsg) (old new : Part) (n0 n1 s0 s1 : ℕ) : Type 0 where
  pub done : List UserMsg
  pub all_is : all ≡ done ++ left
  pub logs : AllByRecursion IsLog left
  pub one_each : length (message_frames old.core.ecu done) ≡ length done
  pub forwards : ForwardsAll moment channel done old new
  pub uses : Uses (length done) old.core.hub new.core.hub n0 n1 s0 s1

pub forwarded_none : (moment : Moment) (channel : ℕ) (all : List UserMsg) (p : Part) (n s : ℕ) → AllByRecursion IsLog all → Forwarded moment channel all all p p n n s s
forwarded_none moment channel all p n s logs =
    record { done = []; all_is = refl; logs = logs; one_each = refl; forwards = admits_given (λ run gives. tt) (admits_none p); uses = uses_none p.core.hub n s }

-- the first of those that are left
pub next_left : {moment : Moment} {channel : ℕ} {all : List UserMsg} (items left : List UserMsg) (msg : UserMsg) {old new : Part} {n0 n1 s0 s1 : ℕ} → items ≡ msg ∷ left
    → Forwarded moment channel all items old new n0 n1 s0 s1 → Forwarded moment channel all (msg ∷ left) old new n0 n1 s0 s1
next_left {moment} {channel} {all} items left msg {old} {new} {n0} {n1} {s0} {s1} here far = subst (λ (ms : List UserMsg). Forwarded moment channel all ms old new n0 n1 s0 s1) here far

module _ {moment : Moment} {channel : ℕ} {all left : List UserMsg} {msg : UserMsg} {old between : Part} {n0 n1 s0 s1 : ℕ} (far : Forwarded moment channel all (msg ∷ left) old between n0 n1 s0 s1) where
  split : length all ≡ length far.done + length (msg ∷ left)
  split = ap length far.all_is ∙ length-append far.done (msg ∷ left)

  pub next_settled : owed_change old.core.registry ≡ None → owed_change between.core.registry ≡ None
  next_settled settled = ap (λ (k : Core). owed_change k.registry) far.forwards.rest ∙ settled

  pub next_spare : count_by is_open old.core.hub.clients + length all ≤ s0 → count_by is_open between.core.hub.clients + 1 ≤ s1
  next_spare spare = omega (arith, spare, far.uses.clients, far.uses.spare_so, split)

  pub next_few : old.core.hub.admitted + length all ≤ admitted_limit → between.core.hub.admitted + length (user_frames between.core.ecu msg) ≤ admitted_limit
  next_few few = omega (arith, few, far.forwards.admitted, far.one_each, split, one_frame between.core.ecu msg far.logs.0)

  pub forwarded_one : (new : Part) (n2 s2 : ℕ) → Forwards moment channel msg between new → Uses 1 between.core.hub new.core.hub n1 n2 s1 s2 → Forwarded moment channel all left old new n0 n2 s0 s2
  forwarded_one new n2 s2 forwards uses =
      let ecu = old.core.ecu in
      let count : length far.done + 1 ≡ length (far.done ++ msg ∷ []) = sym (length-append far.done (msg ∷ [])) in
      let frames : message_frames ecu (far.done ++ msg ∷ []) ≡ message_frames ecu far.done ++ user_frames ecu msg =
      flat_map-append (user_frames ecu) far.done (msg ∷ []) ∙ ap (λ (fs : List (List ℕ)). message_frames ecu far.done ++ fs) (append-nil (user_frames ecu msg)) in
      record {
        done = far.done ++ msg ∷ [];
        all_is = far.all_is ∙ sym (append_assoc far.done (msg ∷ []) left);
        logs = far.logs.1;
        one_each = omega (arith, ap length frames, length-append (message_frames ecu far.done) (user_frames ecu msg), one_frame ecu msg far.logs.0, far.one_each, count);
        forwards = forwards_more moment channel far.done msg old between new far.forwards forwards;
        uses = subst (λ (n : ℕ). Uses n old.core.hub new.core.hub n0 n2 s0 s2) count (uses_both (length far.done) 1 old.core.hub between.core.hub new.core.hub n0 n1 n2 s0 s1 s2 far.uses uses);
      }
