-- Each event of a run stands in its turn.
use Rattle.std.proofs.Common.{◌≡◌, ℕ, ◌+◌, ◌<◌, ◌≤◌, Bool, true, false, cond, ltb, List, [], ◌∷◌, ◌++◌, length, Option, Some, None, refl, sym, ap, subst, ◌∙◌, append_assoc, arith}
use Rattle.std.specs.Prelude.{map, count_by, replicate, is_some, slice_get, take, negsuc, ◌&&◌, ◌%◌, unwrap_or}
use Rattle.std.specs.List.{filter_map, cons_option, range_with_len}
use Rattle.std.proofs.lemmas.Bool.{ltb-true, and_parts}
use Rattle.std.proofs.lemmas.List.{append-nil}
use Rattle.std.proofs.lemmas.List.Elements.{filter_map-append}
use Rattle.dl_lemmas.proofs.Options.{same_thing}
use Rattle.dl_bytes.specs.Claim.{Claimed}
use Rattle.dl_bytes.specs.Limits.{message_limit}
use Rattle.dl_bytes.specs.declared.outcome.Done.{Done}
use Rattle.dl_bytes.specs.declared.outcome.Done.TheVariants as did
use Rattle.dl_bytes.specs.declared.user.UserMsg.{UserMsg}
use Rattle.dl_bytes.specs.declared.user.UserMsg.TheVariants as user
use Rattle.dl_bytes.specs.Level.{passes}
use Rattle.dl_bytes.specs.Number.{◌>>=◌}
use Rattle.dl_message.specs.Cut.{rest_fault, rest_of}
use Rattle.dl_events.specs.declared.event.Event.{Event}
use Rattle.dl_events.specs.declared.event.Event.TheVariants as event
use Rattle.dl_events.specs.declared.event.Why.{Why}
use Rattle.dl_events.specs.declared.event.Why.TheVariants as why
use Rattle.dl_script_model.specs.declared.line.CallLine.{CallLine}
use Rattle.dl_script_model.specs.declared.line.ClaimLine.{ClaimLine}
use Rattle.dl_script_model.specs.declared.step.LevelEvents.TheVariants as levels
use Rattle.dl_script_model.specs.declared.step.Step.{Step}
use Rattle.dl_script_model.specs.declared.step.Step.TheVariants as line
use Rattle.dl_model.specs.declared.registry.LevelChange.{LevelChange}
use Rattle.dl_model.specs.Along.{last_that}
use Rattle.dl_model.specs.Setting.{Setting}
use Rattle.dl_model.specs.Registry.{slot_of}
use Rattle.dl_model.specs.Reply.{Need, Nothing, Folder, Queue, MayAnswer}
use Rattle.dl_model.specs.Journal.{slots_of, owed, is_connect, is_close, comes_or_goes, IsOpen, is_request_of, is_slow, is_stop, IsSettled, MayRequest, need_after}
use Rattle.dl_script_model.specs.Marks.{Call, Mark, HasApp, HasContext, Filtered, Passed, Queued, Refused, Counted, HasClaim, Announced, HeldBack, Noted, Fed, Heard, Handed, Injected, Answered, is_answer, journal, event_of, apps, number_of, named_place, writer_numbers, app_of_writer, calls_of, passed_of, to_push, to_count, to_announce, unannounced, Pushed, OfCall, OfClaim, pushes, taken, held_by, is_full, is_later, pending, moment, fed, injections}
use Rattle.dl_script_model.specs.Steps.{Act, in_sequence, just, for_some, when, level_noted, note_levels, note_levels_now, changes, note, loaded, load, push, count, finish, begin_call, whole_call, claim_made, claim, announce, announce_all, event_taken, take_log, take_losses, is_open, close, connect, served, request_now, ask, new_requests, close_malformed, receive, new_messages, tell, hear, take_injection, on_app, act_of, drain, after_lines}
use Rattle.dl_model.proofs.Lists.{last_that-one, count_by-append}
use Rattle.dl_runs.proofs.Relations.{AreAll, both, turns, each, and_one, repeated, asked_for, where_so, announced, Keeps}
use Rattle.dl_laws.proofs.ClientStays.{is_open_in}
use Rattle.dl_runs.proofs.WriterRuns.{IsOwn}
use Rattle.dl_runs.proofs.LevelTurns.{levels_in_turn}

-- ---- an event in its turn, but for the daemon's stop

pub record MayCome (setting : Setting) (before : List Event) (client : ℕ) : Type 0 where
  pub settled : IsSettled setting before
  pub number : client ≡ 1 + count_by is_connect before
  pub limit : client ≤ setting.clients
  pub at_most : count_by is_connect before < count_by is_close before + 8

pub record MayGo (setting : Setting) (before : List Event) (client : ℕ) (cause : Why) : Type 0 where
  pub settled : IsSettled setting before
  pub is_open : IsOpen client before
  pub not_slow : is_slow (event.Close client cause) ≡ false

abbrev pub TurnOf : Setting → List Event → Event → Type 0
TurnOf setting before (event.Level slot level) = owed setting before ≡ Some (record { slot = slot; level = level })
TurnOf setting before (event.Connect client) = MayCome setting before client
TurnOf setting before (event.Request client frame answer) = MayRequest setting before client frame answer
TurnOf setting before (event.Close client cause) = MayGo setting before client cause
TurnOf setting before _ = IsSettled setting before

-- what a mark may be, where only these events are wanted: all but those of the stop, or those of the stop alone
abbrev pub NoStop : Event → Type 0
NoStop e = is_stop e ≡ false

abbrev pub Going : Event → Type 0
Going (event.Close client cause) = Unit {0}
Going (event.Level slot level) = Unit {0}
Going _ = ⊥

-- a mark in its turn: its event is, and its load is of its writer's application
abbrev pub Turn : Setting → (Event → Type 0) → List Mark → Mark → Type 0
Turn setting Only done (Noted e) = TurnOf setting (journal done) e × Only e
Turn setting Only done (Filtered c) = IsOwn c done
Turn setting Only done (Passed c) = IsOwn c done
Turn setting Only done (Fed client bytes) = is_open client done ≡ true
Turn setting Only done _ = Unit {0}

abbrev pub OnLevels : (Event → Type 0) → Type 0
OnLevels Only = (slot level : ℕ) → Only (event.Level slot level)

-- ---- Level events

handed : (setting : Setting) (Only : Event → Type 0) → OnLevels Only → (done : List Mark) → AreAll (Turn setting Only) done (note_levels setting done) × IsSettled setting (journal (done ++ note_levels setting done))
handed setting Only on_levels done = levels_in_turn setting (Turn setting Only) (λ d c turn. (turn, on_levels c.slot c.level)) done

hands_out : (setting : Setting) (Only : Event → Type 0) → OnLevels Only → Keeps (Turn setting Only) (note_levels setting)
hands_out setting Only on_levels done = (handed setting Only on_levels done).0

hands_out_now : (setting : Setting) (Only : Event → Type 0) → OnLevels Only → Keeps (Turn setting Only) (note_levels_now setting)
hands_out_now setting Only on_levels done = by_test (is_later done) where
  by_test : (b : Bool) → AreAll (Turn setting Only) done (cond b [] (note_levels setting done))
  by_test true = tt
  by_test false = hands_out setting Only on_levels done

-- ---- an event with its Level events

abbrev pub ready : Setting → List Mark → List Mark
ready setting done = done ++ note_levels setting done

pub note_in_turn : (setting : Setting) (Only : Event → Type 0) → OnLevels Only → (make : List Mark → Event) (done : List Mark) →
    (IsSettled setting (journal (ready setting done)) → TurnOf setting (journal (ready setting done)) (make (ready setting done)) × Only (make (ready setting done))) →
    AreAll (Turn setting Only) done (note setting make done)
note_in_turn setting Only on_levels make done turn =
    let first = handed setting Only on_levels done in
    let R = Turn setting Only in
    both R done (note_levels setting done) (in_sequence ((λ now. Noted (make now) ∷ []) ∷ note_levels_now setting ∷ []) (ready setting done)) first.0
    (both R (ready setting done) (Noted (make (ready setting done)) ∷ []) (in_sequence (note_levels_now setting ∷ []) (ready setting done ++ Noted (make (ready setting done)) ∷ []))
    (turn first.1, tt) (turns R (note_levels_now setting ∷ []) (hands_out_now setting Only on_levels, tt) (ready setting done ++ Noted (make (ready setting done)) ∷ [])))

-- ---- what Level events leave as it was

journal_levels : (done : List Mark) (cs : List LevelChange) → journal (done ++ map level_noted cs) ≡ journal done ++ map (λ (c : LevelChange). event.Level c.slot c.level) cs
journal_levels done cs = filter_map-append event_of done (map level_noted cs) ∙ ap (λ (es : List Event). journal done ++ es) (only_levels cs) where
  only_levels : (cs : List LevelChange) → filter_map event_of (map level_noted cs) ≡ map (λ (c : LevelChange). event.Level c.slot c.level) cs
  only_levels [] = refl
  only_levels (c ∷ cs) = ap (λ (es : List Event). event.Level c.slot c.level ∷ es) (only_levels cs)

no_levels : (p : Event → Bool) → ((slot level : ℕ) → p (event.Level slot level) ≡ false) → (cs : List LevelChange) → count_by p (map (λ (c : LevelChange). event.Level c.slot c.level) cs) ≡ 0
no_levels p none [] = refl
no_levels p none (c ∷ cs) =
    let one : ◌≡◌ {A = ℕ} (cond (p (event.Level c.slot c.level)) 1 0) 0 = ap (λ (b : Bool). cond b 1 0) (none c.slot c.level) in
    let both_parts = count_by-append p (event.Level c.slot c.level ∷ []) (map (λ (c : LevelChange). event.Level c.slot c.level) cs) in
    omega (arith, both_parts, one, no_levels p none cs)

pub count_levels : (p : Event → Bool) → ((slot level : ℕ) → p (event.Level slot level) ≡ false) → (done : List Mark) (cs : List LevelChange) → count_by p (journal (done ++ map level_noted cs)) ≡ count_by p (journal done)
count_levels p none done cs =
    let all = ap (count_by p) (journal_levels done cs) ∙ count_by-append p (journal done) (map (λ (c : LevelChange). event.Level c.slot c.level) cs) in
    omega (arith, all, no_levels p none cs)

last_levels : (client : ℕ) (done : List Mark) (cs : List LevelChange) → last_that (comes_or_goes client) (journal (done ++ map level_noted cs)) ≡ last_that (comes_or_goes client) (journal done)
last_levels client done [] = ap (λ ms. last_that (comes_or_goes client) (journal ms)) (append-nil done)
last_levels client done (c ∷ cs) =
    ap (λ ms. last_that (comes_or_goes client) (journal ms)) (sym (append_assoc done (level_noted c ∷ []) (map level_noted cs)))
    ∙ last_levels client (done ++ level_noted c ∷ []) cs
    ∙ ap (last_that (comes_or_goes client)) (filter_map-append event_of done (level_noted c ∷ []))
    ∙ last_that-one (comes_or_goes client) (journal done) (event.Level c.slot c.level)

-- an open client came last
pub open_is : (client : ℕ) (done : List Mark) → is_open client done ≡ true → IsOpen client (journal done)
open_is client done is = is_open_in client (journal done) is

open_ready : (setting : Setting) (client : ℕ) (done : List Mark) → is_open client done ≡ true → IsOpen client (journal (ready setting done))
open_ready setting client done is = last_levels client done (changes setting (journal done)) ∙ open_is client done is

-- ---- clients

pub close_in_turn : (setting : Setting) (Only : Event → Type 0) → OnLevels Only → (client : ℕ) (cause : Why) → is_slow (event.Close client cause) ≡ false → Only (event.Close client cause) → Keeps (Turn setting Only) (close setting client cause)
close_in_turn setting Only on_levels client cause not_slow only done =
    where_so (Turn setting Only) (is_open client done) (note setting (λ _. event.Close client cause)) done (λ there.
    note_in_turn setting Only on_levels (λ _. event.Close client cause) done (λ settled. (record { settled = settled; is_open = open_ready setting client done there; not_slow = not_slow }, only)))

stops_none : OnLevels NoStop
stops_none slot level = refl

connect_in_turn : (setting : Setting) → Keeps (Turn setting NoStop) (connect setting)
connect_in_turn setting done =
    let came = count_by is_connect (journal done) in
    let gone = count_by is_close (journal done) in
    let cs = changes setting (journal done) in
    let came_now : count_by is_connect (journal (ready setting done)) ≡ came = count_levels is_connect (λ _ _. refl) done cs in
    let gone_now : count_by is_close (journal (ready setting done)) ≡ gone = count_levels is_close (λ _ _. refl) done cs in
    where_so (Turn setting NoStop) (ltb came setting.clients && ltb came (gone + 8)) (note setting (λ _. event.Connect (came + 1))) done (λ may.
    let parts = and_parts (ltb came setting.clients) (ltb came (gone + 8)) may in
    let few : came < setting.clients = ltb-true came setting.clients parts.0 in
    let room : came < gone + 8 = ltb-true came (gone + 8) parts.1 in
    note_in_turn setting NoStop stops_none (λ _. event.Connect (came + 1)) done
    (λ settled. (record { settled = settled; number = omega (arith, came_now); limit = omega (arith, few); at_most = omega (arith, room, came_now, gone_now) }, refl)))

-- ---- requests

-- a client may ask, whatever the answer is
record MayAsk (setting : Setting) (before : List Event) (client : ℕ) : Type 0 where
  settled : IsSettled setting before
  is_open : IsOpen client before
  limit : count_by (is_request_of client) before < 1000

with_answer : (setting : Setting) (before : List Event) (client : ℕ) (frame : List ℕ) (answer : Done) (need : Need) → need_after setting before frame ≡ need → MayAnswer need answer → MayAsk setting before client
    → MayRequest setting before client frame answer
with_answer setting before client frame answer need is can may =
    record { settled = may.settled; is_open = may.is_open; limit = may.limit; answered = subst (λ (n : Need). MayAnswer n answer) (sym is) can }

-- a mark that is no event changes nothing
request_later : (setting : Setting) (done : List Mark) (mark : Mark) (client : ℕ) (frame : List ℕ) (answer : Done) → event_of mark ≡ None → MayRequest setting (journal done) client frame answer
    → MayRequest setting (journal (done ++ mark ∷ [])) client frame answer
request_later setting done mark client frame answer none may =
    let same : journal (done ++ mark ∷ []) ≡ journal done = filter_map-append event_of done (mark ∷ []) ∙ ap (λ (o : Option Event). journal done ++ cons_option o []) none ∙ append-nil (journal done) in
    subst (λ es. MayRequest setting es client frame answer) (sym same) may

yes_has_memory : did.Yes ≡ did.NoMemory → ⊥
yes_has_memory e = absurd cc

failed_has_memory : did.Failed ≡ did.NoMemory → ⊥
failed_has_memory e = absurd cc

served_in_turn : (setting : Setting) (answers : List Done) (client : ℕ) (frame : List ℕ) (need : Need) (done : List Mark) → need_after setting (journal done) frame ≡ need → MayAsk setting (journal done) client
    → AreAll (Turn setting NoStop) done (served answers client frame need done)
served_in_turn setting answers client frame Nothing done is may = ((with_answer setting (journal done) client frame did.Yes Nothing is refl may, refl), tt)
served_in_turn setting answers client frame Folder done is may =
    let answer = unwrap_or (slice_get answers (count_by is_answer done)) did.Yes in
    (tt, ((request_later setting done (Answered answer) client frame answer refl (with_answer setting (journal done) client frame answer Folder is tt may), refl), tt))
served_in_turn setting answers client frame (Queue app) done is may = by_test (ltb (injections app done) 16) where
  by_test : (b : Bool) → AreAll (Turn setting NoStop) done (cond b (Injected app ∷ Noted (event.Request client frame did.Yes) ∷ []) (Noted (event.Request client frame did.Failed) ∷ []))
  by_test true = (tt, ((request_later setting done (Injected app) client frame did.Yes refl (with_answer setting (journal done) client frame did.Yes (Queue app) is yes_has_memory may), refl), tt))
  by_test false = ((with_answer setting (journal done) client frame did.Failed (Queue app) is failed_has_memory may, refl), tt)

request_in_turn : (setting : Setting) (answers : List Done) (client : ℕ) (frame : List ℕ) (done : List Mark) → MayAsk setting (journal done) client → AreAll (Turn setting NoStop) done (request_now setting answers client frame done)
request_in_turn setting answers client frame done may = served_in_turn setting answers client frame (need_after setting (journal done) frame) done refl may

ask_in_turn : (setting : Setting) (answers : List Done) (client : ℕ) (frame : List ℕ) → Keeps (Turn setting NoStop) (ask setting answers client frame)
ask_in_turn setting answers client frame done = by_test (ltb (count_by (is_request_of client) (journal done)) 1000) refl where
  few_now : count_by (is_request_of client) (journal (ready setting done)) ≡ count_by (is_request_of client) (journal done)
  few_now = count_levels (is_request_of client) (λ _ _. refl) done (changes setting (journal done))

  at_request : count_by (is_request_of client) (journal done) < 1000 → is_open client done ≡ true →
      AreAll (Turn setting NoStop) done (in_sequence (note_levels setting ∷ request_now setting answers client frame ∷ note_levels_now setting ∷ []) done)
  at_request few there =
      let first = handed setting NoStop stops_none done in
      let may : MayAsk setting (journal (ready setting done)) client = record { settled = first.1; is_open = open_ready setting client done there; limit = omega (arith, few, few_now) } in
      let now = ready setting done ++ request_now setting answers client frame (ready setting done) in
      both (Turn setting NoStop) done (note_levels setting done) (in_sequence (request_now setting answers client frame ∷ note_levels_now setting ∷ []) (ready setting done)) first.0
      (both (Turn setting NoStop) (ready setting done) (request_now setting answers client frame (ready setting done)) (in_sequence (note_levels_now setting ∷ []) now)
      (request_in_turn setting answers client frame (ready setting done) may) (turns (Turn setting NoStop) (note_levels_now setting ∷ []) (hands_out_now setting NoStop stops_none, tt) now))

  by_test : (b : Bool) → ltb (count_by (is_request_of client) (journal done)) 1000 ≡ b →
      AreAll (Turn setting NoStop) done (cond b (when (is_open client done) (in_sequence (note_levels setting ∷ request_now setting answers client frame ∷ note_levels_now setting ∷ [])) done) (close setting client why.TooMany done))
  by_test true few =
      where_so (Turn setting NoStop) (is_open client done) (in_sequence (note_levels setting ∷ request_now setting answers client frame ∷ note_levels_now setting ∷ [])) done
      (λ there. at_request (ltb-true (count_by (is_request_of client) (journal done)) 1000 few) there)
  by_test false few = close_in_turn setting NoStop stops_none client why.TooMany refl refl done

close_malformed_in_turn : (setting : Setting) (client : ℕ) → Keeps (Turn setting NoStop) (close_malformed setting client)
close_malformed_in_turn setting client done =
    where_so (Turn setting NoStop) (is_some (rest_fault message_limit (rest_of message_limit (fed client done)))) (close setting client why.Malformed) done
    (λ _. close_in_turn setting NoStop stops_none client why.Malformed refl refl done)

receive_in_turn : (setting : Setting) (answers : List Done) (client : ℕ) (bytes : List ℕ) → Keeps (Turn setting NoStop) (receive setting answers client bytes)
receive_in_turn setting answers client bytes done =
    let R = Turn setting NoStop in
    let asks = map (ask setting answers client) (new_requests client bytes done) in
    let others = asks ++ close_malformed setting client ∷ [] in
    where_so R (is_open client done) (in_sequence (just (Fed client bytes) ∷ others)) done
    (λ there. both R done (Fed client bytes ∷ []) (in_sequence others (done ++ Fed client bytes ∷ [])) (there, tt)
    (turns R others (and_one R asks (close_malformed setting client) (each R (ask setting answers client) (ask_in_turn setting answers client) (new_requests client bytes done)) (close_malformed_in_turn setting client)) (done ++ Fed client bytes ∷ [])))

-- ---- channels

tell_in_turn : (setting : Setting) (channel : ℕ) (msg : UserMsg) → Keeps (Turn setting NoStop) (tell setting channel msg)
tell_in_turn setting channel msg done = note_in_turn setting NoStop stops_none (λ now. event.User channel msg (moment now)) done (λ settled. (settled, refl))

hear_in_turn : (setting : Setting) (channel : ℕ) (bytes : List ℕ) → Keeps (Turn setting NoStop) (hear setting channel bytes)
hear_in_turn setting channel bytes done =
    turns (Turn setting NoStop) (just (Heard channel bytes) ∷ map (tell setting channel) (new_messages channel bytes done))
    ((λ _. (tt, tt)), each (Turn setting NoStop) (tell setting channel) (tell_in_turn setting channel) (new_messages channel bytes done)) done

-- ---- log calls

-- a call that is loaded is of its writer's application
loaded_own : (setting : Setting) (call : CallLine) (done : List Mark) (c : Call) → loaded setting call done ≡ Some c → IsOwn c done
loaded_own setting call done c e = by_writer (app_of_writer call.writer done) refl e where
  made : List ℕ → ℕ → ℕ → Call
  made apid app place = let slot = slots_of setting (journal done) (slot_of app place) in record {
    item = record {
      app = app;
      writer = call.writer;
      call = 1 + calls_of call.writer done;
      apid = apid;
      ctid = call.ctid;
      severity = call.severity;
      at = call.at;
      mcnt = passed_of call.writer done % 256;
      payload = call.payload;
    };
    slot = slot_of app place;
    version = slot.version;
    held = slot.level;
  }

  by_place : (apid : List ℕ) (app : ℕ) → app_of_writer call.writer done ≡ Some apid → number_of apid done ≡ Some app → (o : Option ℕ) → (o >>= λ place. Some (made apid app place)) ≡ Some c → IsOwn c done
  by_place apid app is_writer is_app None e = absurd cc
  by_place apid app is_writer is_app (Some place) e =
      subst (λ x. IsOwn x done) (same_thing (made apid app place) c e) (record { apid = apid; of_writer = is_writer; number = is_app })

  by_app : (apid : List ℕ) → app_of_writer call.writer done ≡ Some apid → (o : Option ℕ) → number_of apid done ≡ o → (o >>= λ app. named_place call.writer apid call.ctid done >>= λ place. Some (made apid app place)) ≡ Some c → IsOwn c done
  by_app apid is_writer None is e = absurd cc
  by_app apid is_writer (Some app) is e = by_place apid app is_writer is (named_place call.writer apid call.ctid done) e

  by_writer : (o : Option (List ℕ)) → app_of_writer call.writer done ≡ o → (o >>= λ apid. number_of apid done >>= λ app. named_place call.writer apid call.ctid done >>= λ place. Some (made apid app place)) ≡ Some c → IsOwn c done
  by_writer None is e = absurd cc
  by_writer (Some apid) is e = by_app apid is (number_of apid done) refl e

load_in_turn : (setting : Setting) (call : CallLine) → Keeps (Turn setting NoStop) (load setting call)
load_in_turn setting call done =
    asked_for (Turn setting NoStop) (loaded setting call done) (λ c. just (cond (passes c.item.severity c.held) (Passed c) (Filtered c))) done
    (λ c e. (by_test c (passes c.item.severity c.held) (loaded_own setting call done c e), tt)) where
      by_test : (c : Call) (b : Bool) → IsOwn c done → Turn setting NoStop done (cond b (Passed c) (Filtered c))
      by_test c true own = own
      by_test c false own = own

pub push_in_turn : (setting : Setting) (Only : Event → Type 0) (writer : ℕ) → Keeps (Turn setting Only) (push writer)
push_in_turn setting Only writer done =
    asked_for (Turn setting Only) (to_push writer done) (λ c. just (cond (is_full c.item.app done) (Refused c) (Queued c))) done (λ c e. (by_test c (is_full c.item.app done), tt)) where
      by_test : (c : Call) (b : Bool) → Turn setting Only done (cond b (Refused c) (Queued c))
      by_test c true = tt
      by_test c false = tt

count_in_turn : (setting : Setting) (Only : Event → Type 0) (writer : ℕ) → Keeps (Turn setting Only) (count writer)
count_in_turn setting Only writer done = asked_for (Turn setting Only) (to_count writer done) (λ c. just (Counted c)) done (λ c e. (tt, tt))

finish_in_turn : (setting : Setting) (Only : Event → Type 0) (writer : ℕ) → Keeps (Turn setting Only) (finish writer)
finish_in_turn setting Only writer = turns (Turn setting Only) (push writer ∷ count writer ∷ []) (push_in_turn setting Only writer, (count_in_turn setting Only writer, tt))

begin_in_turn : (setting : Setting) (call : CallLine) → Keeps (Turn setting NoStop) (begin_call setting call)
begin_in_turn setting call = turns (Turn setting NoStop) (finish call.writer ∷ load setting call ∷ []) (finish_in_turn setting NoStop call.writer, (load_in_turn setting call, tt))

whole_in_turn : (setting : Setting) (call : CallLine) → Keeps (Turn setting NoStop) (whole_call setting call)
whole_in_turn setting call = turns (Turn setting NoStop) (begin_call setting call ∷ finish call.writer ∷ []) (begin_in_turn setting call, (finish_in_turn setting NoStop call.writer, tt))

claim_in_turn : (setting : Setting) (asked : ClaimLine) → Keeps (Turn setting NoStop) (claim asked)
claim_in_turn setting asked done = asked_for (Turn setting NoStop) (claim_made asked done) (λ c. just (HasClaim c)) done (λ c e. (tt, tt))

announce_in_turn : (setting : Setting) (writer : ℕ) → Keeps (Turn setting NoStop) (announce writer)
announce_in_turn setting writer done =
    asked_for (Turn setting NoStop) (to_announce writer done) (λ c. just (cond (is_full c.app done) (HeldBack c) (Announced c))) done (λ c e. (by_test c (is_full c.app done), tt)) where
      by_test : (c : Claimed) (b : Bool) → Turn setting NoStop done (cond b (HeldBack c) (Announced c))
      by_test c true = tt
      by_test c false = tt

announce_all_in_turn : (setting : Setting) (writer : ℕ) → Keeps (Turn setting NoStop) (announce_all writer)
announce_all_in_turn setting writer done = announced (Turn setting NoStop) writer (announce_in_turn setting writer) (unannounced writer done) done

taken_in_turn : (setting : Setting) (app : ℕ) (now : List Mark) (what : Pushed) → IsSettled setting (journal now) → TurnOf setting (journal now) (event_taken app what now) × NoStop (event_taken app what now)
taken_in_turn setting app now (OfCall c) settled = (settled, refl)
taken_in_turn setting app now (OfClaim c) settled = (settled, refl)

take_log_in_turn : (setting : Setting) (app : ℕ) → Keeps (Turn setting NoStop) (take_log setting app)
take_log_in_turn setting app done =
    asked_for (Turn setting NoStop) (slice_get (pushes app done) (taken app done)) (λ what. note setting (event_taken app what)) done
    (λ what e. note_in_turn setting NoStop stops_none (event_taken app what) done (taken_in_turn setting app (ready setting done) what))

take_losses_in_turn : (setting : Setting) (app : ℕ) → Keeps (Turn setting NoStop) (take_losses setting app)
take_losses_in_turn setting app done =
    where_so (Turn setting NoStop) (ltb 0 (pending app done)) (note setting (λ now. event.Lost app (pending app now) (moment now))) done
    (λ _. note_in_turn setting NoStop stops_none (λ now. event.Lost app (pending app now) (moment now)) done (λ settled. (settled, refl)))

-- ---- lines

on_app_in_turn : (setting : Setting) (apid : List ℕ) (act : ℕ → Act) → ((app : ℕ) → Keeps (Turn setting NoStop) (act app)) → Keeps (Turn setting NoStop) (on_app apid act)
on_app_in_turn setting apid act all done = asked_for (Turn setting NoStop) (number_of apid done) act done (λ app _. all app done)

take_injection_in_turn : (setting : Setting) (app : ℕ) → Keeps (Turn setting NoStop) (take_injection app)
take_injection_in_turn setting app done = where_so (Turn setting NoStop) (ltb 0 (injections app done)) (just (Handed app)) done (λ _. (tt, tt))

-- the first of the Level events that wait
first_of_all : (R : List Mark → Mark → Type 0) (done : List Mark) (ms : List Mark) → AreAll R done ms → AreAll R done (take 1 ms)
first_of_all R done [] all = tt
first_of_all R done (m ∷ ms) all = (all.0, tt)

pub line_in_turn : (setting : Setting) (answers : List Done) (step : Step) → Keeps (Turn setting NoStop) (act_of setting answers step)
line_in_turn setting answers (line.App app) =
    turns (Turn setting NoStop) (just (HasApp app) ∷ tell setting 0 (user.RegisterApp app.apid 0 app.text) ∷ []) ((λ _. (tt, tt)), (tell_in_turn setting 0 (user.RegisterApp app.apid 0 app.text), tt))
line_in_turn setting answers (line.Context context) =
    let msg = user.RegisterContext context.apid context.ctid 0 context.level (negsuc 0) 0 context.text in
    turns (Turn setting NoStop) (just (HasContext context) ∷ tell setting 0 msg ∷ []) ((λ _. (tt, tt)), (tell_in_turn setting 0 msg, tt))
line_in_turn setting answers (line.Writer apid) = λ _. (tt, tt)
line_in_turn setting answers (line.Clock secs micros) = λ _. (tt, tt)
line_in_turn setting answers (line.Load call) = begin_in_turn setting call
line_in_turn setting answers (line.Push writer) = push_in_turn setting NoStop writer
line_in_turn setting answers (line.Count writer) = count_in_turn setting NoStop writer
line_in_turn setting answers (line.Call call) = whole_in_turn setting call
line_in_turn setting answers (line.Log call) =
    turns (Turn setting NoStop) (whole_call setting call ∷ (λ done. for_some (app_of_writer call.writer done) (λ apid. on_app apid (take_log setting)) done) ∷ []) (
      whole_in_turn setting call,
      (
        (λ done. asked_for (Turn setting NoStop) (app_of_writer call.writer done) (λ apid. on_app apid (take_log setting)) done
            (λ apid _. on_app_in_turn setting apid (take_log setting) (take_log_in_turn setting) done)),
        tt,
      ),
    )
line_in_turn setting answers (line.Claim asked) =
    turns (Turn setting NoStop) (finish asked.writer ∷ claim asked ∷ []) (finish_in_turn setting NoStop asked.writer, (claim_in_turn setting asked, tt))
line_in_turn setting answers (line.Announce writer) =
    turns (Turn setting NoStop) (finish writer ∷ announce writer ∷ []) (finish_in_turn setting NoStop writer, (announce_in_turn setting writer, tt))
line_in_turn setting answers (line.Register asked) =
    turns (Turn setting NoStop) (finish asked.writer ∷ claim asked ∷ announce_all asked.writer ∷ [])
    (finish_in_turn setting NoStop asked.writer, (claim_in_turn setting asked, (announce_all_in_turn setting asked.writer, tt)))
line_in_turn setting answers (line.Take apid) = on_app_in_turn setting apid (take_log setting) (take_log_in_turn setting)
line_in_turn setting answers (line.Losses apid) = on_app_in_turn setting apid (take_losses setting) (take_losses_in_turn setting)
line_in_turn setting answers (line.Levels levels.Later) = λ _. (tt, tt)
line_in_turn setting answers (line.Levels levels.Now) = λ _. (tt, tt)
line_in_turn setting answers line.Level = λ done. first_of_all (Turn setting NoStop) done (note_levels setting done) (hands_out setting NoStop stops_none done)
line_in_turn setting answers line.Connect = connect_in_turn setting
line_in_turn setting answers (line.Bytes client bytes) = receive_in_turn setting answers client bytes
line_in_turn setting answers (line.Close client) = close_in_turn setting NoStop stops_none client why.Left refl refl
line_in_turn setting answers (line.User channel bytes) = hear_in_turn setting channel bytes
line_in_turn setting answers (line.Inject apid) = on_app_in_turn setting apid take_injection (take_injection_in_turn setting)

pub lines_in_turn : (setting : Setting) (answers : List Done) (steps : List Step) → AreAll (Turn setting NoStop) [] (after_lines setting answers steps)
lines_in_turn setting answers steps = turns (Turn setting NoStop) (map (act_of setting answers) steps) (each (Turn setting NoStop) (act_of setting answers) (line_in_turn setting answers) steps) []

-- ---- the end: first all but the stop, then the clients' Closes

abbrev pub finishes : Act
finishes done = in_sequence (map finish (writer_numbers done)) done

abbrev pub drains : Setting → Act
drains setting done = in_sequence (map (drain setting) (range_with_len 0 (length (apps done)))) done

abbrev pub stops : Setting → Act
stops setting done = in_sequence (map (λ client. close setting client why.Stopped) (range_with_len 1 (count_by is_connect (journal done)))) done

drain_in_turn : (setting : Setting) (app : ℕ) → Keeps (Turn setting NoStop) (drain setting app)
drain_in_turn setting app =
    turns (Turn setting NoStop) ((λ done. in_sequence (replicate (held_by app done) (take_log setting app)) done) ∷ take_losses setting app ∷ []) (
      (λ done. turns (Turn setting NoStop) (replicate (held_by app done) (take_log setting app)) (repeated (Turn setting NoStop) (held_by app done) (take_log setting app) (take_log_in_turn setting app)) done),
      (take_losses_in_turn setting app, tt),
    )

finishes_in_turn : (setting : Setting) → Keeps (Turn setting NoStop) finishes
finishes_in_turn setting done = turns (Turn setting NoStop) (map finish (writer_numbers done)) (each (Turn setting NoStop) finish (finish_in_turn setting NoStop) (writer_numbers done)) done

drains_in_turn : (setting : Setting) → Keeps (Turn setting NoStop) (drains setting)
drains_in_turn setting done =
    turns (Turn setting NoStop) (map (drain setting) (range_with_len 0 (length (apps done)))) (each (Turn setting NoStop) (drain setting) (drain_in_turn setting) (range_with_len 0 (length (apps done)))) done

pub going_levels : OnLevels Going
going_levels slot level = tt

pub stops_in_turn : (setting : Setting) → Keeps (Turn setting Going) (stops setting)
stops_in_turn setting done =
    let stop = λ (client : ℕ). close setting client why.Stopped in
    turns (Turn setting Going) (map stop (range_with_len 1 (count_by is_connect (journal done))))
    (each (Turn setting Going) stop (λ client. close_in_turn setting Going going_levels client why.Stopped refl tt) (range_with_len 1 (count_by is_connect (journal done)))) done

-- a run up to the stop of its clients
abbrev pub before_stop : Setting → List Done → List Step → Act
before_stop setting answers steps = in_sequence (map (act_of setting answers) steps ++ in_sequence (finishes ∷ drains setting ∷ note_levels setting ∷ []) ∷ [])

pub before_stop_in_turn : (setting : Setting) (answers : List Done) (steps : List Step) → AreAll (Turn setting NoStop) [] (before_stop setting answers steps [])
before_stop_in_turn setting answers steps =
    let R = Turn setting NoStop in
    turns R (map (act_of setting answers) steps ++ in_sequence (finishes ∷ drains setting ∷ note_levels setting ∷ []) ∷ [])
    (and_one R (map (act_of setting answers) steps) (in_sequence (finishes ∷ drains setting ∷ note_levels setting ∷ [])) (each R (act_of setting answers) (line_in_turn setting answers) steps)
    (turns R (finishes ∷ drains setting ∷ note_levels setting ∷ []) (finishes_in_turn setting, (drains_in_turn setting, (hands_out setting NoStop stops_none, tt))))) []
