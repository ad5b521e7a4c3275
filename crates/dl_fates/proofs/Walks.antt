-- What holds of each plain mark, and of each step of the writer whose calls a line moves, holds of the marks of the line.
use Rattle.std.proofs.Common.{◌≡◌, ℕ, ◌+◌, Bool, true, false, cond, eqb, ltb, List, [], ◌∷◌, ◌++◌, Option, Some, None, refl, subst}
use Rattle.std.specs.Prelude.{map, count_by, slice_get, take, unwrap_or, is_some, negsuc, reverse, ◌&&◌, ◌%◌}
use Rattle.std.proofs.lemmas.Bool.{eq-eqb}
use Rattle.dl_lemmas.proofs.Options.{same_thing}
use Rattle.dl_bytes.specs.Claim.{Claimed}
use Rattle.dl_bytes.specs.Limits.{message_limit}
use Rattle.dl_bytes.specs.Level.{passes}
use Rattle.dl_bytes.specs.declared.outcome.Done.{Done}
use Rattle.dl_bytes.specs.declared.outcome.Done.TheVariants as did
use Rattle.dl_bytes.specs.declared.user.UserMsg.{UserMsg}
use Rattle.dl_bytes.specs.declared.user.UserMsg.TheVariants as user
use Rattle.dl_bytes.specs.Number.{◌>>=◌}
use Rattle.dl_message.specs.Cut.{rest_fault, rest_of}
use Rattle.dl_events.specs.declared.event.Event.{Event}
use Rattle.dl_events.specs.declared.event.Event.TheVariants as event
use Rattle.dl_events.specs.declared.event.Why.{Why}
use Rattle.dl_events.specs.declared.event.Why.TheVariants as why
use Rattle.dl_script_model.specs.declared.line.CallLine.{CallLine}
use Rattle.dl_script_model.specs.declared.line.ClaimLine.{ClaimLine}
use Rattle.dl_script_model.specs.declared.step.LevelEvents.TheVariants as levels
use Rattle.dl_script_model.specs.declared.step.Step.{Step}
use Rattle.dl_script_model.specs.declared.step.Step.TheVariants as line
use Rattle.dl_model.specs.declared.registry.LevelChange.{LevelChange}
use Rattle.dl_model.specs.Setting.{Setting}
use Rattle.dl_model.specs.Reply.{Need, Nothing, Folder, Queue}
use Rattle.dl_model.specs.Along.{last_that}
use Rattle.dl_model.specs.Registry.{slot_of}
use Rattle.dl_model.specs.Journal.{slots_of, is_connect, is_close, is_request_of, need_after}
use Rattle.dl_script_model.specs.Marks.{Call, Mark, HasApp, HasContext, HasWriter, Filtered, Passed, Queued, Refused, Counted, HasClaim, Announced, HeldBack, Noted, Clocked, LevelsWait, Fed, Heard, Answered, Injected, Handed, calls_of, passed_of, passed, refused, is_step_of, named_place, journal, number_of, app_of_writer, to_push, to_count, to_announce, unannounced, Pushed, OfCall, OfClaim, pushes, taken, is_full, is_later, pending, moment_at, moment, is_answer, injections, fed}
use Rattle.dl_script_model.specs.Steps.{Act, in_sequence, just, for_some, when, changes, level_noted, note_levels, note_levels_now, note, loaded, load, push, count, finish, begin_call, whole_call, claim_made, claim, announce, announce_all, event_taken, take_log, take_losses, is_open, close, close_malformed, connect, served, request_now, ask, new_requests, receive, new_messages, tell, hear, take_injection, on_app, act_of}
use Rattle.dl_model.proofs.Lists.{find-passes}
use Rattle.dl_runs.proofs.Founded.{last_step, passed_is, refused_is}
use Rattle.dl_runs.proofs.Relations.{AreAll, Keeps, turns, each, and_one, asked_for, where_so, announced}

-- a mark that is neither a step of a call nor a Lost event
abbrev pub is_plain : Mark → Bool
is_plain (Filtered c) = false
is_plain (Passed c) = false
is_plain (Queued c) = false
is_plain (Refused c) = false
is_plain (Counted c) = false
is_plain (Noted (event.Lost app count moment)) = false
is_plain _ = true

-- ---- whose call it is

pub loaded_writer : (setting : Setting) (call : CallLine) (done : List Mark) (c : Call) → loaded setting call done ≡ Some c → c.item.writer ≡ call.writer
loaded_writer setting call done c e = by_writer (app_of_writer call.writer done) e where
  made : List ℕ → ℕ → ℕ → Call
  made apid app place = let slot = slots_of setting (journal done) (slot_of app place) in record {
    item = record {
      app = app;
      writer = call.writer;
      call = 1 + calls_of call.writer done;
      apid = apid;
      ctid = call.ctid;
      severity = call.severity;
      at = call.at;
      mcnt = passed_of call.writer done % 256;
      payload = call.payload;
    };
    slot = slot_of app place;
    version = slot.version;
    held = slot.level;
  }

  by_place : (apid : List ℕ) (app : ℕ) (o : Option ℕ) → (o >>= λ place. Some (made apid app place)) ≡ Some c → c.item.writer ≡ call.writer
  by_place apid app None e = absurd cc
  by_place apid app (Some place) e = subst (λ (x : Call). x.item.writer ≡ call.writer) (same_thing (made apid app place) c e) refl

  by_app : (apid : List ℕ) (o : Option ℕ) → (o >>= λ app. named_place call.writer apid call.ctid done >>= λ place. Some (made apid app place)) ≡ Some c → c.item.writer ≡ call.writer
  by_app apid None e = absurd cc
  by_app apid (Some app) e = by_place apid app (named_place call.writer apid call.ctid done) e

  by_writer : (o : Option (List ℕ)) → (o >>= λ apid. number_of apid done >>= λ app. named_place call.writer apid call.ctid done >>= λ place. Some (made apid app place)) ≡ Some c → c.item.writer ≡ call.writer
  by_writer None e = absurd cc
  by_writer (Some apid) e = by_app apid (number_of apid done) e

pub pushes_own : (writer : ℕ) (done : List Mark) (c : Call) → to_push writer done ≡ Some c → eqb c.item.writer writer ≡ true
pushes_own writer done c e =
    let last = last_step passed (last_that (is_step_of writer) done) c e in
    subst (λ (m : Mark). is_step_of writer m ≡ true) (passed_is last.0 c last.2) (find-passes (is_step_of writer) (reverse done) last.0 last.1)

pub counts_own : (writer : ℕ) (done : List Mark) (c : Call) → to_count writer done ≡ Some c → eqb c.item.writer writer ≡ true
counts_own writer done c e =
    let last = last_step refused (last_that (is_step_of writer) done) c e in
    subst (λ (m : Mark). is_step_of writer m ≡ true) (refused_is last.0 c last.2) (find-passes (is_step_of writer) (reverse done) last.0 last.1)

-- ---- act by act

-- a line that takes no losses, and moves the calls of a writer that suits, where it moves some
abbrev pub Suits : (ℕ → Type 0) → Step → Type 0
Suits suits (line.Load call) = suits call.writer
Suits suits (line.Push writer) = suits writer
Suits suits (line.Count writer) = suits writer
Suits suits (line.Call call) = suits call.writer
Suits suits (line.Log call) = suits call.writer
Suits suits (line.Claim asked) = suits asked.writer
Suits suits (line.Announce writer) = suits writer
Suits suits (line.Register asked) = suits asked.writer
Suits suits (line.Losses apid) = ⊥
Suits suits _ = Unit {0}

module _ (R : List Mark → Mark → Type 0) (plain : (done : List Mark) (mark : Mark) → is_plain mark ≡ true → R done mark)
    (suits : ℕ → Type 0) (own : (writer : ℕ) → suits writer → (done : List Mark) (mark : Mark) → is_step_of writer mark ≡ true → R done mark) where
  levels_walk : (done : List Mark) (cs : List LevelChange) → AreAll R done (map level_noted cs)
  levels_walk done [] = tt
  levels_walk done (c ∷ cs) = (plain done (level_noted c) refl, levels_walk (done ++ level_noted c ∷ []) cs)

  hand_out_walk : (setting : Setting) → Keeps R (note_levels setting)
  hand_out_walk setting done = levels_walk done (changes setting (journal done))

  hand_out_now_walk : (setting : Setting) → Keeps R (note_levels_now setting)
  hand_out_now_walk setting done = by_test (is_later done) where
    by_test : (b : Bool) → AreAll R done (cond b [] (note_levels setting done))
    by_test true = tt
    by_test false = hand_out_walk setting done

  note_walk : (setting : Setting) (make : List Mark → Event) → ((done : List Mark) → R done (Noted (make done))) → Keeps R (note setting make)
  note_walk setting make so =
      turns R (note_levels setting ∷ (λ done. Noted (make done) ∷ []) ∷ note_levels_now setting ∷ []) (hand_out_walk setting, ((λ done. (so done, tt)), (hand_out_now_walk setting, tt)))

  load_walk : (setting : Setting) (call : CallLine) → suits call.writer → Keeps R (load setting call)
  load_walk setting call so done =
      asked_for R (loaded setting call done) (λ c. just (cond (passes c.item.severity c.held) (Passed c) (Filtered c))) done
      (λ c e. (by_test c (passes c.item.severity c.held) (eq-eqb c.item.writer call.writer (loaded_writer setting call done c e)), tt)) where
        by_test : (c : Call) (b : Bool) → eqb c.item.writer call.writer ≡ true → R done (cond b (Passed c) (Filtered c))
        by_test c true is = own call.writer so done (Passed c) is
        by_test c false is = own call.writer so done (Filtered c) is

  push_walk : (writer : ℕ) → suits writer → Keeps R (push writer)
  push_walk writer so done =
      asked_for R (to_push writer done) (λ c. just (cond (is_full c.item.app done) (Refused c) (Queued c))) done
      (λ c e. (by_test c (is_full c.item.app done) (pushes_own writer done c e), tt)) where
        by_test : (c : Call) (b : Bool) → eqb c.item.writer writer ≡ true → R done (cond b (Refused c) (Queued c))
        by_test c true is = own writer so done (Refused c) is
        by_test c false is = own writer so done (Queued c) is

  count_walk : (writer : ℕ) → suits writer → Keeps R (count writer)
  count_walk writer so done = asked_for R (to_count writer done) (λ c. just (Counted c)) done (λ c e. (own writer so done (Counted c) (counts_own writer done c e), tt))

  finish_walk : (writer : ℕ) → suits writer → Keeps R (finish writer)
  finish_walk writer so = turns R (push writer ∷ count writer ∷ []) (push_walk writer so, (count_walk writer so, tt))

  begin_walk : (setting : Setting) (call : CallLine) → suits call.writer → Keeps R (begin_call setting call)
  begin_walk setting call so = turns R (finish call.writer ∷ load setting call ∷ []) (finish_walk call.writer so, (load_walk setting call so, tt))

  whole_walk : (setting : Setting) (call : CallLine) → suits call.writer → Keeps R (whole_call setting call)
  whole_walk setting call so = turns R (begin_call setting call ∷ finish call.writer ∷ []) (begin_walk setting call so, (finish_walk call.writer so, tt))

  claim_walk : (asked : ClaimLine) → Keeps R (claim asked)
  claim_walk asked done = asked_for R (claim_made asked done) (λ c. just (HasClaim c)) done (λ c e. (plain done (HasClaim c) refl, tt))

  announce_walk : (writer : ℕ) → Keeps R (announce writer)
  announce_walk writer done =
      asked_for R (to_announce writer done) (λ c. just (cond (is_full c.app done) (HeldBack c) (Announced c))) done (λ c e. (by_test c (is_full c.app done), tt)) where
        by_test : (c : Claimed) (b : Bool) → R done (cond b (HeldBack c) (Announced c))
        by_test c true = plain done (HeldBack c) refl
        by_test c false = plain done (Announced c) refl

  announce_all_walk : (writer : ℕ) → Keeps R (announce_all writer)
  announce_all_walk writer done = announced R writer (announce_walk writer) (unannounced writer done) done

  take_log_walk : (setting : Setting) (app : ℕ) → Keeps R (take_log setting app)
  take_log_walk setting app done =
      asked_for R (slice_get (pushes app done) (taken app done)) (λ what. note setting (event_taken app what)) done (λ what e. note_walk setting (event_taken app what) (is_so what) done) where
        is_so : (what : Pushed) (d : List Mark) → R d (Noted (event_taken app what d))
        is_so (OfCall c) d = plain d (Noted (event_taken app (OfCall c) d)) refl
        is_so (OfClaim c) d = plain d (Noted (event_taken app (OfClaim c) d)) refl

  pub losses_walk : (setting : Setting) (app : ℕ) → ((done : List Mark) → R done (Noted (event.Lost app (pending app done) (moment done)))) → Keeps R (take_losses setting app)
  losses_walk setting app so done =
      where_so R (ltb 0 (pending app done)) (note setting (λ now. event.Lost app (pending app now) (moment now))) done (λ _. note_walk setting (λ now. event.Lost app (pending app now) (moment now)) so done)

  close_walk : (setting : Setting) (client : ℕ) (cause : Why) → Keeps R (close setting client cause)
  close_walk setting client cause done = where_so R (is_open client done) (note setting (λ _. event.Close client cause)) done (λ _. note_walk setting (λ _. event.Close client cause) (λ d. plain d (Noted (event.Close client cause)) refl) done)

  connect_walk : (setting : Setting) → Keeps R (connect setting)
  connect_walk setting done =
      let came = count_by is_connect (journal done) in
      where_so R (ltb came setting.clients && ltb came (count_by is_close (journal done) + 8)) (note setting (λ _. event.Connect (came + 1))) done (λ _. note_walk setting (λ _. event.Connect (came + 1)) (λ d. plain d (Noted (event.Connect (came + 1))) refl) done)

  served_walk : (answers : List Done) (client : ℕ) (frame : List ℕ) (need : Need) → Keeps R (served answers client frame need)
  served_walk answers client frame Nothing done = (plain done (Noted (event.Request client frame did.Yes)) refl, tt)
  served_walk answers client frame Folder done =
      let answer = unwrap_or (slice_get answers (count_by is_answer done)) did.Yes in
      (plain done (Answered answer) refl, (plain (done ++ Answered answer ∷ []) (Noted (event.Request client frame answer)) refl, tt))
  served_walk answers client frame (Queue app) done = by_test (ltb (injections app done) 16) where
    by_test : (b : Bool) → AreAll R done (cond b (Injected app ∷ Noted (event.Request client frame did.Yes) ∷ []) (Noted (event.Request client frame did.Failed) ∷ []))
    by_test true = (plain done (Injected app) refl, (plain (done ++ Injected app ∷ []) (Noted (event.Request client frame did.Yes)) refl, tt))
    by_test false = (plain done (Noted (event.Request client frame did.Failed)) refl, tt)

  request_walk : (setting : Setting) (answers : List Done) (client : ℕ) (frame : List ℕ) → Keeps R (request_now setting answers client frame)
  request_walk setting answers client frame done = served_walk answers client frame (need_after setting (journal done) frame) done

  ask_walk : (setting : Setting) (answers : List Done) (client : ℕ) (frame : List ℕ) → Keeps R (ask setting answers client frame)
  ask_walk setting answers client frame done = by_test (ltb (count_by (is_request_of client) (journal done)) 1000) where
    by_test : (b : Bool) → AreAll R done (cond b (when (is_open client done) (in_sequence (note_levels setting ∷ request_now setting answers client frame ∷ note_levels_now setting ∷ [])) done) (close setting client why.TooMany done))
    by_test true =
        where_so R (is_open client done) (in_sequence (note_levels setting ∷ request_now setting answers client frame ∷ note_levels_now setting ∷ [])) done
        (λ _. turns R (note_levels setting ∷ request_now setting answers client frame ∷ note_levels_now setting ∷ [])
        (hand_out_walk setting, (request_walk setting answers client frame, (hand_out_now_walk setting, tt))) done)
    by_test false = close_walk setting client why.TooMany done

  malformed_walk : (setting : Setting) (client : ℕ) → Keeps R (close_malformed setting client)
  malformed_walk setting client done =
      where_so R (is_some (rest_fault message_limit (rest_of message_limit (fed client done)))) (close setting client why.Malformed) done (λ _. close_walk setting client why.Malformed done)

  receive_walk : (setting : Setting) (answers : List Done) (client : ℕ) (bytes : List ℕ) → Keeps R (receive setting answers client bytes)
  receive_walk setting answers client bytes done =
      let asks = map (ask setting answers client) (new_requests client bytes done) in
      where_so R (is_open client done) (in_sequence (just (Fed client bytes) ∷ (asks ++ close_malformed setting client ∷ []))) done
      (λ _. turns R (just (Fed client bytes) ∷ (asks ++ close_malformed setting client ∷ []))
      ((λ d. (plain d (Fed client bytes) refl, tt)), and_one R asks (close_malformed setting client) (each R (ask setting answers client) (ask_walk setting answers client) (new_requests client bytes done)) (malformed_walk setting client)) done)

  tell_walk : (setting : Setting) (channel : ℕ) (msg : UserMsg) → Keeps R (tell setting channel msg)
  tell_walk setting channel msg = note_walk setting (λ now. event.User channel msg (moment now)) (λ d. plain d (Noted (event.User channel msg (moment d))) refl)

  hear_walk : (setting : Setting) (channel : ℕ) (bytes : List ℕ) → Keeps R (hear setting channel bytes)
  hear_walk setting channel bytes done =
      turns R (just (Heard channel bytes) ∷ map (tell setting channel) (new_messages channel bytes done))
      ((λ d. (plain d (Heard channel bytes) refl, tt)), each R (tell setting channel) (tell_walk setting channel) (new_messages channel bytes done)) done

  on_app_walk : (apid : List ℕ) (act : ℕ → Act) → ((app : ℕ) → Keeps R (act app)) → Keeps R (on_app apid act)
  on_app_walk apid act all done = asked_for R (number_of apid done) act done (λ app _. all app done)

  injection_walk : (app : ℕ) → Keeps R (take_injection app)
  injection_walk app done = where_so R (ltb 0 (injections app done)) (just (Handed app)) done (λ _. (plain done (Handed app) refl, tt))

  first_walk : (done ms : List Mark) → AreAll R done ms → AreAll R done (take 1 ms)
  first_walk done [] all = tt
  first_walk done (m ∷ ms) all = (all.0, tt)

  pub line_walk : (setting : Setting) (answers : List Done) (step : Step) → Suits suits step → Keeps R (act_of setting answers step)
  line_walk setting answers (line.App app) so =
      turns R (just (HasApp app) ∷ tell setting 0 (user.RegisterApp app.apid 0 app.text) ∷ []) ((λ d. (plain d (HasApp app) refl, tt)), (tell_walk setting 0 (user.RegisterApp app.apid 0 app.text), tt))
  line_walk setting answers (line.Context context) so =
      let msg = user.RegisterContext context.apid context.ctid 0 context.level (negsuc 0) 0 context.text in
      turns R (just (HasContext context) ∷ tell setting 0 msg ∷ []) ((λ d. (plain d (HasContext context) refl, tt)), (tell_walk setting 0 msg, tt))
  line_walk setting answers (line.Writer apid) so = λ d. (plain d (HasWriter apid) refl, tt)
  line_walk setting answers (line.Clock secs micros) so = λ d. (plain d (Clocked (moment_at secs micros)) refl, tt)
  line_walk setting answers (line.Load call) so = begin_walk setting call so
  line_walk setting answers (line.Push writer) so = push_walk writer so
  line_walk setting answers (line.Count writer) so = count_walk writer so
  line_walk setting answers (line.Call call) so = whole_walk setting call so
  line_walk setting answers (line.Log call) so =
      turns R (whole_call setting call ∷ (λ done. for_some (app_of_writer call.writer done) (λ apid. on_app apid (take_log setting)) done) ∷ []) (
        whole_walk setting call so,
        (
          (λ done. asked_for R (app_of_writer call.writer done) (λ apid. on_app apid (take_log setting)) done (λ apid _. on_app_walk apid (take_log setting) (take_log_walk setting) done)),
          tt,
        ),
      )
  line_walk setting answers (line.Claim asked) so = turns R (finish asked.writer ∷ claim asked ∷ []) (finish_walk asked.writer so, (claim_walk asked, tt))
  line_walk setting answers (line.Announce writer) so = turns R (finish writer ∷ announce writer ∷ []) (finish_walk writer so, (announce_walk writer, tt))
  line_walk setting answers (line.Register asked) so =
      turns R (finish asked.writer ∷ claim asked ∷ announce_all asked.writer ∷ []) (finish_walk asked.writer so, (claim_walk asked, (announce_all_walk asked.writer, tt)))
  line_walk setting answers (line.Take apid) so = on_app_walk apid (take_log setting) (take_log_walk setting)
  line_walk setting answers (line.Losses apid) so = absurd so
  line_walk setting answers (line.Levels levels.Later) so = λ d. (plain d (LevelsWait true) refl, tt)
  line_walk setting answers (line.Levels levels.Now) so = λ d. (plain d (LevelsWait false) refl, tt)
  line_walk setting answers line.Level so = λ done. first_walk done (note_levels setting done) (hand_out_walk setting done)
  line_walk setting answers line.Connect so = connect_walk setting
  line_walk setting answers (line.Bytes client bytes) so = receive_walk setting answers client bytes
  line_walk setting answers (line.Close client) so = close_walk setting client why.Left
  line_walk setting answers (line.User channel bytes) so = hear_walk setting channel bytes
  line_walk setting answers (line.Inject apid) so = on_app_walk apid take_injection injection_walk
