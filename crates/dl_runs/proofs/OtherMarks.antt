-- Lines on which no bytes come, and what is done for requests and messages, make no mark of bytes.
use Rattle.std.proofs.Common.{◌≡◌, ℕ, ◌+◌, Bool, true, false, cond, ltb, List, [], ◌∷◌, ◌++◌, refl}
use Rattle.std.specs.Prelude.{map, count_by, slice_get, take, unwrap_or, is_some, negsuc, ◌&&◌}
use Rattle.dl_bytes.specs.Claim.{Claimed}
use Rattle.dl_bytes.specs.Limits.{message_limit}
use Rattle.dl_bytes.specs.Bytes.{IsBytes}
use Rattle.dl_bytes.specs.Level.{passes}
use Rattle.dl_bytes.specs.declared.outcome.Done.{Done}
use Rattle.dl_bytes.specs.declared.outcome.Done.TheVariants as did
use Rattle.dl_bytes.specs.declared.user.UserMsg.{UserMsg}
use Rattle.dl_bytes.specs.declared.user.UserMsg.TheVariants as user
use Rattle.dl_message.specs.Cut.{rest_fault, rest_of}
use Rattle.dl_events.specs.declared.event.Event.{Event}
use Rattle.dl_events.specs.declared.event.Event.TheVariants as event
use Rattle.dl_events.specs.declared.event.Why.{Why}
use Rattle.dl_events.specs.declared.event.Why.TheVariants as why
use Rattle.dl_script_model.specs.declared.line.CallLine.{CallLine}
use Rattle.dl_script_model.specs.declared.line.ClaimLine.{ClaimLine}
use Rattle.dl_script_model.specs.declared.step.LevelEvents.TheVariants as levels
use Rattle.dl_script_model.specs.declared.step.Step.{Step}
use Rattle.dl_script_model.specs.declared.step.Step.TheVariants as line
use Rattle.dl_model.specs.declared.registry.LevelChange.{LevelChange}
use Rattle.dl_model.specs.Setting.{Setting}
use Rattle.dl_model.specs.Reply.{Need, Nothing, Folder, Queue}
use Rattle.dl_model.specs.Journal.{is_connect, is_close, is_request_of, need_after}
use Rattle.dl_script_model.specs.Marks.{Call, Mark, HasApp, HasContext, HasWriter, Filtered, Passed, Queued, Refused, Counted, HasClaim, Announced, HeldBack, Noted, Clocked, LevelsWait, Fed, Heard, Answered, Injected, Handed, journal, number_of, app_of_writer, to_push, to_count, to_announce, unannounced, pushes, taken, is_full, is_later, pending, moment_at, moment, is_answer, injections, fed, heard}
use Rattle.dl_script_model.specs.Steps.{Act, in_sequence, just, for_some, when, changes, level_noted, note_levels, note_levels_now, note, loaded, load, push, count, finish, begin_call, whole_call, claim_made, claim, announce, announce_all, event_taken, take_log, take_losses, is_open, close, close_malformed, connect, served, request_now, ask, new_requests, receive, new_messages, tell, hear, take_injection, on_app, act_of}
use Rattle.dl_runs.proofs.Relations.{AreAll, Keeps, turns, each, and_one, asked_for, where_so, announced}
use Rattle.dl_runs.proofs.Unfed.{is_other}

-- a mark that bytes came on a channel has bytes
abbrev pub HearsBytes : List Mark → Mark → Type 0
HearsBytes done (Heard channel bytes) = IsBytes bytes
HearsBytes done _ = Unit {0}

-- ---- what is true of every mark but those of bytes

module _ (R : List Mark → Mark → Type 0) (others : (done : List Mark) (mark : Mark) → is_other mark ≡ true → R done mark) where
  levels_other : (done : List Mark) (cs : List LevelChange) → AreAll R done (map level_noted cs)
  levels_other done [] = tt
  levels_other done (c ∷ cs) = (others done (level_noted c) refl, levels_other (done ++ level_noted c ∷ []) cs)

  hand_out_other : (setting : Setting) → Keeps R (note_levels setting)
  hand_out_other setting done = levels_other done (changes setting (journal done))

  hand_out_now_other : (setting : Setting) → Keeps R (note_levels_now setting)
  hand_out_now_other setting done = by_test (is_later done) where
    by_test : (b : Bool) → AreAll R done (cond b [] (note_levels setting done))
    by_test true = tt
    by_test false = hand_out_other setting done

  note_other : (setting : Setting) (make : List Mark → Event) → Keeps R (note setting make)
  note_other setting make =
      turns R (note_levels setting ∷ (λ done. Noted (make done) ∷ []) ∷ note_levels_now setting ∷ []) (hand_out_other setting, ((λ done. (others done (Noted (make done)) refl, tt)), (hand_out_now_other setting, tt)))

  load_other : (setting : Setting) (call : CallLine) → Keeps R (load setting call)
  load_other setting call done =
      asked_for R (loaded setting call done) (λ c. just (cond (passes c.item.severity c.held) (Passed c) (Filtered c))) done (λ c e. (by_test c (passes c.item.severity c.held), tt)) where
        by_test : (c : Call) (b : Bool) → R done (cond b (Passed c) (Filtered c))
        by_test c true = others done (Passed c) refl
        by_test c false = others done (Filtered c) refl

  push_other : (writer : ℕ) → Keeps R (push writer)
  push_other writer done =
      asked_for R (to_push writer done) (λ c. just (cond (is_full c.item.app done) (Refused c) (Queued c))) done (λ c e. (by_test c (is_full c.item.app done), tt)) where
        by_test : (c : Call) (b : Bool) → R done (cond b (Refused c) (Queued c))
        by_test c true = others done (Refused c) refl
        by_test c false = others done (Queued c) refl

  count_other : (writer : ℕ) → Keeps R (count writer)
  count_other writer done = asked_for R (to_count writer done) (λ c. just (Counted c)) done (λ c e. (others done (Counted c) refl, tt))

  finish_other : (writer : ℕ) → Keeps R (finish writer)
  finish_other writer = turns R (push writer ∷ count writer ∷ []) (push_other writer, (count_other writer, tt))

  begin_other : (setting : Setting) (call : CallLine) → Keeps R (begin_call setting call)
  begin_other setting call = turns R (finish call.writer ∷ load setting call ∷ []) (finish_other call.writer, (load_other setting call, tt))

  whole_other : (setting : Setting) (call : CallLine) → Keeps R (whole_call setting call)
  whole_other setting call = turns R (begin_call setting call ∷ finish call.writer ∷ []) (begin_other setting call, (finish_other call.writer, tt))

  claim_other : (asked : ClaimLine) → Keeps R (claim asked)
  claim_other asked done = asked_for R (claim_made asked done) (λ c. just (HasClaim c)) done (λ c e. (others done (HasClaim c) refl, tt))

  announce_other : (writer : ℕ) → Keeps R (announce writer)
  announce_other writer done =
      asked_for R (to_announce writer done) (λ c. just (cond (is_full c.app done) (HeldBack c) (Announced c))) done (λ c e. (by_test c (is_full c.app done), tt)) where
        by_test : (c : Claimed) (b : Bool) → R done (cond b (HeldBack c) (Announced c))
        by_test c true = others done (HeldBack c) refl
        by_test c false = others done (Announced c) refl

  announce_all_other : (writer : ℕ) → Keeps R (announce_all writer)
  announce_all_other writer done = announced R writer (announce_other writer) (unannounced writer done) done

  take_log_other : (setting : Setting) (app : ℕ) → Keeps R (take_log setting app)
  take_log_other setting app done =
      asked_for R (slice_get (pushes app done) (taken app done)) (λ what. note setting (event_taken app what)) done (λ what e. note_other setting (event_taken app what) done)

  take_losses_other : (setting : Setting) (app : ℕ) → Keeps R (take_losses setting app)
  take_losses_other setting app done =
      where_so R (ltb 0 (pending app done)) (note setting (λ now. event.Lost app (pending app now) (moment now))) done (λ _. note_other setting (λ now. event.Lost app (pending app now) (moment now)) done)

  pub close_other : (setting : Setting) (client : ℕ) (cause : Why) → Keeps R (close setting client cause)
  close_other setting client cause done = where_so R (is_open client done) (note setting (λ _. event.Close client cause)) done (λ _. note_other setting (λ _. event.Close client cause) done)

  connect_other : (setting : Setting) → Keeps R (connect setting)
  connect_other setting done =
      let came = count_by is_connect (journal done) in
      where_so R (ltb came setting.clients && ltb came (count_by is_close (journal done) + 8)) (note setting (λ _. event.Connect (came + 1))) done (λ _. note_other setting (λ _. event.Connect (came + 1)) done)

  served_other : (answers : List Done) (client : ℕ) (frame : List ℕ) (need : Need) → Keeps R (served answers client frame need)
  served_other answers client frame Nothing done = (others done (Noted (event.Request client frame did.Yes)) refl, tt)
  served_other answers client frame Folder done =
      let answer = unwrap_or (slice_get answers (count_by is_answer done)) did.Yes in
      (others done (Answered answer) refl, (others (done ++ Answered answer ∷ []) (Noted (event.Request client frame answer)) refl, tt))
  served_other answers client frame (Queue app) done = by_test (ltb (injections app done) 16) where
    by_test : (b : Bool) → AreAll R done (cond b (Injected app ∷ Noted (event.Request client frame did.Yes) ∷ []) (Noted (event.Request client frame did.Failed) ∷ []))
    by_test true = (others done (Injected app) refl, (others (done ++ Injected app ∷ []) (Noted (event.Request client frame did.Yes)) refl, tt))
    by_test false = (others done (Noted (event.Request client frame did.Failed)) refl, tt)

  request_other : (setting : Setting) (answers : List Done) (client : ℕ) (frame : List ℕ) → Keeps R (request_now setting answers client frame)
  request_other setting answers client frame done = served_other answers client frame (need_after setting (journal done) frame) done

  pub ask_other : (setting : Setting) (answers : List Done) (client : ℕ) (frame : List ℕ) → Keeps R (ask setting answers client frame)
  ask_other setting answers client frame done = by_test (ltb (count_by (is_request_of client) (journal done)) 1000) where
    by_test : (b : Bool) → AreAll R done (cond b (when (is_open client done) (in_sequence (note_levels setting ∷ request_now setting answers client frame ∷ note_levels_now setting ∷ [])) done) (close setting client why.TooMany done))
    by_test true =
        where_so R (is_open client done) (in_sequence (note_levels setting ∷ request_now setting answers client frame ∷ note_levels_now setting ∷ [])) done
        (λ _. turns R (note_levels setting ∷ request_now setting answers client frame ∷ note_levels_now setting ∷ [])
        (hand_out_other setting, (request_other setting answers client frame, (hand_out_now_other setting, tt))) done)
    by_test false = close_other setting client why.TooMany done

  pub malformed_other : (setting : Setting) (client : ℕ) → Keeps R (close_malformed setting client)
  malformed_other setting client done =
      where_so R (is_some (rest_fault message_limit (rest_of message_limit (fed client done)))) (close setting client why.Malformed) done (λ _. close_other setting client why.Malformed done)

  receive_other : (setting : Setting) (answers : List Done) (client : ℕ) (bytes : List ℕ) → ((done : List Mark) → R done (Fed client bytes)) → Keeps R (receive setting answers client bytes)
  receive_other setting answers client bytes fed_so done =
      let asks = map (ask setting answers client) (new_requests client bytes done) in
      where_so R (is_open client done) (in_sequence (just (Fed client bytes) ∷ (asks ++ close_malformed setting client ∷ []))) done
      (λ _. turns R (just (Fed client bytes) ∷ (asks ++ close_malformed setting client ∷ []))
      ((λ d. (fed_so d, tt)), and_one R asks (close_malformed setting client) (each R (ask setting answers client) (ask_other setting answers client) (new_requests client bytes done)) (malformed_other setting client)) done)

  pub tell_other : (setting : Setting) (channel : ℕ) (msg : UserMsg) → Keeps R (tell setting channel msg)
  tell_other setting channel msg = note_other setting (λ now. event.User channel msg (moment now))

  hear_other : (setting : Setting) (channel : ℕ) (bytes : List ℕ) → ((done : List Mark) → R done (Heard channel bytes)) → Keeps R (hear setting channel bytes)
  hear_other setting channel bytes heard_so done =
      turns R (just (Heard channel bytes) ∷ map (tell setting channel) (new_messages channel bytes done))
      ((λ d. (heard_so d, tt)), each R (tell setting channel) (tell_other setting channel) (new_messages channel bytes done)) done

  on_app_other : (apid : List ℕ) (act : ℕ → Act) → ((app : ℕ) → Keeps R (act app)) → Keeps R (on_app apid act)
  on_app_other apid act all done = asked_for R (number_of apid done) act done (λ app _. all app done)

  injection_other : (app : ℕ) → Keeps R (take_injection app)
  injection_other app done = where_so R (ltb 0 (injections app done)) (just (Handed app)) done (λ _. (others done (Handed app) refl, tt))

  first_other : (done ms : List Mark) → AreAll R done ms → AreAll R done (take 1 ms)
  first_other done [] all = tt
  first_other done (m ∷ ms) all = (all.0, tt)

  -- what bytes a line has stands in the relation
  abbrev pub BytesSo : Step → Type 0
  BytesSo (line.Bytes client bytes) = (done : List Mark) → R done (Fed client bytes)
  BytesSo (line.User channel bytes) = (done : List Mark) → R done (Heard channel bytes)
  BytesSo _ = Unit {0}

  pub line_other : (setting : Setting) (answers : List Done) (step : Step) → BytesSo step → Keeps R (act_of setting answers step)
  line_other setting answers (line.App app) so =
      turns R (just (HasApp app) ∷ tell setting 0 (user.RegisterApp app.apid 0 app.text) ∷ []) ((λ d. (others d (HasApp app) refl, tt)), (tell_other setting 0 (user.RegisterApp app.apid 0 app.text), tt))
  line_other setting answers (line.Context context) so =
      let msg = user.RegisterContext context.apid context.ctid 0 context.level (negsuc 0) 0 context.text in
      turns R (just (HasContext context) ∷ tell setting 0 msg ∷ []) ((λ d. (others d (HasContext context) refl, tt)), (tell_other setting 0 msg, tt))
  line_other setting answers (line.Writer apid) so = λ d. (others d (HasWriter apid) refl, tt)
  line_other setting answers (line.Clock secs micros) so = λ d. (others d (Clocked (moment_at secs micros)) refl, tt)
  line_other setting answers (line.Load call) so = begin_other setting call
  line_other setting answers (line.Push writer) so = push_other writer
  line_other setting answers (line.Count writer) so = count_other writer
  line_other setting answers (line.Call call) so = whole_other setting call
  line_other setting answers (line.Log call) so =
      turns R (whole_call setting call ∷ (λ done. for_some (app_of_writer call.writer done) (λ apid. on_app apid (take_log setting)) done) ∷ []) (
        whole_other setting call,
        (
          (λ done. asked_for R (app_of_writer call.writer done) (λ apid. on_app apid (take_log setting)) done (λ apid _. on_app_other apid (take_log setting) (take_log_other setting) done)),
          tt,
        ),
      )
  line_other setting answers (line.Claim asked) so = turns R (finish asked.writer ∷ claim asked ∷ []) (finish_other asked.writer, (claim_other asked, tt))
  line_other setting answers (line.Announce writer) so = turns R (finish writer ∷ announce writer ∷ []) (finish_other writer, (announce_other writer, tt))
  line_other setting answers (line.Register asked) so =
      turns R (finish asked.writer ∷ claim asked ∷ announce_all asked.writer ∷ []) (finish_other asked.writer, (claim_other asked, (announce_all_other asked.writer, tt)))
  line_other setting answers (line.Take apid) so = on_app_other apid (take_log setting) (take_log_other setting)
  line_other setting answers (line.Losses apid) so = on_app_other apid (take_losses setting) (take_losses_other setting)
  line_other setting answers (line.Levels levels.Later) so = λ d. (others d (LevelsWait true) refl, tt)
  line_other setting answers (line.Levels levels.Now) so = λ d. (others d (LevelsWait false) refl, tt)
  line_other setting answers line.Level so = λ done. first_other done (note_levels setting done) (hand_out_other setting done)
  line_other setting answers line.Connect so = connect_other setting
  line_other setting answers (line.Bytes client bytes) so = receive_other setting answers client bytes so
  line_other setting answers (line.Close client) so = close_other setting client why.Left
  line_other setting answers (line.User channel bytes) so = hear_other setting channel bytes so
  line_other setting answers (line.Inject apid) so = on_app_other apid take_injection injection_other

-- ---- marks of no bytes

abbrev pub Others : List Mark → Mark → Type 0
Others done mark = is_other mark ≡ true

pub others : (done : List Mark) (mark : Mark) → is_other mark ≡ true → Others done mark
others done mark is = is

pub none_fed : (client : ℕ) (before ms : List Mark) → AreAll Others before ms → fed client ms ≡ []
none_fed client before [] all = refl
none_fed client before (Fed other bytes ∷ ms) all = absurd cc
none_fed client before (Heard channel bytes ∷ ms) all = absurd cc
none_fed client before (m ∷ ms) all = none_fed client (before ++ m ∷ []) ms all.1

pub none_heard : (channel : ℕ) (before ms : List Mark) → AreAll Others before ms → heard channel ms ≡ []
none_heard channel before [] all = refl
none_heard channel before (Fed other bytes ∷ ms) all = absurd cc
none_heard channel before (Heard other bytes ∷ ms) all = absurd cc
none_heard channel before (m ∷ ms) all = none_heard channel (before ++ m ∷ []) ms all.1
