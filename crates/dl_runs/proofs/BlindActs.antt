-- Acts that do not look at the bytes that came.
use Rattle.std.proofs.Common.{◌≡◌, ℕ, zero, suc, ◌+◌, Bool, true, false, cond, ltb, List, [], ◌∷◌, ◌++◌, length, Option, Some, None, refl, ap, ◌∙◌}
use Rattle.std.specs.Prelude.{map, count_by, replicate, slice_get, take, unwrap_or, negsuc, ◌&&◌, ◌%◌}
use Rattle.std.specs.List.{range_with_len, AllByRecursion}
use Rattle.std.specs.Option.{option_map_or}
use Rattle.dl_bytes.specs.Claim.{Claimed}
use Rattle.dl_bytes.specs.Level.{passes}
use Rattle.dl_bytes.specs.Number.{◌>>=◌}
use Rattle.dl_bytes.specs.declared.outcome.Done.{Done}
use Rattle.dl_bytes.specs.declared.outcome.Done.TheVariants as did
use Rattle.dl_bytes.specs.declared.user.UserMsg.{UserMsg}
use Rattle.dl_bytes.specs.declared.user.UserMsg.TheVariants as user
use Rattle.dl_events.specs.declared.event.Event.{Event}
use Rattle.dl_events.specs.declared.event.Event.TheVariants as event
use Rattle.dl_events.specs.declared.event.Why.{Why}
use Rattle.dl_events.specs.declared.event.Why.TheVariants as why
use Rattle.dl_script_model.specs.declared.line.AppLine.{AppLine}
use Rattle.dl_script_model.specs.declared.line.CallLine.{CallLine}
use Rattle.dl_script_model.specs.declared.line.ClaimLine.{ClaimLine}
use Rattle.dl_script_model.specs.declared.step.LevelEvents.TheVariants as levels
use Rattle.dl_script_model.specs.declared.step.Step.{Step}
use Rattle.dl_script_model.specs.declared.step.Step.TheVariants as line
use Rattle.dl_model.specs.Along.{last_that}
use Rattle.dl_model.specs.Setting.{Setting}
use Rattle.dl_model.specs.Registry.{slot_of}
use Rattle.dl_model.specs.Reply.{Need, Nothing, Folder, Queue}
use Rattle.dl_model.specs.Journal.{slots_of, is_connect, is_close, comes_or_goes, is_request_of, need_after}
use Rattle.dl_script_model.specs.Marks.{Call, Mark, HasApp, HasContext, Filtered, Passed, Queued, Refused, Counted, HasClaim, Announced, HeldBack, Noted, Answered, Injected, Handed, journal, apps, number_of, named_place, next_place, writer_numbers, app_of_writer, calls_of, passed_of, to_push, to_count, to_announce, unannounced, Pushed, OfCall, OfClaim, pushes, taken, held_by, is_full, is_later, pending, moment, injections}
use Rattle.dl_script_model.specs.Steps.{Act, in_sequence, just, for_some, when, changes, level_noted, note_levels, note_levels_now, note, loaded, load, push, count, finish, begin_call, whole_call, claim_made, claim, announce, is_held_back, announce_upto, announce_all, event_taken, take_log, take_losses, is_open, close, connect, served, request_now, ask, tell, take_injection, on_app, act_of, drain, end_of}
use Rattle.dl_runs.proofs.Unfed.{unfed, Blind, journal_blind, apps_blind, pushes_blind, to_announce_blind, unannounced_blind, calls_of_blind, passed_of_blind, to_push_blind, to_count_blind, taken_blind, held_blind, is_full_blind, pending_blind, moment_blind, is_later_blind, answers_blind, injections_blind, number_blind, named_place_blind, next_place_blind, writer_numbers_blind, app_of_writer_blind, some_same, when_same, turns_blind, each_blind, blind_append}

-- ---- Level events

hand_out_blind : (setting : Setting) → Blind (note_levels setting)
hand_out_blind setting done = ap (λ (events : List Event). map level_noted (changes setting events)) (journal_blind done)

hand_out_now_blind : (setting : Setting) → Blind (note_levels_now setting)
hand_out_now_blind setting done =
    ap (λ (b : Bool). cond b [] (note_levels setting done)) (is_later_blind done) ∙ ap (λ (ms : List Mark). cond (is_later (unfed done)) [] ms) (hand_out_blind setting done)

note_blind : (setting : Setting) (make : List Mark → Event) → Blind make → Blind (note setting make)
note_blind setting make made =
    turns_blind (note_levels setting ∷ (λ done. Noted (make done) ∷ []) ∷ note_levels_now setting ∷ [])
    (hand_out_blind setting, ((λ done. ap (λ (e : Event). Noted e ∷ []) (made done)), (hand_out_now_blind setting, tt)))

-- ---- log calls

loaded_blind : (setting : Setting) (call : CallLine) → Blind (loaded setting call)
loaded_blind setting call done =
    by_apid (app_of_writer_blind call.writer done)
    ∙ by_app (app_of_writer call.writer (unfed done)) where
      made : List Event → ℕ → ℕ → List ℕ → ℕ → ℕ → Call
      made events calls passed apid app place = let slot = slots_of setting events (slot_of app place) in record {
        item = record {
          app = app;
          writer = call.writer;
          call = 1 + calls;
          apid = apid;
          ctid = call.ctid;
          severity = call.severity;
          at = call.at;
          mcnt = passed % 256;
          payload = call.payload;
        };
        slot = slot_of app place;
        version = slot.version;
        held = slot.level;
      }

      by_apid : app_of_writer call.writer done ≡ app_of_writer call.writer (unfed done) → loaded setting call done ≡
          (app_of_writer call.writer (unfed done) >>= λ apid. number_of apid done >>= λ app. named_place call.writer apid call.ctid done >>= λ place. Some (made (journal done) (calls_of call.writer done) (passed_of call.writer done) apid app place))
      by_apid same = ap (λ (o : Option (List ℕ)). o >>= λ apid. number_of apid done >>= λ app. named_place call.writer apid call.ctid done >>= λ place. Some (made (journal done) (calls_of call.writer done) (passed_of call.writer done) apid app place)) same

      by_place : (apid : List ℕ) (app : ℕ) (o : Option ℕ) →
          (o >>= λ place. Some (made (journal done) (calls_of call.writer done) (passed_of call.writer done) apid app place))
          ≡ (o >>= λ place. Some (made (journal (unfed done)) (calls_of call.writer (unfed done)) (passed_of call.writer (unfed done)) apid app place))
      by_place apid app None = refl
      by_place apid app (Some place) =
          ap (λ (events : List Event). Some (made events (calls_of call.writer done) (passed_of call.writer done) apid app place)) (journal_blind done)
          ∙ ap (λ (n : ℕ). Some (made (journal (unfed done)) n (passed_of call.writer done) apid app place)) (calls_of_blind call.writer done)
          ∙ ap (λ (n : ℕ). Some (made (journal (unfed done)) (calls_of call.writer (unfed done)) n apid app place)) (passed_of_blind call.writer done)

      by_number : (apid : List ℕ) (o : Option ℕ) →
          (o >>= λ app. named_place call.writer apid call.ctid done >>= λ place. Some (made (journal done) (calls_of call.writer done) (passed_of call.writer done) apid app place))
          ≡ (o >>= λ app. named_place call.writer apid call.ctid (unfed done) >>= λ place. Some (made (journal (unfed done)) (calls_of call.writer (unfed done)) (passed_of call.writer (unfed done)) apid app place))
      by_number apid None = refl
      by_number apid (Some app) =
          ap (λ (o : Option ℕ). o >>= λ place. Some (made (journal done) (calls_of call.writer done) (passed_of call.writer done) apid app place)) (named_place_blind call.writer apid call.ctid done)
          ∙ by_place apid app (named_place call.writer apid call.ctid (unfed done))

      by_app : (o : Option (List ℕ)) →
          (o >>= λ apid. number_of apid done >>= λ app. named_place call.writer apid call.ctid done >>= λ place. Some (made (journal done) (calls_of call.writer done) (passed_of call.writer done) apid app place))
          ≡ (o >>= λ apid. number_of apid (unfed done) >>= λ app. named_place call.writer apid call.ctid (unfed done) >>= λ place. Some (made (journal (unfed done)) (calls_of call.writer (unfed done)) (passed_of call.writer (unfed done)) apid app place))
      by_app None = refl
      by_app (Some apid) =
          ap (λ (o : Option ℕ). o >>= λ app. named_place call.writer apid call.ctid done >>= λ place. Some (made (journal done) (calls_of call.writer done) (passed_of call.writer done) apid app place)) (number_blind apid done)
          ∙ by_number apid (number_of apid (unfed done))

load_blind : (setting : Setting) (call : CallLine) → Blind (load setting call)
load_blind setting call done =
    let act = λ (c : Call). just (cond (passes c.item.severity c.held) (Passed c) (Filtered c)) in
    some_same (loaded setting call done) (loaded setting call (unfed done)) act act done (unfed done) (loaded_blind setting call done) (λ c. refl)

push_blind : (writer : ℕ) → Blind (push writer)
push_blind writer done =
    some_same (to_push writer done) (to_push writer (unfed done)) (λ c. just (cond (is_full c.item.app done) (Refused c) (Queued c))) (λ c. just (cond (is_full c.item.app (unfed done)) (Refused c) (Queued c)))
    done (unfed done) (to_push_blind writer done) (λ c. ap (λ (b : Bool). cond b (Refused c) (Queued c) ∷ []) (is_full_blind c.item.app done))

count_blind : (writer : ℕ) → Blind (count writer)
count_blind writer done =
    let act = λ (c : Call). just (Counted c) in
    some_same (to_count writer done) (to_count writer (unfed done)) act act done (unfed done) (to_count_blind writer done) (λ c. refl)

finish_blind : (writer : ℕ) → Blind (finish writer)
finish_blind writer = turns_blind (push writer ∷ count writer ∷ []) (push_blind writer, (count_blind writer, tt))

begin_blind : (setting : Setting) (call : CallLine) → Blind (begin_call setting call)
begin_blind setting call = turns_blind (finish call.writer ∷ load setting call ∷ []) (finish_blind call.writer, (load_blind setting call, tt))

whole_blind : (setting : Setting) (call : CallLine) → Blind (whole_call setting call)
whole_blind setting call = turns_blind (begin_call setting call ∷ finish call.writer ∷ []) (begin_blind setting call, (finish_blind call.writer, tt))

-- ---- claims

claim_made_blind : (asked : ClaimLine) → Blind (claim_made asked)
claim_made_blind asked done =
    ap (λ (o : Option (List ℕ)). o >>= λ apid. number_of apid done >>= λ app. Some (made apid app (next_place apid app done))) (app_of_writer_blind asked.writer done)
    ∙ by_app (app_of_writer asked.writer (unfed done)) where
      made : List ℕ → ℕ → ℕ → Claimed
      made apid app place = record { app = app; writer = asked.writer; place = place; ctid = asked.ctid; level = asked.level; text = asked.text }

      by_number : (apid : List ℕ) (o : Option ℕ) → (o >>= λ app. Some (made apid app (next_place apid app done))) ≡ (o >>= λ app. Some (made apid app (next_place apid app (unfed done))))
      by_number apid None = refl
      by_number apid (Some app) = ap (λ (n : ℕ). Some (made apid app n)) (next_place_blind apid app done)

      by_app : (o : Option (List ℕ)) → (o >>= λ apid. number_of apid done >>= λ app. Some (made apid app (next_place apid app done)))
          ≡ (o >>= λ apid. number_of apid (unfed done) >>= λ app. Some (made apid app (next_place apid app (unfed done))))
      by_app None = refl
      by_app (Some apid) =
          ap (λ (o : Option ℕ). o >>= λ app. Some (made apid app (next_place apid app done))) (number_blind apid done) ∙ by_number apid (number_of apid (unfed done))

claim_blind : (asked : ClaimLine) → Blind (claim asked)
claim_blind asked done =
    let act = λ (c : Claimed). just (HasClaim c) in
    some_same (claim_made asked done) (claim_made asked (unfed done)) act act done (unfed done) (claim_made_blind asked done) (λ c. refl)

announce_blind : (writer : ℕ) → Blind (announce writer)
announce_blind writer done =
    some_same (to_announce writer done) (to_announce writer (unfed done)) (λ c. just (cond (is_full c.app done) (HeldBack c) (Announced c))) (λ c. just (cond (is_full c.app (unfed done)) (HeldBack c) (Announced c)))
    done (unfed done) (to_announce_blind writer done) (λ c. ap (λ (b : Bool). cond b (HeldBack c) (Announced c) ∷ []) (is_full_blind c.app done))

announce_upto_blind : (more writer : ℕ) → Blind (announce_upto more writer)
announce_upto_blind zero writer done = refl
announce_upto_blind (suc more) writer done =
    let step = announce writer done in
    let same = announce_blind writer done in
    let later : announce_upto more writer (done ++ step) ≡ announce_upto more writer (unfed done ++ announce writer (unfed done)) =
    blind_append (announce_upto more writer) (announce_upto_blind more writer) done step (announce writer (unfed done)) (ap unfed same) in
    ap (λ (ms : List Mark). step ++ cond (is_held_back step) [] ms) later
    ∙ ap (λ (ms : List Mark). ms ++ cond (is_held_back ms) [] (announce_upto more writer (unfed done ++ announce writer (unfed done)))) same

announce_all_blind : (writer : ℕ) → Blind (announce_all writer)
announce_all_blind writer done =
    ap (λ (n : ℕ). announce_upto n writer done) (unannounced_blind writer done) ∙ announce_upto_blind (unannounced writer (unfed done)) writer done

-- ---- what the daemon takes

event_blind : (app : ℕ) (what : Pushed) → Blind (event_taken app what)
event_blind app (OfCall c) done = ap (event.Log app c.item.writer c.item.call) (moment_blind done)
event_blind app (OfClaim c) done = ap (event.Claim c) (moment_blind done)

take_log_blind : (setting : Setting) (app : ℕ) → Blind (take_log setting app)
take_log_blind setting app done =
    let act = λ (what : Pushed). note setting (event_taken app what) in
    some_same (slice_get (pushes app done) (taken app done)) (slice_get (pushes app (unfed done)) (taken app (unfed done))) act act done (unfed done)
    (ap (λ (ps : List Pushed). slice_get ps (taken app done)) (pushes_blind app done) ∙ ap (slice_get (pushes app (unfed done))) (taken_blind app done))
    (λ what. note_blind setting (event_taken app what) (event_blind app what) done)

take_losses_blind : (setting : Setting) (app : ℕ) → Blind (take_losses setting app)
take_losses_blind setting app done =
    let act = note setting (λ now. event.Lost app (pending app now) (moment now)) in
    when_same (ltb 0 (pending app done)) (ltb 0 (pending app (unfed done))) act act done (unfed done) (ap (ltb 0) (pending_blind app done))
    (λ _. note_blind setting (λ now. event.Lost app (pending app now) (moment now))
    (λ d. ap (λ (n : ℕ). event.Lost app n (moment d)) (pending_blind app d) ∙ ap (event.Lost app (pending app (unfed d))) (moment_blind d)) done)

-- ---- clients

pub is_open_blind : (client : ℕ) → Blind (is_open client)
is_open_blind client done = ap (λ (events : List Event). option_map_or is_connect (last_that (comes_or_goes client) events) false) (journal_blind done)

pub close_blind : (setting : Setting) (client : ℕ) (cause : Why) → Blind (close setting client cause)
close_blind setting client cause done =
    let act = note setting (λ _. event.Close client cause) in
    when_same (is_open client done) (is_open client (unfed done)) act act done (unfed done) (is_open_blind client done) (λ _. note_blind setting (λ _. event.Close client cause) (λ d. refl) done)

-- an act that asks the journal alone what to do
by_journal : (act : List Event → Act) → ((events : List Event) → Blind (act events)) → Blind (λ done. act (journal done) done)
by_journal act blind done = ap (λ (events : List Event). act events done) (journal_blind done) ∙ blind (journal (unfed done)) done

when_blind : (b : Bool) (act : Act) → Blind act → Blind (when b act)
when_blind true act blind done = blind done
when_blind false act blind done = refl

connect_blind : (setting : Setting) → Blind (connect setting)
connect_blind setting = by_journal
    (λ events. when (ltb (count_by is_connect events) setting.clients && ltb (count_by is_connect events) (count_by is_close events + 8)) (note setting (λ _. event.Connect (count_by is_connect events + 1))))
    (λ events. when_blind (ltb (count_by is_connect events) setting.clients && ltb (count_by is_connect events) (count_by is_close events + 8)) (note setting (λ _. event.Connect (count_by is_connect events + 1)))
    (note_blind setting (λ _. event.Connect (count_by is_connect events + 1)) (λ d. refl)))

served_blind : (answers : List Done) (client : ℕ) (frame : List ℕ) (need : Need) → Blind (served answers client frame need)
served_blind answers client frame Nothing done = refl
served_blind answers client frame Folder done =
    ap (λ (n : ℕ). let answer = unwrap_or (slice_get answers n) did.Yes in Answered answer ∷ Noted (event.Request client frame answer) ∷ []) (answers_blind done)
served_blind answers client frame (Queue app) done =
    ap (λ (n : ℕ). cond (ltb n 16) (Injected app ∷ Noted (event.Request client frame did.Yes) ∷ []) (Noted (event.Request client frame did.Failed) ∷ [])) (injections_blind app done)

request_blind : (setting : Setting) (answers : List Done) (client : ℕ) (frame : List ℕ) → Blind (request_now setting answers client frame)
request_blind setting answers client frame =
    by_journal (λ events. served answers client frame (need_after setting events frame)) (λ events. served_blind answers client frame (need_after setting events frame))

pub ask_blind : (setting : Setting) (answers : List Done) (client : ℕ) (frame : List ℕ) → Blind (ask setting answers client frame)
ask_blind setting answers client frame done =
    let turns = note_levels setting ∷ request_now setting answers client frame ∷ note_levels_now setting ∷ [] in
    ap (λ (events : List Event). cond (ltb (count_by (is_request_of client) events) 1000) (when (is_open client done) (in_sequence turns) done) (close setting client why.TooMany done)) (journal_blind done)
    ∙ ap (λ (ms : List Mark). cond (ltb (count_by (is_request_of client) (journal (unfed done))) 1000) ms (close setting client why.TooMany done))
    (when_same (is_open client done) (is_open client (unfed done)) (in_sequence turns) (in_sequence turns) done (unfed done) (is_open_blind client done)
    (λ _. turns_blind turns (hand_out_blind setting, (request_blind setting answers client frame, (hand_out_now_blind setting, tt))) done))
    ∙ ap (λ (ms : List Mark). cond (ltb (count_by (is_request_of client) (journal (unfed done))) 1000) (when (is_open client (unfed done)) (in_sequence turns) (unfed done)) ms) (close_blind setting client why.TooMany done)

-- ---- channels and lines

pub tell_blind : (setting : Setting) (channel : ℕ) (msg : UserMsg) → Blind (tell setting channel msg)
tell_blind setting channel msg = note_blind setting (λ now. event.User channel msg (moment now)) (λ d. ap (event.User channel msg) (moment_blind d))

take_injection_blind : (app : ℕ) → Blind (take_injection app)
take_injection_blind app done =
    when_same (ltb 0 (injections app done)) (ltb 0 (injections app (unfed done))) (just (Handed app)) (just (Handed app)) done (unfed done) (ap (ltb 0) (injections_blind app done)) (λ _. refl)

on_app_blind : (apid : List ℕ) (act : ℕ → Act) → ((app : ℕ) → Blind (act app)) → Blind (on_app apid act)
on_app_blind apid act all done = some_same (number_of apid done) (number_of apid (unfed done)) act act done (unfed done) (number_blind apid done) (λ app. all app done)

-- the lines on which no bytes come
abbrev pub IsPlain : Step → Type 0
IsPlain (line.Bytes client bytes) = ⊥
IsPlain (line.User channel bytes) = ⊥
IsPlain _ = Unit {0}

pub plain_blind : (setting : Setting) (answers : List Done) (step : Step) → IsPlain step → Blind (act_of setting answers step)
plain_blind setting answers (line.App app) is =
    turns_blind (just (HasApp app) ∷ tell setting 0 (user.RegisterApp app.apid 0 app.text) ∷ []) ((λ _. refl), (tell_blind setting 0 (user.RegisterApp app.apid 0 app.text), tt))
plain_blind setting answers (line.Context context) is =
    let msg = user.RegisterContext context.apid context.ctid 0 context.level (negsuc 0) 0 context.text in
    turns_blind (just (HasContext context) ∷ tell setting 0 msg ∷ []) ((λ _. refl), (tell_blind setting 0 msg, tt))
plain_blind setting answers (line.Writer apid) is = λ _. refl
plain_blind setting answers (line.Clock secs micros) is = λ _. refl
plain_blind setting answers (line.Load call) is = begin_blind setting call
plain_blind setting answers (line.Push writer) is = push_blind writer
plain_blind setting answers (line.Count writer) is = count_blind writer
plain_blind setting answers (line.Call call) is = whole_blind setting call
plain_blind setting answers (line.Log call) is =
    turns_blind (whole_call setting call ∷ (λ done. for_some (app_of_writer call.writer done) (λ apid. on_app apid (take_log setting)) done) ∷ []) (
      whole_blind setting call,
      (
        (λ done. some_same (app_of_writer call.writer done) (app_of_writer call.writer (unfed done)) (λ apid. on_app apid (take_log setting)) (λ apid. on_app apid (take_log setting)) done (unfed done) (app_of_writer_blind call.writer done)
            (λ apid. on_app_blind apid (take_log setting) (take_log_blind setting) done)),
        tt,
      ),
    )
plain_blind setting answers (line.Claim asked) is = turns_blind (finish asked.writer ∷ claim asked ∷ []) (finish_blind asked.writer, (claim_blind asked, tt))
plain_blind setting answers (line.Announce writer) is = turns_blind (finish writer ∷ announce writer ∷ []) (finish_blind writer, (announce_blind writer, tt))
plain_blind setting answers (line.Register asked) is =
    turns_blind (finish asked.writer ∷ claim asked ∷ announce_all asked.writer ∷ []) (finish_blind asked.writer, (claim_blind asked, (announce_all_blind asked.writer, tt)))
plain_blind setting answers (line.Take apid) is = on_app_blind apid (take_log setting) (take_log_blind setting)
plain_blind setting answers (line.Losses apid) is = on_app_blind apid (take_losses setting) (take_losses_blind setting)
plain_blind setting answers (line.Levels levels.Later) is = λ _. refl
plain_blind setting answers (line.Levels levels.Now) is = λ _. refl
plain_blind setting answers line.Level is = λ done. ap (take 1) (hand_out_blind setting done)
plain_blind setting answers line.Connect is = connect_blind setting
plain_blind setting answers (line.Bytes client bytes) is = absurd is
plain_blind setting answers (line.Close client) is = close_blind setting client why.Left
plain_blind setting answers (line.User channel bytes) is = absurd is
plain_blind setting answers (line.Inject apid) is = on_app_blind apid take_injection take_injection_blind

-- ---- the end

repeat_blind : (act : Act) → Blind act → (n : ℕ) → AllByRecursion (λ act. Blind act) (replicate n act)
repeat_blind act blind zero = tt
repeat_blind act blind (suc n) = (blind, repeat_blind act blind n)

drain_blind : (setting : Setting) (app : ℕ) → Blind (drain setting app)
drain_blind setting app =
    turns_blind ((λ done. in_sequence (replicate (held_by app done) (take_log setting app)) done) ∷ take_losses setting app ∷ []) (
      (λ done. ap (λ (n : ℕ). in_sequence (replicate n (take_log setting app)) done) (held_blind app done)
          ∙ turns_blind (replicate (held_by app (unfed done)) (take_log setting app)) (repeat_blind (take_log setting app) (take_log_blind setting app) (held_by app (unfed done))) done),
      (take_losses_blind setting app, tt),
    )

pub end_blind : (setting : Setting) → Blind (end_of setting)
end_blind setting =
    let stop = λ (client : ℕ). close setting client why.Stopped in
    turns_blind (
    (λ done. in_sequence (map finish (writer_numbers done)) done)
    ∷ (λ done. in_sequence (map (drain setting) (range_with_len 0 (length (apps done)))) done)
    ∷ note_levels setting
    ∷ (λ done. in_sequence (map stop (range_with_len 1 (count_by is_connect (journal done)))) done)
    ∷ []) (
      (λ done. ap (λ (ws : List ℕ). in_sequence (map finish ws) done) (writer_numbers_blind done)
          ∙ turns_blind (map finish (writer_numbers (unfed done))) (each_blind finish finish_blind (writer_numbers (unfed done))) done),
      (
        (λ done. ap (λ (lines : List AppLine). in_sequence (map (drain setting) (range_with_len 0 (length lines))) done) (apps_blind done)
            ∙ turns_blind (map (drain setting) (range_with_len 0 (length (apps (unfed done))))) (each_blind (drain setting) (drain_blind setting) (range_with_len 0 (length (apps (unfed done))))) done),
        (
          hand_out_blind setting,
          (
            (λ done. ap (λ (events : List Event). in_sequence (map stop (range_with_len 1 (count_by is_connect events))) done) (journal_blind done)
                ∙ turns_blind (map stop (range_with_len 1 (count_by is_connect (journal (unfed done))))) (each_blind stop (λ client. close_blind setting client why.Stopped) (range_with_len 1 (count_by is_connect (journal (unfed done))))) done),
            tt,
          ),
        ),
      ),
    )
