-- Steps: what each line of a step script comes to, after all that came before it.
use Rattle.std.specs.Prelude.{ℕ, zero, suc, ◌+◌, ◌%◌, ◌&&◌, nat_lt, Bool, true, false, List, [], ◌∷◌, ◌++◌, length, take, drop, map, replicate, count_by, slice_get, Option, Some, None, is_some, unwrap_or, if◌then◌else◌, negsuc}
use Rattle.std.specs.List.{filter_map, range_with_len}
use Rattle.std.specs.Option.{option_map_or}
use Rattle.dl_bytes.specs.Claim.{Claimed}
use Rattle.dl_bytes.specs.Level.{passes}
use Rattle.dl_bytes.specs.Limits.{injection_limit, open_client_limit, request_limit, message_limit}
use Rattle.dl_bytes.specs.Number.{◌>>=◌}
use Rattle.dl_bytes.specs.declared.outcome.Done.{Done}
use Rattle.dl_bytes.specs.declared.outcome.Done.TheVariants as did
use Rattle.dl_bytes.specs.declared.user.UserMsg.{UserMsg}
use Rattle.dl_bytes.specs.declared.user.UserMsg.TheVariants as user
use Rattle.dl_message.specs.Cut.{rest_fault, rest_of}
use Rattle.dl_message.specs.Requests.{requests}
use Rattle.dl_user.specs.Cut.{messages_of}
use Rattle.dl_events.specs.declared.event.Event.{Event}
use Rattle.dl_events.specs.declared.event.Event.TheVariants as event
use Rattle.dl_events.specs.declared.event.Why.{Why}
use Rattle.dl_events.specs.declared.event.Why.TheVariants as why
use Rattle.dl_script_model.specs.declared.line.CallLine.{CallLine}
use Rattle.dl_script_model.specs.declared.line.ClaimLine.{ClaimLine}
use Rattle.dl_script_model.specs.declared.step.LevelEvents.TheVariants as levels
use Rattle.dl_script_model.specs.declared.step.Step.{Step}
use Rattle.dl_script_model.specs.declared.step.Step.TheVariants as line
use Rattle.dl_model.specs.declared.registry.LevelChange.{LevelChange}
use Rattle.dl_model.specs.Along.{last_that}
use Rattle.dl_model.specs.Setting.{Setting}
use Rattle.dl_model.specs.Registry.{change_at, all_slots, slot_of}
use Rattle.dl_model.specs.Reply.{Need, Nothing, Folder, Queue}
use Rattle.dl_model.specs.Journal.{registry_of, slots_of, need_after, is_connect, is_close, comes_or_goes, is_request_of}
use Rattle.dl_script_model.specs.Marks.{Call, Mark, HasApp, HasContext, HasWriter, Filtered, Passed, Queued, Refused, Counted, HasClaim, Announced, HeldBack, Noted, Clocked, LevelsWait, Fed, Heard, Answered, Injected, Handed, journal, apps, number_of, writer_numbers, app_of_writer, calls_of, passed_of, to_push, to_count, unannounced, to_announce, named_place, next_place, Pushed, OfCall, OfClaim, pushes, taken, held_by, is_full, pending, moment_at, moment, is_later, fed, heard, is_answer, injections}

-- ---- acts, and acts in turn

-- An act: what it comes to, after these marks.
abbrev pub Act : Type 0
Act = List Mark → List Mark

-- one act after the other, each after all marks before it
abbrev pub in_sequence : List Act → Act
in_sequence [] done = []
in_sequence (act ∷ acts) done = let more = act done in more ++ in_sequence acts (done ++ more)

-- this mark, whatever was before
abbrev pub just : Mark → Act
just mark done = mark ∷ []

-- the act that something there asks for, or nothing
abbrev pub for_some : {A : Type 0} → Option A → (A → Act) → Act
for_some None act done = []
for_some (Some x) act done = act x done

abbrev pub when : Bool → Act → Act
when there act done = if there then act done else []

-- ---- the daemon notes events

-- the changes of levels that a journal owes, in the order of their slots
unfoldable pub changes : Setting → List Event → List LevelChange
changes setting events = filter_map (change_at (slots_of setting events) (registry_of setting events)) all_slots

abbrev pub level_noted : LevelChange → Mark
level_noted change = Noted (event.Level change.slot change.level)

-- all Level events that wait
abbrev pub note_levels : Setting → Act
note_levels setting done = map level_noted (changes setting (journal done))

-- the same where they don't wait
abbrev pub note_levels_now : Setting → Act
note_levels_now setting done = if is_later done then [] else note_levels setting done

-- An event is noted behind the Level events that wait; those that it owes follow, unless they are to wait.
abbrev pub note : Setting → (List Mark → Event) → Act
note setting make = in_sequence (note_levels setting ∷ (λ done. Noted (make done) ∷ []) ∷ note_levels_now setting ∷ [])

-- ---- log calls

-- a call as its load makes it, where the writer and the context were declared: its number, its message counter, and
-- what its slot holds
abbrev pub loaded : Setting → CallLine → List Mark → Option Call
loaded setting call done = do
  apid ← app_of_writer call.writer done
  app ← number_of apid done
  place ← named_place call.writer apid call.ctid done
  Some (let slot = slots_of setting (journal done) (slot_of app place) in record {
    item = record {
      app = app;
      writer = call.writer;
      call = 1 + calls_of call.writer done;
      apid = apid;
      ctid = call.ctid;
      severity = call.severity;
      at = call.at;
      mcnt = passed_of call.writer done % 256;
      payload = call.payload;
    };
    slot = slot_of app place;
    version = slot.version;
    held = slot.level;
  })

-- the load of a call: its level lets it through, or filters it
abbrev pub load : Setting → CallLine → Act
load setting call done =
    for_some (loaded setting call done) (λ c. just (if passes c.item.severity c.held then Passed c else Filtered c)) done

-- the push of the writer's call that passed: the ring takes it unless it is full
abbrev pub push : ℕ → Act
push writer done = for_some (to_push writer done) (λ c. just (if is_full c.item.app done then Refused c else Queued c)) done

-- the count of the writer's call that the ring refused
abbrev pub count : ℕ → Act
count writer done = for_some (to_count writer done) (λ c. just (Counted c)) done

-- what an open call of a writer still needs
abbrev pub finish : ℕ → Act
finish writer = in_sequence (push writer ∷ count writer ∷ [])

-- a new call, once the writer's open one is finished
abbrev pub begin_call : Setting → CallLine → Act
begin_call setting call = in_sequence (finish call.writer ∷ load setting call ∷ [])

-- a whole call
abbrev pub whole_call : Setting → CallLine → Act
whole_call setting call = in_sequence (begin_call setting call ∷ finish call.writer ∷ [])

-- ---- claims

-- a claim as its step makes it, where the writer was declared: it gets the next place of the writer's application
abbrev pub claim_made : ClaimLine → List Mark → Option Claimed
claim_made asked done = do
  apid ← app_of_writer asked.writer done
  app ← number_of apid done
  Some (record {
    app = app;
    writer = asked.writer;
    place = next_place apid app done;
    ctid = asked.ctid;
    level = asked.level;
    text = asked.text;
  })

abbrev pub claim : ClaimLine → Act
claim asked done = for_some (claim_made asked done) (λ c. just (HasClaim c)) done

-- the push of the writer's first claim that waits: the ring takes it unless it is full
abbrev pub announce : ℕ → Act
announce writer done = for_some (to_announce writer done) (λ c. just (if is_full c.app done then HeldBack c else Announced c)) done

-- the ring refused what was to be announced
abbrev pub is_held_back : List Mark → Bool
is_held_back (HeldBack c ∷ []) = true
is_held_back _ = false

-- up to so many claims are pushed in turn, until the ring refuses one
abbrev pub announce_upto : ℕ → ℕ → Act
announce_upto zero writer done = []
announce_upto (suc more) writer done =
    let step = announce writer done in
    step ++ (if is_held_back step then [] else announce_upto more writer (done ++ step))

-- all that wait
abbrev pub announce_all : ℕ → Act
announce_all writer done = announce_upto (unannounced writer done) writer done

-- ---- what the daemon takes of applications

-- what the daemon notes of what it takes
abbrev pub event_taken : ℕ → Pushed → List Mark → Event
event_taken app (OfCall c) now = event.Log app c.item.writer c.item.call (moment now)
event_taken app (OfClaim c) now = event.Claim c (moment now)

-- the daemon takes the next call or claim of a ring, where there is one
abbrev pub take_log : Setting → ℕ → Act
take_log setting app done = for_some (slice_get (pushes app done) (taken app done)) (λ what. note setting (event_taken app what)) done

-- the daemon takes the count of an application's lost calls, where there are some
abbrev pub take_losses : Setting → ℕ → Act
take_losses setting app done =
    when (nat_lt 0 (pending app done)) (note setting (λ now. event.Lost app (pending app now) (moment now))) done

-- ---- clients

-- a client is open: it came, and has not gone since
abbrev pub is_open : ℕ → List Mark → Bool
is_open client done = option_map_or is_connect (last_that (comes_or_goes client) (journal done)) false

abbrev pub close : Setting → ℕ → Why → Act
close setting client cause done = when (is_open client done) (note setting (λ _. event.Close client cause)) done

-- a client is taken while fewer came than may, and fewer than 8 are open
abbrev pub connect : Setting → Act
connect setting done =
    let came = count_by is_connect (journal done) in
    when (nat_lt came setting.clients && nat_lt came (count_by is_close (journal done) + open_client_limit)) (note setting (λ _. event.Connect (came + 1))) done

-- a request that is served: the folder's next answer shows in it, and whether the queue had room
abbrev pub served : List Done → ℕ → List ℕ → Need → Act
served answers client frame Nothing done = Noted (event.Request client frame did.Yes) ∷ []
served answers client frame Folder done =
    let answer = unwrap_or (slice_get answers (count_by is_answer done)) did.Yes in
    Answered answer ∷ Noted (event.Request client frame answer) ∷ []
served answers client frame (Queue app) done =
    if nat_lt (injections app done) injection_limit then Injected app ∷ Noted (event.Request client frame did.Yes) ∷ []
    else Noted (event.Request client frame did.Failed) ∷ []

abbrev pub request_now : Setting → List Done → ℕ → List ℕ → Act
request_now setting answers client frame done =
    served answers client frame (need_after setting (journal done) frame) done

-- a whole request of a client: the 1001st closes it
abbrev pub ask : Setting → List Done → ℕ → List ℕ → Act
ask setting answers client frame done =
    if nat_lt (count_by (is_request_of client) (journal done)) request_limit
    then when (is_open client done) (in_sequence (note_levels setting ∷ request_now setting answers client frame ∷ note_levels_now setting ∷ [])) done
    else close setting client why.TooMany done

-- the requests that these bytes of a client make whole
abbrev pub new_requests : ℕ → List ℕ → List Mark → List (List ℕ)
new_requests client bytes done = drop (length (requests (fed client done))) (requests (fed client done ++ bytes))

-- a client whose bytes show a bad header is closed
abbrev pub close_malformed : Setting → ℕ → Act
close_malformed setting client done =
    when (is_some (rest_fault message_limit (rest_of message_limit (fed client done)))) (close setting client why.Malformed) done

-- bytes of a client that is open: each request that became whole in turn, and then the bad header, if one shows
abbrev pub receive : Setting → List Done → ℕ → List ℕ → Act
receive setting answers client bytes done =
    when (is_open client done)
    (in_sequence (just (Fed client bytes) ∷ (map (ask setting answers client) (new_requests client bytes done) ++ close_malformed setting client ∷ []))) done

-- ---- channels of user messages

-- the messages that these bytes of a channel make whole
abbrev pub new_messages : ℕ → List ℕ → List Mark → List UserMsg
new_messages channel bytes done = drop (length (messages_of (heard channel done))) (messages_of (heard channel done ++ bytes))

abbrev pub tell : Setting → ℕ → UserMsg → Act
tell setting channel msg = note setting (λ now. event.User channel msg (moment now))

-- bytes on a channel: each message that became whole in turn
abbrev pub hear : Setting → ℕ → List ℕ → Act
hear setting channel bytes done =
    in_sequence (just (Heard channel bytes) ∷ map (tell setting channel) (new_messages channel bytes done)) done

-- ---- lines

-- an application takes its oldest injection, where there is one
abbrev pub take_injection : ℕ → Act
take_injection app done = when (nat_lt 0 (injections app done)) (just (Handed app)) done

-- an act on the application of this id
abbrev pub on_app : List ℕ → (ℕ → Act) → Act
on_app apid act done = for_some (number_of apid done) act done

-- what a line of a script comes to. Applications and contexts register on channel 0.
abbrev pub act_of : Setting → List Done → Step → Act
act_of setting answers (line.App app) =
    in_sequence (just (HasApp app) ∷ tell setting 0 (user.RegisterApp app.apid 0 app.text) ∷ [])
act_of setting answers (line.Context context) =
    in_sequence (just (HasContext context) ∷ tell setting 0 (user.RegisterContext context.apid context.ctid 0 context.level (negsuc 0) 0 context.text) ∷ [])
act_of setting answers (line.Writer apid) = just (HasWriter apid)
act_of setting answers (line.Clock secs micros) = just (Clocked (moment_at secs micros))
act_of setting answers (line.Load call) = begin_call setting call
act_of setting answers (line.Push writer) = push writer
act_of setting answers (line.Count writer) = count writer
act_of setting answers (line.Call call) = whole_call setting call
act_of setting answers (line.Log call) =
    in_sequence (whole_call setting call ∷ (λ done. for_some (app_of_writer call.writer done) (λ apid. on_app apid (take_log setting)) done) ∷ [])
act_of setting answers (line.Claim asked) = in_sequence (finish asked.writer ∷ claim asked ∷ [])
act_of setting answers (line.Announce writer) = in_sequence (finish writer ∷ announce writer ∷ [])
act_of setting answers (line.Register asked) = in_sequence (finish asked.writer ∷ claim asked ∷ announce_all asked.writer ∷ [])
act_of setting answers (line.Take apid) = on_app apid (take_log setting)
act_of setting answers (line.Losses apid) = on_app apid (take_losses setting)
act_of setting answers (line.Levels levels.Later) = just (LevelsWait true)
act_of setting answers (line.Levels levels.Now) = just (LevelsWait false)
act_of setting answers line.Level = λ done. take 1 (note_levels setting done)
act_of setting answers line.Connect = connect setting
act_of setting answers (line.Bytes client bytes) = receive setting answers client bytes
act_of setting answers (line.Close client) = close setting client why.Left
act_of setting answers (line.User channel bytes) = hear setting channel bytes
act_of setting answers (line.Inject apid) = on_app apid take_injection

-- ---- the end of a run

-- what is still in an application's ring is taken, and then its losses
abbrev pub drain : Setting → ℕ → Act
drain setting app = in_sequence ((λ done. in_sequence (replicate (held_by app done) (take_log setting app)) done) ∷ take_losses setting app ∷ [])

-- Open calls are finished, rings and losses are emptied application by application, Level events no longer wait, and
-- the clients that are open are closed in the order of their numbers. Claims that wait stay unannounced.
abbrev pub end_of : Setting → Act
end_of setting = in_sequence (
    (λ done. in_sequence (map finish (writer_numbers done)) done)
    ∷ (λ done. in_sequence (map (drain setting) (range_with_len 0 (length (apps done)))) done)
    ∷ note_levels setting
    ∷ (λ done. in_sequence (map (λ client. close setting client why.Stopped) (range_with_len 1 (count_by is_connect (journal done)))) done)
    ∷ [])

-- The marks of lines, where the folder answers so to the Stores and the Resets that ask it; and those of a whole run.
abbrev pub after_lines : Setting → List Done → List Step → List Mark
after_lines setting answers steps = in_sequence (map (act_of setting answers) steps) []

abbrev pub run : Setting → List Done → List Step → List Mark
run setting answers steps = in_sequence (map (act_of setting answers) steps ++ end_of setting ∷ []) []
