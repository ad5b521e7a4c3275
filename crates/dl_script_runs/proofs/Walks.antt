-- Acts that declare nothing, claim no place and tell no message: those of most lines, and that of the end of a run.
use Rattle.std.proofs.Common.{◌≡◌, ℕ, ◌+◌, Bool, true, false, cond, ltb, List, [], ◌∷◌, ◌++◌, length, map, Option, Some, None, refl, sym, subst, append_assoc, append-nil}
use Rattle.std.specs.Prelude.{◌%◌, ◌&&◌, replicate, slice_get, take, count_by, is_some}
use Rattle.std.specs.List.{range_with_len}
use Rattle.dl_bytes.specs.Claim.{Claimed}
use Rattle.dl_bytes.specs.Level.{passes}
use Rattle.dl_bytes.specs.Limits.{message_limit}
use Rattle.dl_bytes.specs.Number.{◌>>=◌}
use Rattle.dl_bytes.specs.declared.outcome.Done.{Done}
use Rattle.dl_bytes.specs.declared.outcome.Done.TheVariants as did
use Rattle.dl_message.specs.Cut.{rest_fault, rest_of}
use Rattle.dl_events.specs.declared.event.Event.{Event}
use Rattle.dl_events.specs.declared.event.Event.TheVariants as event
use Rattle.dl_events.specs.declared.event.Why.{Why}
use Rattle.dl_events.specs.declared.event.Why.TheVariants as why
use Rattle.dl_script_model.specs.declared.line.CallLine.{CallLine}
use Rattle.dl_script_model.specs.declared.step.LevelEvents.TheVariants as levels
use Rattle.dl_script_model.specs.declared.step.Step.{Step}
use Rattle.dl_script_model.specs.declared.step.Step.TheVariants as line
use Rattle.dl_model.specs.declared.registry.LevelChange.{LevelChange}
use Rattle.dl_model.specs.Journal.{is_connect, is_close, is_request_of, need_after, slots_of}
use Rattle.dl_script_model.specs.Marks.{Call, Mark, HasApp, HasContext, HasWriter, Filtered, Passed, Queued, Refused, Counted, HasClaim, Announced, HeldBack, Noted, Fed, Injected, Handed, Pushed, OfCall, OfClaim, app_of_writer, apps, calls_of, fed, held_by, injections, is_full, is_later, journal, moment, named_place, number_of, passed_of, pending, pushes, taken, to_announce, to_count, to_push, unannounced, writer_numbers}
use Rattle.dl_model.specs.Registry.{slot_of}
use Rattle.dl_model.specs.Reply.{Need, Nothing, Folder, Queue}
use Rattle.dl_model.specs.Setting.{Setting}
use Rattle.dl_script_model.specs.Steps.{Act, act_of, announce, announce_all, ask, begin_call, changes, claim, close, close_malformed, connect, count, drain, end_of, event_taken, finish, for_some, in_sequence, is_open, just, level_noted, load, loaded, new_requests, note, note_levels, note_levels_now, on_app, push, receive, request_now, served, take_injection, take_log, take_losses, when, whole_call}
use Rattle.dl_model.proofs.StandingApps.{is_message}
use Rattle.dl_runs.proofs.Relations.{AreAll, Keeps, and_one, announced, asked_for, each, repeated, turns, where_so}
use Rattle.dl_runs.proofs.Turns as turn

-- ---- acts in turn

abbrev pub Goes : (List Mark → Type 0) → Act → (List Mark → Type 0) → Type 0
Goes P act Q = (done : List Mark) → P done → Q (done ++ act done)

pub goes_then : (P Q S : List Mark → Type 0) (act : Act) (acts : List Act) → Goes P act Q → Goes Q (in_sequence acts) S → Goes P (in_sequence (act ∷ acts)) S
goes_then P Q S act acts first second done is = subst S (append_assoc done (act done) (in_sequence acts (done ++ act done))) (second (done ++ act done) (first done is))

pub goes_none : (P : List Mark → Type 0) → Goes P (in_sequence []) P
goes_none P done is = subst P (sym (append-nil done)) is

-- ---- marks that declare nothing, claim no place, and note no event of a kind

-- a call as its load names it: its writer's application, the number that this has, and the place that the call's id has there
pub record IsNamed (done : List Mark) (c : Call) : Type 0 where
  pub place : ℕ
  pub owner : app_of_writer c.item.writer done ≡ Some c.item.apid
  pub number : number_of c.item.apid done ≡ Some c.item.app
  pub named : named_place c.item.writer c.item.apid c.item.ctid done ≡ Some place
  pub slot : c.slot ≡ slot_of c.item.app place

-- the loads among them are of calls that are named
abbrev pub Without : (Event → Bool) → List Mark → Mark → Type 0
Without kind done (HasApp app) = ⊥
Without kind done (HasContext context) = ⊥
Without kind done (HasWriter apid) = ⊥
Without kind done (HasClaim claim) = ⊥
Without kind done (Filtered call) = IsNamed done call
Without kind done (Passed call) = IsNamed done call
Without kind done (Noted e) = kind e ≡ false
Without kind done _ = Unit {0}

module _ (setting : Setting) (kind : Event → Bool) (on_levels : (slot level : ℕ) → kind (event.Level slot level) ≡ false) where
  levels_of : (done : List Mark) (cs : List LevelChange) → AreAll (Without kind) done (map level_noted cs)
  levels_of done [] = tt
  levels_of done (c ∷ cs) = (on_levels c.slot c.level, levels_of (done ++ level_noted c ∷ []) cs)

  pub hands_out : Keeps (Without kind) (note_levels setting)
  hands_out done = levels_of done (changes setting (journal done))

  pub hands_out_now : Keeps (Without kind) (note_levels_now setting)
  hands_out_now done = by (is_later done) where
    by : (b : Bool) → AreAll (Without kind) done (cond b [] (note_levels setting done))
    by true = tt
    by false = hands_out done

  pub notes : (make : List Mark → Event) → ((done : List Mark) → kind (make done) ≡ false) → Keeps (Without kind) (note setting make)
  notes make none = turns (Without kind) (note_levels setting ∷ (λ done. Noted (make done) ∷ []) ∷ note_levels_now setting ∷ []) (hands_out, ((λ done. (none done, tt)), (hands_out_now, tt)))

-- ---- acts that declare nothing, claim no place and tell no message

abbrev pub Still : List Mark → Mark → Type 0
Still = Without is_message

module _ (setting : Setting) where
  pub no_message : (slot level : ℕ) → is_message (event.Level slot level) ≡ false
  no_message slot level = refl

  named_so : (call : CallLine) (done : List Mark) (c : Call) → loaded setting call done ≡ Some c → IsNamed done c
  named_so call done c e = by_writer (app_of_writer call.writer done) refl e where
    made : List ℕ → ℕ → ℕ → Call
    made apid app place =
        let slot = slots_of setting (journal done) (slot_of app place) in
        record {
          item = record {
            app = app;
            writer = call.writer;
            call = 1 + calls_of call.writer done;
            apid = apid;
            ctid = call.ctid;
            severity = call.severity;
            at = call.at;
            mcnt = passed_of call.writer done % 256;
            payload = call.payload;
          };
          slot = slot_of app place;
          version = slot.version;
          held = slot.level;
        }

    by_place : (apid : List ℕ) (app : ℕ) → app_of_writer call.writer done ≡ Some apid → number_of apid done ≡ Some app → (o : Option ℕ) → named_place call.writer apid call.ctid done ≡ o
        → (o >>= λ place. Some (made apid app place)) ≡ Some c → IsNamed done c
    by_place apid app owner number None is e = absurd cc
    by_place apid app owner number (Some place) is e =
        let same : made apid app place ≡ c = cc in
        subst (IsNamed done) same (record { place = place; owner = owner; number = number; named = is; slot = refl })

    by_app : (apid : List ℕ) → app_of_writer call.writer done ≡ Some apid → (o : Option ℕ) → number_of apid done ≡ o
        → (o >>= λ app. named_place call.writer apid call.ctid done >>= λ place. Some (made apid app place)) ≡ Some c → IsNamed done c
    by_app apid owner None is e = absurd cc
    by_app apid owner (Some app) is e = by_place apid app owner is (named_place call.writer apid call.ctid done) refl e

    by_writer : (o : Option (List ℕ)) → app_of_writer call.writer done ≡ o
        → (o >>= λ apid. number_of apid done >>= λ app. named_place call.writer apid call.ctid done >>= λ place. Some (made apid app place)) ≡ Some c → IsNamed done c
    by_writer None is e = absurd cc
    by_writer (Some apid) is e = by_app apid is (number_of apid done) refl e

  pub loads : (call : CallLine) → Keeps Still (load setting call)
  loads call done =
      asked_for Still (loaded setting call done) (λ c. just (cond (passes c.item.severity c.held) (Passed c) (Filtered c))) done
      (λ c e. (by c (named_so call done c e) (passes c.item.severity c.held), tt)) where
        by : (c : Call) → IsNamed done c → (b : Bool) → Still done (cond b (Passed c) (Filtered c))
        by c named true = named
        by c named false = named

  pub pushed : (writer : ℕ) → Keeps Still (push writer)
  pushed writer done = asked_for Still (to_push writer done) (λ c. just (cond (is_full c.item.app done) (Refused c) (Queued c))) done (λ c e. (by c (is_full c.item.app done), tt)) where
    by : (c : Call) (b : Bool) → Still done (cond b (Refused c) (Queued c))
    by c true = tt
    by c false = tt

  pub counts : (writer : ℕ) → Keeps Still (count writer)
  counts writer done = asked_for Still (to_count writer done) (λ c. just (Counted c)) done (λ c e. (tt, tt))

  pub finishes : (writer : ℕ) → Keeps Still (finish writer)
  finishes writer = turns Still (push writer ∷ count writer ∷ []) (pushed writer, (counts writer, tt))

  pub begins : (call : CallLine) → Keeps Still (begin_call setting call)
  begins call = turns Still (finish call.writer ∷ load setting call ∷ []) (finishes call.writer, (loads call, tt))

  pub calls : (call : CallLine) → Keeps Still (whole_call setting call)
  calls call = turns Still (begin_call setting call ∷ finish call.writer ∷ []) (begins call, (finishes call.writer, tt))

  pub announces : (writer : ℕ) → Keeps Still (announce writer)
  announces writer done = asked_for Still (to_announce writer done) (λ c. just (cond (is_full c.app done) (HeldBack c) (Announced c))) done (λ c e. (by c (is_full c.app done), tt)) where
    by : (c : Claimed) (b : Bool) → Still done (cond b (HeldBack c) (Announced c))
    by c true = tt
    by c false = tt

  pub announces_all : (writer : ℕ) → Keeps Still (announce_all writer)
  announces_all writer done = announced Still writer (announces writer) (unannounced writer done) done

  no_message_taken : (app : ℕ) (what : Pushed) (done : List Mark) → is_message (event_taken app what done) ≡ false
  no_message_taken app (OfCall c) done = refl
  no_message_taken app (OfClaim c) done = refl

  pub takes : (app : ℕ) → Keeps Still (take_log setting app)
  takes app done =
      asked_for Still (slice_get (pushes app done) (taken app done)) (λ what. note setting (event_taken app what)) done
      (λ what e. notes setting is_message no_message (event_taken app what) (no_message_taken app what) done)

  pub loses : (app : ℕ) → Keeps Still (take_losses setting app)
  loses app done =
      let make : List Mark → Event = λ now. event.Lost app (pending app now) (moment now) in
      where_so Still (ltb 0 (pending app done)) (note setting make) done (λ _. notes setting is_message no_message make (λ _. refl) done)

  pub on_apps : (apid : List ℕ) (act : ℕ → Act) → ((app : ℕ) → Keeps Still (act app)) → Keeps Still (on_app apid act)
  on_apps apid act all done = asked_for Still (number_of apid done) act done (λ app _. all app done)

  pub closes : (client : ℕ) (cause : Why) → Keeps Still (close setting client cause)
  closes client cause done =
      let make : List Mark → Event = λ now. event.Close client cause in
      where_so Still (is_open client done) (note setting make) done (λ _. notes setting is_message no_message make (λ _. refl) done)

  pub connects : Keeps Still (connect setting)
  connects done =
      let came = count_by is_connect (journal done) in
      let make : List Mark → Event = λ now. event.Connect (came + 1) in
      where_so Still (ltb came setting.clients && ltb came (count_by is_close (journal done) + 8)) (note setting make) done (λ _. notes setting is_message no_message make (λ _. refl) done)

  serves : (answers : List Done) (client : ℕ) (frame : List ℕ) (need : Need) → Keeps Still (served answers client frame need)
  serves answers client frame Nothing done = (refl, tt)
  serves answers client frame Folder done = (tt, (refl, tt))
  serves answers client frame (Queue app) done = by (ltb (injections app done) 16) where
    by : (b : Bool) → AreAll Still done (cond b (Injected app ∷ Noted (event.Request client frame did.Yes) ∷ []) (Noted (event.Request client frame did.Failed) ∷ []))
    by true = (tt, (refl, tt))
    by false = (refl, tt)

  requests : (answers : List Done) (client : ℕ) (frame : List ℕ) → Keeps Still (request_now setting answers client frame)
  requests answers client frame done = serves answers client frame (need_after setting (journal done) frame) done

  asks : (answers : List Done) (client : ℕ) (frame : List ℕ) → Keeps Still (ask setting answers client frame)
  asks answers client frame done = by (ltb (count_by (is_request_of client) (journal done)) 1000) where
    acts : List Act
    acts = note_levels setting ∷ request_now setting answers client frame ∷ note_levels_now setting ∷ []

    by : (b : Bool) → AreAll Still done (cond b (when (is_open client done) (in_sequence acts) done) (close setting client why.TooMany done))
    by true =
        where_so Still (is_open client done) (in_sequence acts) done
        (λ _. turns Still acts (hands_out setting is_message no_message, (requests answers client frame, (hands_out_now setting is_message no_message, tt))) done)
    by false = closes client why.TooMany done

  closes_malformed : (client : ℕ) → Keeps Still (close_malformed setting client)
  closes_malformed client done = where_so Still (is_some (rest_fault message_limit (rest_of message_limit (fed client done)))) (close setting client why.Malformed) done (λ _. closes client why.Malformed done)

  pub receives : (answers : List Done) (client : ℕ) (bytes : List ℕ) → Keeps Still (receive setting answers client bytes)
  receives answers client bytes done =
      let all = map (ask setting answers client) (new_requests client bytes done) in
      where_so Still (is_open client done) (in_sequence (just (Fed client bytes) ∷ (all ++ close_malformed setting client ∷ []))) done
      (λ _. turns Still (just (Fed client bytes) ∷ (all ++ close_malformed setting client ∷ []))
      ((λ _. (tt, tt)), and_one Still all (close_malformed setting client) (each Still (ask setting answers client) (asks answers client) (new_requests client bytes done)) (closes_malformed client)) done)

  pub hands : (app : ℕ) → Keeps Still (take_injection app)
  hands app done = where_so Still (ltb 0 (injections app done)) (just (Handed app)) done (λ _. (tt, tt))

  first_of_all : (done ms : List Mark) → AreAll Still done ms → AreAll Still done (take 1 ms)
  first_of_all done [] all = tt
  first_of_all done (m ∷ ms) all = (all.0, tt)

  pub first_level : Keeps Still (λ done. take 1 (note_levels setting done))
  first_level done = first_of_all done (note_levels setting done) (hands_out setting is_message no_message done)

  pub logs : (call : CallLine) → Keeps Still (in_sequence (whole_call setting call ∷ (λ done. for_some (app_of_writer call.writer done) (λ apid. on_app apid (take_log setting)) done) ∷ []))
  logs call =
      turns Still (whole_call setting call ∷ (λ done. for_some (app_of_writer call.writer done) (λ apid. on_app apid (take_log setting)) done) ∷ []) (
        calls call,
        ((λ done. asked_for Still (app_of_writer call.writer done) (λ apid. on_app apid (take_log setting)) done (λ apid _. on_apps apid (take_log setting) takes done)), tt),
      )

  drains : (app : ℕ) → Keeps Still (drain setting app)
  drains app =
      turns Still ((λ done. in_sequence (replicate (held_by app done) (take_log setting app)) done) ∷ take_losses setting app ∷ []) (
        (λ done. turns Still (replicate (held_by app done) (take_log setting app)) (repeated Still (held_by app done) (take_log setting app) (takes app)) done),
        (loses app, tt),
      )

  pub ends : Keeps Still (end_of setting)
  ends =
      let stop = λ (client : ℕ). close setting client why.Stopped in
      turns Still (turn.finishes ∷ turn.drains setting ∷ note_levels setting ∷ turn.stops setting ∷ []) (
        (λ done. turns Still (map finish (writer_numbers done)) (each Still finish finishes (writer_numbers done)) done),
        (
          (λ done. turns Still (map (drain setting) (range_with_len 0 (length (apps done)))) (each Still (drain setting) drains (range_with_len 0 (length (apps done)))) done),
          (
            hands_out setting is_message no_message,
            (
              (λ done. turns Still (map stop (range_with_len 1 (count_by is_connect (journal done)))) (each Still stop (λ client. closes client why.Stopped) (range_with_len 1 (count_by is_connect (journal done)))) done),
              tt,
            ),
          ),
        ),
      )

  -- lines that declare nothing, claim no place and tell no message
  abbrev pub IsStill : Step → Type 0
  IsStill (line.App app) = ⊥
  IsStill (line.Context context) = ⊥
  IsStill (line.Writer apid) = ⊥
  IsStill (line.Claim asked) = ⊥
  IsStill (line.Register asked) = ⊥
  IsStill (line.User channel bytes) = ⊥
  IsStill _ = Unit {0}

  pub still_line : (answers : List Done) (step : Step) → IsStill step → Keeps Still (act_of setting answers step)
  still_line answers (line.App app) none = absurd none
  still_line answers (line.Context context) none = absurd none
  still_line answers (line.Writer apid) none = absurd none
  still_line answers (line.Claim asked) none = absurd none
  still_line answers (line.Register asked) none = absurd none
  still_line answers (line.User channel bytes) none = absurd none
  still_line answers (line.Clock secs micros) none = λ _. (tt, tt)
  still_line answers (line.Load call) none = begins call
  still_line answers (line.Push writer) none = pushed writer
  still_line answers (line.Count writer) none = counts writer
  still_line answers (line.Call call) none = calls call
  still_line answers (line.Log call) none = logs call
  still_line answers (line.Announce writer) none = turns Still (finish writer ∷ announce writer ∷ []) (finishes writer, (announces writer, tt))
  still_line answers (line.Take apid) none = on_apps apid (take_log setting) takes
  still_line answers (line.Losses apid) none = on_apps apid (take_losses setting) loses
  still_line answers (line.Levels levels.Later) none = λ _. (tt, tt)
  still_line answers (line.Levels levels.Now) none = λ _. (tt, tt)
  still_line answers line.Level none = first_level
  still_line answers line.Connect none = connects
  still_line answers (line.Bytes client bytes) none = receives answers client bytes
  still_line answers (line.Close client) none = closes client why.Left
  still_line answers (line.Inject apid) none = on_apps apid take_injection hands
