-- Each mark of a run rests on those before it.
use Rattle.std.proofs.Common.{◌≡◌, ℕ, zero, suc, ◌+◌, ◌%◌, ◌<◌, Bool, true, false, cond, eqb, ltb, List, [], ◌∷◌, ◌++◌, Option, Some, None, refl, sym, ap, subst, ◌∙◌, append_assoc, arith}
use Rattle.std.specs.Prelude.{IfSome, slice_get, count_by, map, reverse, length, replicate, is_some, ◌&&◌, negsuc, take}
use Rattle.std.specs.List.{AllByRecursion, after_last, cons_option, filter, filter_map, range_with_len}
use Rattle.std.specs.Option.{option_and_then}
use Rattle.std.proofs.lemmas.List.{append-nil}
use Rattle.std.proofs.lemmas.List.Elements.{filter_map-append}
use Rattle.std.proofs.lemmas.Bool.Decides.{nat_tests}
use Rattle.std.proofs.lemmas.Bool.{eqb-true}
use Rattle.dl_lemmas.proofs.Options.{same_thing}
use Rattle.dl_bytes.specs.Claim.{Claimed}
use Rattle.dl_bytes.specs.Limits.{message_limit}
use Rattle.dl_bytes.specs.Level.{passes}
use Rattle.dl_events.specs.declared.event.Event.{Event}
use Rattle.dl_events.specs.declared.event.Event.TheVariants as event
use Rattle.dl_model.specs.declared.registry.LevelChange.{LevelChange}
use Rattle.dl_model.specs.Along.{last_that}
use Rattle.dl_model.specs.Setting.{Setting}
use Rattle.dl_script_model.specs.Marks.{HasApp, HasContext, HasClaim, Announced, HeldBack, Fed, Heard, Injected, Handed, injections, fed, held_by, writer_numbers, apps, Call, Mark, Filtered, Counted, app_of_writer, number_of, named_place, next_place, claim_of, announced_by, to_announce, unannounced, calls_of, passed_of, moment, Passed, Refused, Queued, Noted, journal, event_of, is_step_of, passed, refused, to_push, to_count, Pushed, OfCall, OfClaim, pushes, pushed_of, taken, is_taken_of, is_full, is_later, pending, is_lost_of, is_counted_of}
use Rattle.dl_script_model.specs.Runs.{IsLoaded, IsClaimed, EventRestsOn, RestsOn, AreFounded}
use Rattle.dl_bytes.specs.Number.{◌>>=◌}
use Rattle.dl_script_model.specs.declared.line.CallLine.{CallLine}
use Rattle.dl_script_model.specs.declared.line.ClaimLine.{ClaimLine}
use Rattle.dl_model.specs.declared.registry.Slot.{Slot}
use Rattle.dl_model.specs.Registry.{slot_of}
use Rattle.dl_model.specs.Journal.{slots_of, is_connect, is_close, is_request_of, need_after}
use Rattle.dl_bytes.specs.declared.outcome.Done.{Done}
use Rattle.dl_bytes.specs.declared.outcome.Done.TheVariants as did
use Rattle.dl_bytes.specs.declared.user.UserMsg.{UserMsg}
use Rattle.dl_bytes.specs.declared.user.UserMsg.TheVariants as user
use Rattle.dl_message.specs.Cut.{rest_fault, rest_of}
use Rattle.dl_events.specs.declared.event.Why.{Why}
use Rattle.dl_events.specs.declared.event.Why.TheVariants as why
use Rattle.dl_script_model.specs.declared.step.LevelEvents.TheVariants as levels
use Rattle.dl_script_model.specs.declared.step.Step.{Step}
use Rattle.dl_script_model.specs.declared.step.Step.TheVariants as line
use Rattle.dl_model.specs.Reply.{Need, Nothing, Folder, Queue}
use Rattle.dl_script_model.specs.Steps.{is_open, close, connect, served, request_now, ask, close_malformed, new_requests, receive, new_messages, tell, hear, on_app, take_injection, act_of, drain, end_of, after_lines, run, loaded, load, push, count, finish, begin_call, whole_call, claim_made, claim, announce, is_held_back, announce_upto, announce_all, event_taken, take_log, take_losses, Act, in_sequence, just, for_some, when, level_noted, note_levels, note_levels_now, changes, note}
use Rattle.dl_model.proofs.Lists.{last_that-one, after_last-one, count_by-append, find-passes}

-- ---- acts in turn

pub both : (setting : Setting) (before xs ys : List Mark) → AreFounded setting before xs → AreFounded setting (before ++ xs) ys → AreFounded setting before (xs ++ ys)
both setting before [] ys first second = subst (λ b. AreFounded setting b ys) (append-nil before) second
both setting before (x ∷ xs) ys first second =
    (first.0, both setting (before ++ x ∷ []) xs ys first.1 (subst (λ b. AreFounded setting b ys) (sym (append_assoc before (x ∷ []) xs)) second))

-- an act whose marks rest on what was before, whatever that was
abbrev pub IsFounded : Setting → Act → Type 0
IsFounded setting act = (done : List Mark) → AreFounded setting done (act done)

pub turns : (setting : Setting) (acts : List Act) → AllByRecursion (IsFounded setting) acts → IsFounded setting (in_sequence acts)
turns setting [] all done = tt
turns setting (act ∷ acts) all done = both setting done (act done) (in_sequence acts (done ++ act done)) (all.0 done) (turns setting acts all.1 (done ++ act done))

pub each : {A : Type 0} (setting : Setting) (f : A → Act) → ((x : A) → IsFounded setting (f x)) → (xs : List A) → AllByRecursion (IsFounded setting) (map f xs)
each setting f all [] = tt
each setting f all (x ∷ xs) = (all x, each setting f all xs)

pub asked_for : {A : Type 0} (setting : Setting) (o : Option A) (act : A → Act) (done : List Mark) → ((x : A) → o ≡ Some x → AreFounded setting done (act x done)) →
    AreFounded setting done (for_some o act done)
asked_for setting None act done all = tt
asked_for setting (Some x) act done all = all x refl

pub where_so : (setting : Setting) (b : Bool) (act : Act) (done : List Mark) → (b ≡ true → AreFounded setting done (act done)) → AreFounded setting done (when b act done)
where_so setting true act done is = is refl
where_so setting false act done is = tt

-- ---- Level events

levels_founded : (setting : Setting) (done : List Mark) (cs : List LevelChange) → AreFounded setting done (map level_noted cs)
levels_founded setting done [] = tt
levels_founded setting done (c ∷ cs) = (tt, levels_founded setting (done ++ level_noted c ∷ []) cs)

pub hand_out_founded : (setting : Setting) → IsFounded setting (note_levels setting)
hand_out_founded setting done = levels_founded setting done (changes setting (journal done))

pub hand_out_now_founded : (setting : Setting) → IsFounded setting (note_levels_now setting)
hand_out_now_founded setting done = by_test (is_later done) where
  by_test : (b : Bool) → AreFounded setting done (cond b [] (note_levels setting done))
  by_test true = tt
  by_test false = hand_out_founded setting done

-- ---- what Level events leave as it was

journal-levels : (done : List Mark) (cs : List LevelChange) (app : ℕ) → taken app (done ++ map level_noted cs) ≡ taken app done
journal-levels done [] app = ap (taken app) (append-nil done)
journal-levels done (c ∷ cs) app =
    ap (taken app) (sym (append_assoc done (level_noted c ∷ []) (map level_noted cs))) ∙ journal-levels (done ++ level_noted c ∷ []) cs app
    ∙ ap (count_by (is_taken_of app)) (filter_map-append event_of done (level_noted c ∷ []))
    ∙ count_by-append (is_taken_of app) (journal done) (event.Level c.slot c.level ∷ []) ∙ omega arith

pushes-levels : (done : List Mark) (cs : List LevelChange) (app : ℕ) → pushes app (done ++ map level_noted cs) ≡ pushes app done
pushes-levels done [] app = ap (pushes app) (append-nil done)
pushes-levels done (c ∷ cs) app =
    ap (pushes app) (sym (append_assoc done (level_noted c ∷ []) (map level_noted cs))) ∙ pushes-levels (done ++ level_noted c ∷ []) cs app
    ∙ filter_map-append (pushed_of app) done (level_noted c ∷ []) ∙ append-nil (pushes app done)

pending-levels : (done : List Mark) (cs : List LevelChange) (app : ℕ) → pending app (done ++ map level_noted cs) ≡ pending app done
pending-levels done [] app = ap (pending app) (append-nil done)
pending-levels done (c ∷ cs) app =
    ap (pending app) (sym (append_assoc done (level_noted c ∷ []) (map level_noted cs))) ∙ pending-levels (done ++ level_noted c ∷ []) cs app
    ∙ ap (count_by (is_counted_of app)) (after_last-one (is_lost_of app) done (level_noted c))
    ∙ count_by-append (is_counted_of app) (after_last (is_lost_of app) done) (level_noted c ∷ []) ∙ omega arith

-- ---- an event with its Level events

abbrev ready : Setting → List Mark → List Mark
ready setting done = done ++ note_levels setting done

pub note_founded : (setting : Setting) (make : List Mark → Event) (done : List Mark) → EventRestsOn (ready setting done) (make (ready setting done)) → AreFounded setting done (note setting make done)
note_founded setting make done rests =
    both setting done (note_levels setting done) (in_sequence ((λ now. Noted (make now) ∷ []) ∷ note_levels_now setting ∷ []) (ready setting done)) (hand_out_founded setting done)
    (both setting (ready setting done) (Noted (make (ready setting done)) ∷ []) (in_sequence (note_levels_now setting ∷ []) (ready setting done ++ Noted (make (ready setting done)) ∷ []))
    (rests, tt) (turns setting (note_levels_now setting ∷ []) (hand_out_now_founded setting, tt) (ready setting done ++ Noted (make (ready setting done)) ∷ [])))

-- ---- the steps of a call

none_some : {A B : Type 0} (x : A) → ◌≡◌ {A = Option A} None (Some x) → B
none_some x e = absurd cc

-- the last step of a writer's call, where it let the call through, or the ring refused it
pub passed_is : (mark : Mark) (c : Call) → passed mark ≡ Some c → mark ≡ Passed c
passed_is (Passed d) c e = ap Passed (same_thing d c e)
passed_is _ c e = none_some c e

pub refused_is : (mark : Mark) (c : Call) → refused mark ≡ Some c → mark ≡ Refused c
refused_is (Refused d) c e = ap Refused (same_thing d c e)
refused_is _ c e = none_some c e

pub last_step : (f : Mark → Option Call) (o : Option Mark) (c : Call) → option_and_then f o ≡ Some c → (mark : Mark) × (o ≡ Some mark) × (f mark ≡ Some c)
last_step f None c e = none_some c e
last_step f (Some mark) c e = (mark, refl, e)

pub pushes_own : (writer : ℕ) (done : List Mark) (c : Call) → to_push writer done ≡ Some c → c.item.writer ≡ writer
pushes_own writer done c e =
    let last = last_step passed (last_that (is_step_of writer) done) c e in
    let is = find-passes (is_step_of writer) (reverse done) last.0 last.1 in
    eqb-true c.item.writer writer (subst (λ m. is_step_of writer m ≡ true) (passed_is last.0 c last.2) is)

pub counts_own : (writer : ℕ) (done : List Mark) (c : Call) → to_count writer done ≡ Some c → c.item.writer ≡ writer
counts_own writer done c e =
    let last = last_step refused (last_that (is_step_of writer) done) c e in
    let is = find-passes (is_step_of writer) (reverse done) last.0 last.1 in
    eqb-true c.item.writer writer (subst (λ m. is_step_of writer m ≡ true) (refused_is last.0 c last.2) is)

push_founded : (setting : Setting) (writer : ℕ) → IsFounded setting (push writer)
push_founded setting writer done =
    asked_for setting (to_push writer done) (λ c. just (cond (is_full c.item.app done) (Refused c) (Queued c))) done
    (λ c e. (by_test c (is_full c.item.app done) refl (subst (λ w. to_push w done ≡ Some c) (sym (pushes_own writer done c e)) e), tt)) where
      by_test : (c : Call) (b : Bool) → is_full c.item.app done ≡ b → to_push c.item.writer done ≡ Some c → RestsOn setting done (cond b (Refused c) (Queued c))
      by_test c true full is = (is, full)
      by_test c false full is = (is, full)

count_founded : (setting : Setting) (writer : ℕ) → IsFounded setting (count writer)
count_founded setting writer done =
    asked_for setting (to_count writer done) (λ c. just (Counted c)) done (λ c e. (subst (λ w. to_count w done ≡ Some c) (sym (counts_own writer done c e)) e, tt))

finish_founded : (setting : Setting) (writer : ℕ) → IsFounded setting (finish writer)
finish_founded setting writer = turns setting (push writer ∷ count writer ∷ []) (push_founded setting writer, (count_founded setting writer, tt))

loaded_founded : (setting : Setting) (call : CallLine) (done : List Mark) (c : Call) → to_push call.writer done ≡ None → to_count call.writer done ≡ None → loaded setting call done ≡ Some c → IsLoaded setting c done
loaded_founded setting call done c no_push no_count e = by_writer (app_of_writer call.writer done) e where
  slot_now : ℕ → Slot
  slot_now slot = slots_of setting (journal done) slot

  made : List ℕ → ℕ → ℕ → Call
  made apid app place = record {
    item = record {
      app = app;
      writer = call.writer;
      call = 1 + calls_of call.writer done;
      apid = apid;
      ctid = call.ctid;
      severity = call.severity;
      at = call.at;
      mcnt = passed_of call.writer done % 256;
      payload = call.payload;
    };
    slot = slot_of app place;
    version = (slots_of setting (journal done) (slot_of app place)).version;
    held = (slots_of setting (journal done) (slot_of app place)).level;
  }

  by_place : (apid : List ℕ) (app : ℕ) (o : Option ℕ) → (o >>= λ place. Some (made apid app place)) ≡ Some c → IsLoaded setting c done
  by_place apid app None e = none_some c e
  by_place apid app (Some place) e =
      subst (λ x. IsLoaded setting x done) (same_thing (made apid app place) c e) (record { none_to_push = no_push; none_to_count = no_count; number = refl; counter = refl; version = refl; held = refl })

  by_app : (apid : List ℕ) (o : Option ℕ) → (o >>= λ app. named_place call.writer apid call.ctid done >>= λ place. Some (made apid app place)) ≡ Some c → IsLoaded setting c done
  by_app apid None e = none_some c e
  by_app apid (Some app) e = by_place apid app (named_place call.writer apid call.ctid done) e

  by_writer : (o : Option (List ℕ)) → (o >>= λ apid. number_of apid done >>= λ app. named_place call.writer apid call.ctid done >>= λ place. Some (made apid app place)) ≡ Some c → IsLoaded setting c done
  by_writer None e = none_some c e
  by_writer (Some apid) e = by_app apid (number_of apid done) e

load_founded : (setting : Setting) (call : CallLine) (done : List Mark) → to_push call.writer done ≡ None → to_count call.writer done ≡ None → AreFounded setting done (load setting call done)
load_founded setting call done no_push no_count =
    asked_for setting (loaded setting call done) (λ c. just (cond (passes c.item.severity c.held) (Passed c) (Filtered c))) done
    (λ c e. (by_test c (passes c.item.severity c.held) refl (loaded_founded setting call done c no_push no_count e), tt)) where
      by_test : (c : Call) (b : Bool) → passes c.item.severity c.held ≡ b → IsLoaded setting c done → RestsOn setting done (cond b (Passed c) (Filtered c))
      by_test c true is at = (at, is)
      by_test c false is at = (at, is)

-- ---- a writer's call is finished before its next one

pub step_one : (writer : ℕ) (done : List Mark) (mark : Mark) → is_step_of writer mark ≡ true → last_that (is_step_of writer) (done ++ mark ∷ []) ≡ Some mark
step_one writer done mark is = last_that-one (is_step_of writer) done mark ∙ ap (λ b. cond b (Some mark) (last_that (is_step_of writer) done)) is

pub own_step : (writer : ℕ) (c : Call) → c.item.writer ≡ writer → eqb c.item.writer writer ≡ true
own_step writer c e = grind (arith, nat_tests, e)

pub pushed : (writer : ℕ) (done : List Mark) → to_push writer (done ++ push writer done) ≡ None
pushed writer done = by_call (to_push writer done) refl where
  by_full : (c : Call) (b : Bool) → to_push writer done ≡ Some c → to_push writer (done ++ cond b (Refused c) (Queued c) ∷ []) ≡ None
  by_full c true e = ap (option_and_then passed) (step_one writer done (Refused c) (own_step writer c (pushes_own writer done c e)))
  by_full c false e = ap (option_and_then passed) (step_one writer done (Queued c) (own_step writer c (pushes_own writer done c e)))

  by_call : (o : Option Call) → to_push writer done ≡ o → to_push writer (done ++ for_some o (λ c. just (cond (is_full c.item.app done) (Refused c) (Queued c))) done) ≡ None
  by_call None e = ap (to_push writer) (append-nil done) ∙ e
  by_call (Some c) e = by_full c (is_full c.item.app done) e

pub counted : (writer : ℕ) (done : List Mark) → to_push writer done ≡ None → (to_push writer (done ++ count writer done) ≡ None) × (to_count writer (done ++ count writer done) ≡ None)
counted writer done no_push = by_call (to_count writer done) refl where
  by_call : (o : Option Call) → to_count writer done ≡ o →
      (to_push writer (done ++ for_some o (λ c. just (Counted c)) done) ≡ None) × (to_count writer (done ++ for_some o (λ c. just (Counted c)) done) ≡ None)
  by_call None e = (ap (to_push writer) (append-nil done) ∙ no_push, ap (to_count writer) (append-nil done) ∙ e)
  by_call (Some c) e =
      let last = step_one writer done (Counted c) (own_step writer c (counts_own writer done c e)) in
      (ap (option_and_then passed) last, ap (option_and_then refused) last)

pub finished : (writer : ℕ) (done : List Mark) → (to_push writer (done ++ finish writer done) ≡ None) × (to_count writer (done ++ finish writer done) ≡ None)
finished writer done =
    let now = done ++ push writer done in
    let all : done ++ finish writer done ≡ now ++ count writer now =
    ap (λ ms. done ++ (push writer done ++ ms)) (append-nil (count writer now)) ∙ sym (append_assoc done (push writer done) (count writer now)) in
    let is = counted writer now (pushed writer done) in
    (ap (to_push writer) all ∙ is.0, ap (to_count writer) all ∙ is.1)

begin_call_founded : (setting : Setting) (call : CallLine) → IsFounded setting (begin_call setting call)
begin_call_founded setting call done =
    let now = done ++ finish call.writer done in
    let is = finished call.writer done in
    both setting done (finish call.writer done) (load setting call now ++ []) (finish_founded setting call.writer done)
    (both setting now (load setting call now) [] (load_founded setting call now is.0 is.1) tt)

whole_call_founded : (setting : Setting) (call : CallLine) → IsFounded setting (whole_call setting call)
whole_call_founded setting call = turns setting (begin_call setting call ∷ finish call.writer ∷ []) (begin_call_founded setting call, (finish_founded setting call.writer, tt))

-- ---- claims

claimed_founded : (asked : ClaimLine) (done : List Mark) (c : Claimed) → to_push asked.writer done ≡ None → to_count asked.writer done ≡ None → claim_made asked done ≡ Some c → IsClaimed c done
claimed_founded asked done c no_push no_count e = by_writer (app_of_writer asked.writer done) refl e where
  made : List ℕ → ℕ → Claimed
  made apid app = record { app = app; writer = asked.writer; place = next_place apid app done; ctid = asked.ctid; level = asked.level; text = asked.text }

  by_app : (apid : List ℕ) → app_of_writer asked.writer done ≡ Some apid → (o : Option ℕ) → number_of apid done ≡ o → (o >>= λ app. Some (made apid app)) ≡ Some c → IsClaimed c done
  by_app apid owner None is e = none_some c e
  by_app apid owner (Some app) is e =
      subst (λ (x : Claimed). IsClaimed x done) (same_thing (made apid app) c e)
      (record { none_to_push = no_push; none_to_count = no_count; apid = apid; owner = owner; number = is; place = refl })

  by_writer : (o : Option (List ℕ)) → app_of_writer asked.writer done ≡ o → (o >>= λ apid. number_of apid done >>= λ app. Some (made apid app)) ≡ Some c → IsClaimed c done
  by_writer None is e = none_some c e
  by_writer (Some apid) is e = by_app apid is (number_of apid done) refl e

claim_founded : (setting : Setting) (asked : ClaimLine) (done : List Mark) → to_push asked.writer done ≡ None → to_count asked.writer done ≡ None → AreFounded setting done (claim asked done)
claim_founded setting asked done no_push no_count =
    asked_for setting (claim_made asked done) (λ c. just (HasClaim c)) done (λ c e. (claimed_founded asked done c no_push no_count e, tt))

-- a claim, and then another act
claim_then_founded : (setting : Setting) (asked : ClaimLine) (acts : List Act) → AllByRecursion (IsFounded setting) acts → IsFounded setting (in_sequence (finish asked.writer ∷ claim asked ∷ acts))
claim_then_founded setting asked acts all done =
    let now = done ++ finish asked.writer done in
    let is = finished asked.writer done in
    both setting done (finish asked.writer done) (in_sequence (claim asked ∷ acts) now) (finish_founded setting asked.writer done)
    (both setting now (claim asked now) (in_sequence acts (now ++ claim asked now)) (claim_founded setting asked now is.0 is.1) (turns setting acts all (now ++ claim asked now)))

-- what is left of a list by a test passes it
pub kept-passes : {A : Type 0} (p : A → Bool) (xs : List A) (i : ℕ) (x : A) → slice_get (filter p xs) i ≡ Some x → p x ≡ true
kept-passes p [] i x e = none_some x e
kept-passes {A = A} p (y ∷ xs) i x e = by_test (p y) refl (λ k. kept-passes p xs k x) i e where
  by_test : (b : Bool) → p y ≡ b → ((k : ℕ) → slice_get (filter p xs) k ≡ Some x → p x ≡ true) → (k : ℕ) → slice_get (cond b (y ∷ filter p xs) (filter p xs)) k ≡ Some x → p x ≡ true
  by_test true is later zero e = subst (λ (z : A). p z ≡ true) (same_thing y x e) is
  by_test true is later (suc k) e = later k e
  by_test false is later k e = later k e

announces_own : (writer : ℕ) (done : List Mark) (c : Claimed) → to_announce writer done ≡ Some c → c.writer ≡ writer
announces_own writer done c e =
    eqb-true c.writer writer (kept-passes (λ (claim : Claimed). eqb claim.writer writer) (filter_map claim_of done) (length (announced_by writer done)) c e)

announce_founded : (setting : Setting) (writer : ℕ) → IsFounded setting (announce writer)
announce_founded setting writer done =
    asked_for setting (to_announce writer done) (λ c. just (cond (is_full c.app done) (HeldBack c) (Announced c))) done
    (λ c e. (by_test c (is_full c.app done) refl (subst (λ w. to_announce w done ≡ Some c) (sym (announces_own writer done c e)) e), tt)) where
      by_test : (c : Claimed) (b : Bool) → is_full c.app done ≡ b → to_announce c.writer done ≡ Some c → RestsOn setting done (cond b (HeldBack c) (Announced c))
      by_test c true full is = (is, full)
      by_test c false full is = (is, full)

unless_so : (setting : Setting) (b : Bool) (before marks : List Mark) → AreFounded setting before marks → AreFounded setting before (cond b [] marks)
unless_so setting true before marks are = tt
unless_so setting false before marks are = are

announce_upto_founded : (setting : Setting) (more writer : ℕ) → IsFounded setting (announce_upto more writer)
announce_upto_founded setting zero writer done = tt
announce_upto_founded setting (suc more) writer done =
    let step = announce writer done in
    both setting done step (cond (is_held_back step) [] (announce_upto more writer (done ++ step))) (announce_founded setting writer done)
    (unless_so setting (is_held_back step) (done ++ step) (announce_upto more writer (done ++ step)) (announce_upto_founded setting more writer (done ++ step)))

announce_all_founded : (setting : Setting) (writer : ℕ) → IsFounded setting (announce_all writer)
announce_all_founded setting writer done = announce_upto_founded setting (unannounced writer done) writer done

-- ---- what the daemon takes

-- a call or a claim of this application
abbrev pub IsOf : ℕ → Pushed → Type 0
IsOf app (OfCall c) = c.item.app ≡ app
IsOf app (OfClaim c) = c.app ≡ app

own_push : (app : ℕ) (mark : Mark) → IfSome (pushed_of app mark) (IsOf app)
own_push app (Queued c) = by_test (eqb c.item.app app) refl where
  by_test : (b : Bool) → eqb c.item.app app ≡ b → IfSome (cond b (Some (OfCall c)) None) (IsOf app)
  by_test true e = eqb-true c.item.app app e
  by_test false e = tt
own_push app (Announced c) = by_test (eqb c.app app) refl where
  by_test : (b : Bool) → eqb c.app app ≡ b → IfSome (cond b (Some (OfClaim c)) None) (IsOf app)
  by_test true e = eqb-true c.app app e
  by_test false e = tt
own_push app _ = tt

pub pushed-own : (app : ℕ) (done : List Mark) (i : ℕ) (what : Pushed) → slice_get (pushes app done) i ≡ Some what → IsOf app what
pushed-own app [] i what e = none_some what e
pushed-own app (mark ∷ done) i what e = by_push (pushed_of app mark) (own_push app mark) (λ k. pushed-own app done k what) i e where
  by_push : (o : Option Pushed) → IfSome o (IsOf app) → ((k : ℕ) → slice_get (pushes app done) k ≡ Some what → IsOf app what) → (k : ℕ) → slice_get (cons_option o (pushes app done)) k ≡ Some what → IsOf app what
  by_push None own later k e = later k e
  by_push (Some first) own later zero e = subst (IsOf app) (same_thing first what e) own
  by_push (Some first) own later (suc k) e = later k e

-- the event of what is first in a ring
event_founded : (app : ℕ) (now : List Mark) (what : Pushed) → slice_get (pushes app now) (taken app now) ≡ Some what → EventRestsOn now (event_taken app what now)
event_founded app now (OfCall c) e = record { call = c; first = e; writer_is = refl; number_is = refl }
event_founded app now (OfClaim c) e =
    subst (λ (a : ℕ). slice_get (pushes a now) (taken a now) ≡ Some (OfClaim c)) (sym (pushed-own app now (taken app now) (OfClaim c) e)) e

take_log_founded : (setting : Setting) (app : ℕ) → IsFounded setting (take_log setting app)
take_log_founded setting app done =
    asked_for setting (slice_get (pushes app done) (taken app done)) (λ what. note setting (event_taken app what)) done
    (λ what e. note_founded setting (event_taken app what) done (event_founded app (ready setting done) what
    (rw (pushes-levels done (changes setting (journal done)) app, journal-levels done (changes setting (journal done)) app) e)))

take_losses_founded : (setting : Setting) (app : ℕ) → IsFounded setting (take_losses setting app)
take_losses_founded setting app done =
    where_so setting (ltb 0 (pending app done)) (note setting (λ now. event.Lost app (pending app now) (moment now))) done (λ more.
    note_founded setting (λ now. event.Lost app (pending app now) (moment now)) done
    (refl, rw (pending-levels done (changes setting (journal done)) app) (above_zero (pending app done) more))) where
      above_zero : (n : ℕ) → ltb 0 n ≡ true → 0 < n
      above_zero n e = grind (arith, nat_tests)

-- ---- clients and channels

-- an event that rests on nothing
plain_event : (setting : Setting) (make : List Mark → Event) → ((now : List Mark) → EventRestsOn now (make now)) → IsFounded setting (note setting make)
plain_event setting make rests done = note_founded setting make done (rests (ready setting done))

close_founded : (setting : Setting) (client : ℕ) (why : Why) → IsFounded setting (close setting client why)
close_founded setting client why done =
    where_so setting (is_open client done) (note setting (λ _. event.Close client why)) done (λ _. plain_event setting (λ _. event.Close client why) (λ _. tt) done)

connect_founded : (setting : Setting) → IsFounded setting (connect setting)
connect_founded setting done =
    let came = count_by is_connect (journal done) in
    where_so setting (ltb came setting.clients && ltb came (count_by is_close (journal done) + 8)) (note setting (λ _. event.Connect (came + 1))) done
    (λ _. plain_event setting (λ _. event.Connect (came + 1)) (λ _. tt) done)

served_founded : (setting : Setting) (answers : List Done) (client : ℕ) (frame : List ℕ) (need : Need) → IsFounded setting (served answers client frame need)
served_founded setting answers client frame Nothing done = (tt, tt)
served_founded setting answers client frame Folder done = (tt, (tt, tt))
served_founded setting answers client frame (Queue app) done = by_test (ltb (injections app done) 16) where
  by_test : (b : Bool) → AreFounded setting done (cond b (Injected app ∷ Noted (event.Request client frame did.Yes) ∷ []) (Noted (event.Request client frame did.Failed) ∷ []))
  by_test true = (tt, (tt, tt))
  by_test false = (tt, tt)

request_now_founded : (setting : Setting) (answers : List Done) (client : ℕ) (frame : List ℕ) → IsFounded setting (request_now setting answers client frame)
request_now_founded setting answers client frame done =
    served_founded setting answers client frame (need_after setting (journal done) frame) done

ask_founded : (setting : Setting) (answers : List Done) (client : ℕ) (frame : List ℕ) → IsFounded setting (ask setting answers client frame)
ask_founded setting answers client frame done = by_test (ltb (count_by (is_request_of client) (journal done)) 1000) where
  by_test : (b : Bool) → AreFounded setting done (cond b (when (is_open client done) (in_sequence (note_levels setting ∷ request_now setting answers client frame ∷ note_levels_now setting ∷ [])) done) (close setting client why.TooMany done))
  by_test true =
      where_so setting (is_open client done) (in_sequence (note_levels setting ∷ request_now setting answers client frame ∷ note_levels_now setting ∷ [])) done
      (λ _. turns setting (note_levels setting ∷ request_now setting answers client frame ∷ note_levels_now setting ∷ [])
      (hand_out_founded setting, (request_now_founded setting answers client frame, (hand_out_now_founded setting, tt))) done)
  by_test false = close_founded setting client why.TooMany done

close_malformed_founded : (setting : Setting) (client : ℕ) → IsFounded setting (close_malformed setting client)
close_malformed_founded setting client done =
    where_so setting (is_some (rest_fault message_limit (rest_of message_limit (fed client done)))) (close setting client why.Malformed) done
    (λ _. close_founded setting client why.Malformed done)

-- acts and one more
and_one : (setting : Setting) (acts : List Act) (act : Act) → AllByRecursion (IsFounded setting) acts → IsFounded setting act → AllByRecursion (IsFounded setting) (acts ++ act ∷ [])
and_one setting [] act all one = (one, tt)
and_one setting (a ∷ acts) act all one = (all.0, and_one setting acts act all.1 one)

receive_founded : (setting : Setting) (answers : List Done) (client : ℕ) (bytes : List ℕ) → IsFounded setting (receive setting answers client bytes)
receive_founded setting answers client bytes done =
    let asks = map (ask setting answers client) (new_requests client bytes done) in
    where_so setting (is_open client done) (in_sequence (just (Fed client bytes) ∷ (asks ++ close_malformed setting client ∷ []))) done
    (λ _. turns setting (just (Fed client bytes) ∷ (asks ++ close_malformed setting client ∷ [])) (
      (λ _. (tt, tt)),
      and_one setting asks (close_malformed setting client)
          (each setting (ask setting answers client) (ask_founded setting answers client) (new_requests client bytes done)) (close_malformed_founded setting client),
    ) done)

tell_founded : (setting : Setting) (channel : ℕ) (msg : UserMsg) → IsFounded setting (tell setting channel msg)
tell_founded setting channel msg = plain_event setting (λ now. event.User channel msg (moment now)) (λ _. tt)

hear_founded : (setting : Setting) (channel : ℕ) (bytes : List ℕ) → IsFounded setting (hear setting channel bytes)
hear_founded setting channel bytes done =
    turns setting (just (Heard channel bytes) ∷ map (tell setting channel) (new_messages channel bytes done))
    ((λ _. (tt, tt)), each setting (tell setting channel) (tell_founded setting channel) (new_messages channel bytes done)) done

-- ---- lines

on_app_founded : (setting : Setting) (apid : List ℕ) (act : ℕ → Act) → ((app : ℕ) → IsFounded setting (act app)) → IsFounded setting (on_app apid act)
on_app_founded setting apid act all done = asked_for setting (number_of apid done) act done (λ app _. all app done)

first_level : (setting : Setting) (done : List Mark) (cs : List LevelChange) → AreFounded setting done (take 1 (map level_noted cs))
first_level setting done [] = tt
first_level setting done (c ∷ cs) = (tt, tt)

take_injection_founded : (setting : Setting) (app : ℕ) → IsFounded setting (take_injection app)
take_injection_founded setting app done = where_so setting (ltb 0 (injections app done)) (just (Handed app)) done (λ _. (tt, tt))

pub line_founded : (setting : Setting) (answers : List Done) (step : Step) → IsFounded setting (act_of setting answers step)
line_founded setting answers (line.App app) =
    turns setting (just (HasApp app) ∷ tell setting 0 (user.RegisterApp app.apid 0 app.text) ∷ []) ((λ _. (tt, tt)), (tell_founded setting 0 (user.RegisterApp app.apid 0 app.text), tt))
line_founded setting answers (line.Context context) =
    let msg = user.RegisterContext context.apid context.ctid 0 context.level (negsuc 0) 0 context.text in
    turns setting (just (HasContext context) ∷ tell setting 0 msg ∷ []) ((λ _. (tt, tt)), (tell_founded setting 0 msg, tt))
line_founded setting answers (line.Writer apid) = λ _. (tt, tt)
line_founded setting answers (line.Clock secs micros) = λ _. (tt, tt)
line_founded setting answers (line.Load call) = begin_call_founded setting call
line_founded setting answers (line.Push writer) = push_founded setting writer
line_founded setting answers (line.Count writer) = count_founded setting writer
line_founded setting answers (line.Call call) = whole_call_founded setting call
line_founded setting answers (line.Log call) =
    turns setting (whole_call setting call ∷ (λ done. for_some (app_of_writer call.writer done) (λ apid. on_app apid (take_log setting)) done) ∷ []) (
      whole_call_founded setting call,
      (
        (λ done. asked_for setting (app_of_writer call.writer done) (λ apid. on_app apid (take_log setting)) done
            (λ apid _. on_app_founded setting apid (take_log setting) (take_log_founded setting) done)),
        tt,
      ),
    )
line_founded setting answers (line.Claim asked) = claim_then_founded setting asked [] tt
line_founded setting answers (line.Announce writer) = turns setting (finish writer ∷ announce writer ∷ []) (finish_founded setting writer, (announce_founded setting writer, tt))
line_founded setting answers (line.Register asked) = claim_then_founded setting asked (announce_all asked.writer ∷ []) (announce_all_founded setting asked.writer, tt)
line_founded setting answers (line.Take apid) = on_app_founded setting apid (take_log setting) (take_log_founded setting)
line_founded setting answers (line.Losses apid) = on_app_founded setting apid (take_losses setting) (take_losses_founded setting)
line_founded setting answers (line.Levels levels.Later) = λ _. (tt, tt)
line_founded setting answers (line.Levels levels.Now) = λ _. (tt, tt)
line_founded setting answers line.Level = λ done. first_level setting done (changes setting (journal done))
line_founded setting answers line.Connect = connect_founded setting
line_founded setting answers (line.Bytes client bytes) = receive_founded setting answers client bytes
line_founded setting answers (line.Close client) = close_founded setting client why.Left
line_founded setting answers (line.User channel bytes) = hear_founded setting channel bytes
line_founded setting answers (line.Inject apid) = on_app_founded setting apid take_injection (take_injection_founded setting)

-- ---- the end

repeated : (setting : Setting) (n : ℕ) (act : Act) → IsFounded setting act → AllByRecursion (IsFounded setting) (replicate n act)
repeated setting zero act one = tt
repeated setting (suc n) act one = (one, repeated setting n act one)

drain_founded : (setting : Setting) (app : ℕ) → IsFounded setting (drain setting app)
drain_founded setting app =
    turns setting ((λ done. in_sequence (replicate (held_by app done) (take_log setting app)) done) ∷ take_losses setting app ∷ []) (
      (λ done. turns setting (replicate (held_by app done) (take_log setting app)) (repeated setting (held_by app done) (take_log setting app) (take_log_founded setting app)) done),
      (take_losses_founded setting app, tt),
    )

end_founded : (setting : Setting) → IsFounded setting (end_of setting)
end_founded setting =
    let stop = λ (client : ℕ). close setting client why.Stopped in
    turns setting (
    (λ done. in_sequence (map finish (writer_numbers done)) done)
    ∷ (λ done. in_sequence (map (drain setting) (range_with_len 0 (length (apps done)))) done)
    ∷ note_levels setting
    ∷ (λ done. in_sequence (map stop (range_with_len 1 (count_by is_connect (journal done)))) done)
    ∷ []) (
      (λ done. turns setting (map finish (writer_numbers done)) (each setting finish (finish_founded setting) (writer_numbers done)) done),
      (
        (λ done. turns setting (map (drain setting) (range_with_len 0 (length (apps done)))) (each setting (drain setting) (drain_founded setting) (range_with_len 0 (length (apps done)))) done),
        (
          hand_out_founded setting,
          (
            (λ done. turns setting (map stop (range_with_len 1 (count_by is_connect (journal done))))
                (each setting stop (λ client. close_founded setting client why.Stopped) (range_with_len 1 (count_by is_connect (journal done)))) done),
            tt,
          ),
        ),
      ),
    )

pub lines_founded : (setting : Setting) (answers : List Done) (steps : List Step) → AreFounded setting [] (after_lines setting answers steps)
lines_founded setting answers steps = turns setting (map (act_of setting answers) steps) (each setting (act_of setting answers) (line_founded setting answers) steps) []

pub run_founded : (setting : Setting) (answers : List Done) (steps : List Step) → AreFounded setting [] (run setting answers steps)
run_founded setting answers steps =
    turns setting (map (act_of setting answers) steps ++ end_of setting ∷ [])
    (and_one setting (map (act_of setting answers) steps) (end_of setting) (each setting (act_of setting answers) (line_founded setting answers) steps) (end_founded setting)) []
