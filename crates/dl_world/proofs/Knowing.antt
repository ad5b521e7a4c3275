-- What the lines of a script declare, in the marks that they come to.
use Rattle.std.proofs.Common.{◌≡◌, ℕ, zero, suc, ◌+◌, Bool, true, false, cond, List, [], ◌∷◌, ◌++◌, map, Option, Some, None, refl, sym, ap, subst, ◌∙◌, append_assoc}
use Rattle.std.specs.Prelude.{◌-◌, ◌==◌, take, slice_get, negsuc, nat_lt, ◌&&◌, count_by, is_some, if◌then◌else◌}
use Rattle.std.specs.List.{filter_map, AllByRecursion}
use Rattle.std.proofs.lemmas.List.{append-nil, map-append}
use Rattle.std.proofs.lemmas.List.Elements.{filter_map-append}
use Rattle.std.specs.Option.{option_map_or}
use Rattle.dl_bytes.specs.Claim.{Claimed}
use Rattle.dl_bytes.specs.Number.{◌>>=◌}
use Rattle.dl_bytes.specs.Limits.{message_limit}
use Rattle.dl_bytes.specs.Level.{passes}
use Rattle.dl_bytes.specs.declared.outcome.Done.{Done}
use Rattle.dl_bytes.specs.declared.outcome.Done.TheVariants as did
use Rattle.dl_message.specs.Cut.{rest_fault, rest_of}
use Rattle.dl_bytes.specs.declared.user.UserMsg.{UserMsg}
use Rattle.dl_bytes.specs.declared.user.UserMsg.TheVariants as user
use Rattle.dl_events.specs.declared.event.Event.{Event}
use Rattle.dl_events.specs.declared.event.Event.TheVariants as event
use Rattle.dl_events.specs.declared.event.Why.{Why}
use Rattle.dl_events.specs.declared.event.Why.TheVariants as why
use Rattle.dl_script_model.specs.declared.line.AppLine.{AppLine}
use Rattle.dl_script_model.specs.declared.line.CallLine.{CallLine}
use Rattle.dl_script_model.specs.declared.line.ClaimLine.{ClaimLine}
use Rattle.dl_script_model.specs.declared.line.ContextLine.{ContextLine}
use Rattle.dl_script_model.specs.declared.step.Step.{Step}
use Rattle.dl_script_model.specs.declared.step.Step.TheVariants as line
use Rattle.dl_script_model.specs.declared.step.LevelEvents.TheVariants as levels
use Rattle.dl_script_model.proofs.Marks.{in_sequence-one}
use Rattle.dl_script.specs.Earlier.{Declared, nothing, noted, numbered, refusal}
use Rattle.dl_script.specs.Spelled.{MayFollow, step_claim}
use Rattle.dl_script.specs.declared.claim.Claim.TheVariants as claims
use Rattle.dl_script.specs.declared.claim.ContextName.{ContextName}
use Rattle.dl_script.specs.declared.claim.PlaceName.{PlaceName}
use Rattle.dl_model.specs.declared.registry.LevelChange.{LevelChange}
use Rattle.dl_model.specs.Setting.{Setting}
use Rattle.dl_script_model.specs.Marks.{Call, Mark, HasApp, HasContext, HasWriter, Filtered, Passed, Queued, Refused, Counted, HasClaim, Announced, HeldBack, Noted, Fed, Heard, Injected, Handed, app_of, claim_of, context_of, writer_of, apps, writers, journal, number_of, app_of_writer, next_place, to_push, to_count, to_announce, unannounced, pushes as all_pushed, taken, is_full, pending, moment, is_later, fed, injections}
use Rattle.dl_model.specs.Journal.{is_connect, is_close, is_request_of, need_after}
use Rattle.dl_model.specs.Reply.{Need, Nothing, Folder, Queue}
use Rattle.dl_script_model.specs.Steps.{Act, in_sequence, just, for_some, when, changes, level_noted, note_levels, note_levels_now, note, loaded, load, push, count, finish, begin_call, whole_call, claim, announce, announce_upto, announce_all, is_held_back, event_taken, take_log, take_losses, is_open, close, connect, served, request_now, ask, new_requests, close_malformed, receive, new_messages, tell, hear, take_injection, on_app, act_of}
use Rattle.dl_world.specs.Known.{IsKnown, name_of}
use Rattle.dl_world.proofs.ClaimedPlaces.{Covers, covers_nothing, covers_same, covers_app, covers_name, covers_claim}

-- ---- marks that declare nothing

pub record ArePlain (more : List Mark) : Type 0 where
  pub no_apps : apps more ≡ []
  pub no_contexts : filter_map context_of more ≡ []
  pub no_writers : writers more ≡ []
  pub no_claims : filter_map claim_of more ≡ []

abbrev pub IsPlain : Act → Type 0
IsPlain act = (done : List Mark) → ArePlain (act done)

none : ArePlain []
none = record { no_apps = refl; no_contexts = refl; no_writers = refl; no_claims = refl }

both_plain : (xs ys : List Mark) → ArePlain xs → ArePlain ys → ArePlain (xs ++ ys)
both_plain xs ys first second = record {
  no_apps = filter_map-append app_of xs ys ∙ ap (λ (l : List AppLine). l ++ apps ys) first.no_apps ∙ second.no_apps;
  no_contexts = filter_map-append context_of xs ys ∙ ap (λ (l : List ContextLine). l ++ filter_map context_of ys) first.no_contexts ∙ second.no_contexts;
  no_writers = filter_map-append writer_of xs ys ∙ ap (λ (l : List (List ℕ)). l ++ writers ys) first.no_writers ∙ second.no_writers;
  no_claims = filter_map-append claim_of xs ys ∙ ap (λ (l : List Claimed). l ++ filter_map claim_of ys) first.no_claims ∙ second.no_claims;
}

turns : (acts : List Act) → AllByRecursion IsPlain acts → IsPlain (in_sequence acts)
turns [] plain done = none
turns (act ∷ acts) plain done = both_plain (act done) (in_sequence acts (done ++ act done)) (plain.0 done) (turns acts plain.1 (done ++ act done))

each : {A : Type 0} (act : A → Act) → ((x : A) → IsPlain (act x)) → (xs : List A) → AllByRecursion IsPlain (map act xs)
each act plain [] = tt
each act plain (x ∷ xs) = (plain x, each act plain xs)

and_more : (xs ys : List Act) → AllByRecursion IsPlain xs → AllByRecursion IsPlain ys → AllByRecursion IsPlain (xs ++ ys)
and_more [] ys first second = second
and_more (x ∷ xs) ys first second = (first.0, and_more xs ys first.1 second)

asked : {A : Type 0} (o : Option A) (act : A → Act) (done : List Mark) → ((x : A) → IsPlain (act x)) → ArePlain (for_some o act done)
asked None act done plain = none
asked (Some x) act done plain = plain x done

where_so : (b : Bool) (act : Act) (done : List Mark) → IsPlain act → ArePlain (when b act done)
where_so true act done plain = plain done
where_so false act done plain = none

either : (b : Bool) (xs ys : List Mark) → ArePlain xs → ArePlain ys → ArePlain (cond b xs ys)
either true xs ys first second = first
either false xs ys first second = second

-- ---- events

noted_levels : (changed : List LevelChange) → ArePlain (map level_noted changed)
noted_levels [] = none
noted_levels (x ∷ changed) = let rest = noted_levels changed in record { no_apps = rest.no_apps; no_contexts = rest.no_contexts; no_writers = rest.no_writers; no_claims = rest.no_claims }

first_levels : (n : ℕ) (changed : List LevelChange) → ArePlain (take n (map level_noted changed))
first_levels zero [] = none
first_levels zero (x ∷ changed) = none
first_levels (suc n) [] = none
first_levels (suc n) (x ∷ changed) = let rest = first_levels n changed in record { no_apps = rest.no_apps; no_contexts = rest.no_contexts; no_writers = rest.no_writers; no_claims = rest.no_claims }

levels_out : (setting : Setting) → IsPlain (note_levels setting)
levels_out setting done = noted_levels (changes setting (journal done))

levels_now : (setting : Setting) → IsPlain (note_levels_now setting)
levels_now setting done = either (is_later done) [] (note_levels setting done) none (levels_out setting done)

an_event : (e : Event) → ArePlain (Noted e ∷ [])
an_event e = record { no_apps = refl; no_contexts = refl; no_writers = refl; no_claims = refl }

notes : (setting : Setting) (make : List Mark → Event) → IsPlain (note setting make)
notes setting make = turns (note_levels setting ∷ (λ done. Noted (make done) ∷ []) ∷ note_levels_now setting ∷ []) (levels_out setting, (λ done. an_event (make done), (levels_now setting, tt)))

closes : (setting : Setting) (client : ℕ) (why : Why) → IsPlain (close setting client why)
closes setting client why done =
    let make : List Mark → Event = λ now. event.Close client why in
    where_so (is_open client done) (note setting make) done (notes setting make)

-- ---- log calls

loads : (setting : Setting) (call : CallLine) → IsPlain (load setting call)
loads setting call done = asked (loaded setting call done) (λ c. just (if passes c.item.severity c.held then Passed c else Filtered c)) done (λ c again. by_level c (passes c.item.severity c.held)) where
  by_level : (c : Call) (b : Bool) → ArePlain (cond b (Passed c) (Filtered c) ∷ [])
  by_level c true = record { no_apps = refl; no_contexts = refl; no_writers = refl; no_claims = refl }
  by_level c false = record { no_apps = refl; no_contexts = refl; no_writers = refl; no_claims = refl }

pushes : (writer : ℕ) → IsPlain (push writer)
pushes writer done = asked (to_push writer done) (λ c. just (if is_full c.item.app done then Refused c else Queued c)) done (λ c again. by_room c (is_full c.item.app done)) where
  by_room : (c : Call) (b : Bool) → ArePlain (cond b (Refused c) (Queued c) ∷ [])
  by_room c true = record { no_apps = refl; no_contexts = refl; no_writers = refl; no_claims = refl }
  by_room c false = record { no_apps = refl; no_contexts = refl; no_writers = refl; no_claims = refl }

counts : (writer : ℕ) → IsPlain (count writer)
counts writer done = asked (to_count writer done) (λ c. just (Counted c)) done (λ c again. record { no_apps = refl; no_contexts = refl; no_writers = refl; no_claims = refl })

pub finishes : (writer : ℕ) → IsPlain (finish writer)
finishes writer = turns (push writer ∷ count writer ∷ []) (pushes writer, (counts writer, tt))

begins : (setting : Setting) (call : CallLine) → IsPlain (begin_call setting call)
begins setting call = turns (finish call.writer ∷ load setting call ∷ []) (finishes call.writer, (loads setting call, tt))

calls : (setting : Setting) (call : CallLine) → IsPlain (whole_call setting call)
calls setting call = turns (begin_call setting call ∷ finish call.writer ∷ []) (begins setting call, (finishes call.writer, tt))

-- ---- claims

announces : (writer : ℕ) → IsPlain (announce writer)
announces writer done = asked (to_announce writer done) (λ c. just (if is_full c.app done then HeldBack c else Announced c)) done (λ c again. by_room c (is_full c.app done)) where
  by_room : (c : Claimed) (b : Bool) → ArePlain (cond b (HeldBack c) (Announced c) ∷ [])
  by_room c true = record { no_apps = refl; no_contexts = refl; no_writers = refl; no_claims = refl }
  by_room c false = record { no_apps = refl; no_contexts = refl; no_writers = refl; no_claims = refl }

announces_upto : (count writer : ℕ) → IsPlain (announce_upto count writer)
announces_upto zero writer done = none
announces_upto (suc count) writer done =
    let step = announce writer done in
    let later = announce_upto count writer (done ++ step) in
    both_plain step (cond (is_held_back step) [] later) (announces writer done) (either (is_held_back step) [] later none (announces_upto count writer (done ++ step)))

announces_all : (writer : ℕ) → IsPlain (announce_all writer)
announces_all writer done = announces_upto (unannounced writer done) writer done

-- ---- what the daemon takes of applications

takes : (setting : Setting) (app : ℕ) → IsPlain (take_log setting app)
takes setting app done =
    asked (slice_get (all_pushed app done) (taken app done)) (λ what. note setting (event_taken app what)) done (λ what. notes setting (event_taken app what))

loses : (setting : Setting) (app : ℕ) → IsPlain (take_losses setting app)
loses setting app done =
    let make : List Mark → Event = λ now. event.Lost app (pending app now) (moment now) in
    where_so (nat_lt 0 (pending app done)) (note setting make) done (notes setting make)

-- ---- clients and channels

serves : (answers : List Done) (client : ℕ) (frame : List ℕ) (need : Need) → IsPlain (served answers client frame need)
serves answers client frame Nothing done = record { no_apps = refl; no_contexts = refl; no_writers = refl; no_claims = refl }
serves answers client frame Folder done = record { no_apps = refl; no_contexts = refl; no_writers = refl; no_claims = refl }
serves answers client frame (Queue app) done =
    either (nat_lt (injections app done) 16) (Injected app ∷ Noted (event.Request client frame did.Yes) ∷ []) (Noted (event.Request client frame did.Failed) ∷ []) (record { no_apps = refl; no_contexts = refl; no_writers = refl; no_claims = refl }) (record { no_apps = refl; no_contexts = refl; no_writers = refl; no_claims = refl })

asks : (setting : Setting) (answers : List Done) (client : ℕ) (frame : List ℕ) → IsPlain (ask setting answers client frame)
asks setting answers client frame done =
    let served_now : Act = in_sequence (note_levels setting ∷ request_now setting answers client frame ∷ note_levels_now setting ∷ []) in
    let plain : IsPlain served_now = turns (note_levels setting ∷ request_now setting answers client frame ∷ note_levels_now setting ∷ [])
    (levels_out setting, ((λ again. serves answers client frame (need_after setting (journal again) frame) again), (levels_now setting, tt))) in
    either (nat_lt (count_by (is_request_of client) (journal done)) 1000) (when (is_open client done) served_now done) (close setting client why.TooMany done)
    (where_so (is_open client done) served_now done plain) (closes setting client why.TooMany done)

malformed : (setting : Setting) (client : ℕ) → IsPlain (close_malformed setting client)
malformed setting client done =
    where_so (is_some (rest_fault message_limit (rest_of message_limit (fed client done)))) (close setting client why.Malformed) done (closes setting client why.Malformed)

receives : (setting : Setting) (answers : List Done) (client : ℕ) (bytes : List ℕ) → IsPlain (receive setting answers client bytes)
receives setting answers client bytes done =
    let requests_now = map (ask setting answers client) (new_requests client bytes done) in
    let acts = just (Fed client bytes) ∷ (requests_now ++ close_malformed setting client ∷ []) in
    let plain : AllByRecursion IsPlain acts = (
      (λ again. record { no_apps = refl; no_contexts = refl; no_writers = refl; no_claims = refl }),
      and_more requests_now (close_malformed setting client ∷ []) (each (ask setting answers client) (asks setting answers client) (new_requests client bytes done)) (malformed setting client, tt),
    ) in
    where_so (is_open client done) (in_sequence acts) done (turns acts plain)

told_plain : (setting : Setting) (channel : ℕ) (msg : UserMsg) → IsPlain (tell setting channel msg)
told_plain setting channel msg = notes setting (λ now. event.User channel msg (moment now))

hears : (setting : Setting) (channel : ℕ) (bytes : List ℕ) → IsPlain (hear setting channel bytes)
hears setting channel bytes done =
    let acts = just (Heard channel bytes) ∷ map (tell setting channel) (new_messages channel bytes done) in
    let plain : AllByRecursion IsPlain acts = (
      (λ again. record { no_apps = refl; no_contexts = refl; no_writers = refl; no_claims = refl }),
      each (tell setting channel) (told_plain setting channel) (new_messages channel bytes done),
    ) in
    turns acts plain done

connects : (setting : Setting) → IsPlain (connect setting)
connects setting done =
    let here = count_by is_connect (journal done) in
    let make : List Mark → Event = λ now. event.Connect (here + 1) in
    where_so (nat_lt here setting.clients && nat_lt here (count_by is_close (journal done) + 8)) (note setting make) done (notes setting make)

injects : (app : ℕ) → IsPlain (take_injection app)
injects app done = where_so (nat_lt 0 (injections app done)) (just (Handed app)) done (λ again. record { no_apps = refl; no_contexts = refl; no_writers = refl; no_claims = refl })

-- a call, and the take of its application
log_plain : (setting : Setting) (call : CallLine) → IsPlain (act_of setting [] (line.Log call))
log_plain setting call =
    let taken_now : Act = λ done. for_some (app_of_writer call.writer done) (λ apid. on_app apid (take_log setting)) done in
    let plain : IsPlain taken_now = λ done. asked (app_of_writer call.writer done) (λ apid. on_app apid (take_log setting)) done
    (λ apid later. asked (number_of apid later) (take_log setting) later (takes setting)) in
    turns (whole_call setting call ∷ taken_now ∷ []) (calls setting call, (plain, tt))

-- ---- what is known

-- the claims of lines cover those of the marks
abbrev covers : {known : Declared} {done : List Mark} → IsKnown known done → Covers (apps done) (filter_map claim_of done) known.places
covers is = record { count = is.places_are; within = is.claims_within }

-- with marks that declare nothing
stays_known : (known now : Declared) (done more : List Mark) → now.apps ≡ known.apps → now.contexts ≡ known.contexts → now.writers ≡ known.writers → now.places ≡ known.places
    → ArePlain more → IsKnown known done → IsKnown now (done ++ more)
stays_known known now done more same_apps same_contexts same_writers same_places plain is =
    let covers_now = covers_same (apps done) (apps (done ++ more)) (filter_map claim_of done) (filter_map claim_of (done ++ more)) known.places now.places
    (filter_map-append app_of done more ∙ ap (λ (l : List AppLine). apps done ++ l) plain.no_apps ∙ append-nil (apps done))
    (filter_map-append claim_of done more ∙ ap (λ (l : List Claimed). filter_map claim_of done ++ l) plain.no_claims ∙ append-nil (filter_map claim_of done)) same_places (covers is) in
    record {
      apps_are = same_apps ∙ is.apps_are ∙ ap (map (λ (app : AppLine). app.apid)) (sym (filter_map-append app_of done more ∙ ap (λ (l : List AppLine). apps done ++ l) plain.no_apps ∙ append-nil (apps done)));
      contexts_are = same_contexts ∙ is.contexts_are ∙ ap (map name_of) (sym (filter_map-append context_of done more ∙ ap (λ (l : List ContextLine). filter_map context_of done ++ l) plain.no_contexts ∙ append-nil (filter_map context_of done)));
      writers_are = same_writers ∙ is.writers_are ∙ sym (filter_map-append writer_of done more ∙ ap (λ (l : List (List ℕ)). writers done ++ l) plain.no_writers ∙ append-nil (writers done));
      places_are = covers_now.count;
      claims_within = covers_now.within;
    }

-- with the mark of an application, of a context, of a writer
app_known : (known now : Declared) (done : List Mark) (app : AppLine) → now.apps ≡ known.apps ++ app.apid ∷ [] → now.contexts ≡ known.contexts → now.writers ≡ known.writers
    → now.places ≡ known.places → IsKnown known done → IsKnown now (done ++ HasApp app ∷ [])
app_known known now done app more same_contexts same_writers same_places is =
    let covers_now = covers_same (apps done ++ app ∷ []) (apps (done ++ HasApp app ∷ [])) (filter_map claim_of done) (filter_map claim_of (done ++ HasApp app ∷ [])) known.places now.places
    (filter_map-append app_of done (HasApp app ∷ []))
    (filter_map-append claim_of done (HasApp app ∷ []) ∙ append-nil (filter_map claim_of done)) same_places
    (covers_app (apps done) app (filter_map claim_of done) known.places (covers is)) in
    record {
      apps_are = more ∙ ap (λ (l : List (List ℕ)). l ++ app.apid ∷ []) is.apps_are ∙ sym (map-append (λ (a : AppLine). a.apid) (apps done) (app ∷ [])) ∙ ap (map (λ (a : AppLine). a.apid)) (sym (filter_map-append app_of done (HasApp app ∷ [])));
      contexts_are = same_contexts ∙ is.contexts_are ∙ ap (map name_of) (sym (filter_map-append context_of done (HasApp app ∷ []) ∙ append-nil (filter_map context_of done)));
      writers_are = same_writers ∙ is.writers_are ∙ sym (filter_map-append writer_of done (HasApp app ∷ []) ∙ append-nil (writers done));
      places_are = covers_now.count;
      claims_within = covers_now.within;
    }

context_known : (known now : Declared) (done : List Mark) (context : ContextLine) → now.apps ≡ known.apps → now.contexts ≡ known.contexts ++ name_of context ∷ [] → now.writers ≡ known.writers
    → now.places ≡ known.places → IsKnown known done → IsKnown now (done ++ HasContext context ∷ [])
context_known known now done context same_apps more same_writers same_places is =
    let covers_now = covers_same (apps done) (apps (done ++ HasContext context ∷ [])) (filter_map claim_of done) (filter_map claim_of (done ++ HasContext context ∷ [])) known.places now.places
    (filter_map-append app_of done (HasContext context ∷ []) ∙ append-nil (apps done))
    (filter_map-append claim_of done (HasContext context ∷ []) ∙ append-nil (filter_map claim_of done)) same_places
    (covers is) in
    record {
      apps_are = same_apps ∙ is.apps_are ∙ ap (map (λ (app : AppLine). app.apid)) (sym (filter_map-append app_of done (HasContext context ∷ []) ∙ append-nil (apps done)));
      contexts_are = more ∙ ap (λ (l : List ContextName). l ++ name_of context ∷ []) is.contexts_are ∙ sym (map-append name_of (filter_map context_of done) (context ∷ [])) ∙ ap (map name_of) (sym (filter_map-append context_of done (HasContext context ∷ [])));
      writers_are = same_writers ∙ is.writers_are ∙ sym (filter_map-append writer_of done (HasContext context ∷ []) ∙ append-nil (writers done));
      places_are = covers_now.count;
      claims_within = covers_now.within;
    }

writer_known : (known now : Declared) (done : List Mark) (apid : List ℕ) → now.apps ≡ known.apps → now.contexts ≡ known.contexts → now.writers ≡ known.writers ++ apid ∷ []
    → now.places ≡ known.places → IsKnown known done → IsKnown now (done ++ HasWriter apid ∷ [])
writer_known known now done apid same_apps same_contexts more same_places is =
    let covers_now = covers_same (apps done) (apps (done ++ HasWriter apid ∷ [])) (filter_map claim_of done) (filter_map claim_of (done ++ HasWriter apid ∷ [])) known.places now.places
    (filter_map-append app_of done (HasWriter apid ∷ []) ∙ append-nil (apps done))
    (filter_map-append claim_of done (HasWriter apid ∷ []) ∙ append-nil (filter_map claim_of done)) same_places
    (covers is) in
    record {
      apps_are = same_apps ∙ is.apps_are ∙ ap (map (λ (app : AppLine). app.apid)) (sym (filter_map-append app_of done (HasWriter apid ∷ []) ∙ append-nil (apps done)));
      contexts_are = same_contexts ∙ is.contexts_are ∙ ap (map name_of) (sym (filter_map-append context_of done (HasWriter apid ∷ []) ∙ append-nil (filter_map context_of done)));
      writers_are = more ∙ ap (λ (l : List (List ℕ)). l ++ apid ∷ []) is.writers_are ∙ sym (filter_map-append writer_of done (HasWriter apid ∷ []));
      places_are = covers_now.count;
      claims_within = covers_now.within;
    }

-- what lines declare with a place of a writer's application, where the writer is known
abbrev named : Declared → ClaimLine → Option (List ℕ) → Declared
named known wanted o = option_map_or (λ apid. record known { places = known.places ++ record { writer = wanted.writer; apid = apid; ctid = wanted.ctid } ∷ [] }) o known

-- the claim of a line, of the application that has this number
abbrev claim_on : ClaimLine → List ℕ → List Mark → ℕ → Claimed
claim_on wanted apid done app = record { app = app; writer = wanted.writer; place = next_place apid app done; ctid = wanted.ctid; level = wanted.level; text = wanted.text }

abbrev mark_on : ClaimLine → List ℕ → List Mark → Option ℕ → List Mark
mark_on wanted apid done o = for_some (o >>= λ app. Some (claim_on wanted apid done app)) (λ c. just (HasClaim c)) done

abbrev mark_by : ClaimLine → List Mark → Option (List ℕ) → List Mark
mark_by wanted done o = for_some (o >>= λ apid. number_of apid done >>= λ app. Some (claim_on wanted apid done app)) (λ c. just (HasClaim c)) done

-- the step of a claim, of which the line names a place of the writer's application
claim_known : (known : Declared) (done : List Mark) (wanted : ClaimLine) → IsKnown known done → IsKnown (noted known (claims.Place wanted.writer wanted.ctid)) (done ++ (claim wanted done ++ []))
claim_known known done wanted is = by_writer (app_of_writer wanted.writer done) refl where
  writer_is : numbered known.writers wanted.writer ≡ app_of_writer wanted.writer done
  writer_is = ap (λ (ws : List (List ℕ)). cond (wanted.writer == 0) None (slice_get ws (wanted.writer - 1))) is.writers_are

  by_number : (apid : List ℕ) (o : Option ℕ) → number_of apid done ≡ o
      → IsKnown (named known wanted (Some apid)) (done ++ (mark_on wanted apid done o ++ []))
  by_number apid None nobody =
      let name : PlaceName = record { writer = wanted.writer; apid = apid; ctid = wanted.ctid } in
      let covers_now = covers_name (apps done) (filter_map claim_of done) known.places name (covers is) in
      subst (λ (ms : List Mark). IsKnown (named known wanted (Some apid)) ms) (sym (append-nil done))
      (record { apps_are = is.apps_are; contexts_are = is.contexts_are; writers_are = is.writers_are; places_are = covers_now.count; claims_within = covers_now.within })
  by_number apid (Some app) at =
      let name : PlaceName = record { writer = wanted.writer; apid = apid; ctid = wanted.ctid } in
      let c = claim_on wanted apid done app in
      let mark = HasClaim c in
      let covers_now = covers_same (apps done) (apps (done ++ mark ∷ [])) (filter_map claim_of done ++ c ∷ []) (filter_map claim_of (done ++ mark ∷ [])) (known.places ++ name ∷ []) (known.places ++ name ∷ [])
      (filter_map-append app_of done (mark ∷ []) ∙ append-nil (apps done)) (filter_map-append claim_of done (mark ∷ [])) refl
      (covers_claim (apps done) (filter_map claim_of done) known.places c name at (covers is)) in
      record {
        apps_are = is.apps_are ∙ ap (map (λ (a : AppLine). a.apid)) (sym (filter_map-append app_of done (mark ∷ []) ∙ append-nil (apps done)));
        contexts_are = is.contexts_are ∙ ap (map name_of) (sym (filter_map-append context_of done (mark ∷ []) ∙ append-nil (filter_map context_of done)));
        writers_are = is.writers_are ∙ sym (filter_map-append writer_of done (mark ∷ []) ∙ append-nil (writers done));
        places_are = covers_now.count;
        claims_within = covers_now.within;
      }

  by_writer : (o : Option (List ℕ)) → app_of_writer wanted.writer done ≡ o → IsKnown (noted known (claims.Place wanted.writer wanted.ctid)) (done ++ (claim wanted done ++ []))
  by_writer None nobody =
      subst (λ (k : Declared). IsKnown k (done ++ (claim wanted done ++ []))) (sym (ap (named known wanted) (writer_is ∙ nobody)))
      (subst (λ (ms : List Mark). IsKnown known (done ++ (ms ++ []))) (sym (ap (mark_by wanted done) nobody)) (subst (λ (ms : List Mark). IsKnown known ms) (sym (append-nil done)) is))
  by_writer (Some apid) at =
      subst (λ (k : Declared). IsKnown k (done ++ (claim wanted done ++ []))) (sym (ap (named known wanted) (writer_is ∙ at)))
      (subst (λ (ms : List Mark). IsKnown (named known wanted (Some apid)) (done ++ (ms ++ []))) (sym (ap (mark_by wanted done) at)) (by_number apid (number_of apid done) refl))

-- behind what the open call still needs
claim_line_known : (known : Declared) (done : List Mark) (wanted : ClaimLine) → IsKnown known done
    → IsKnown (noted known (claims.Place wanted.writer wanted.ctid)) (done ++ in_sequence (finish wanted.writer ∷ claim wanted ∷ []) done)
claim_line_known known done wanted is =
    let first = finish wanted.writer done in
    let here = done ++ first in
    subst (λ (ms : List Mark). IsKnown (noted known (claims.Place wanted.writer wanted.ctid)) ms) (append_assoc done first (claim wanted here ++ []))
    (claim_known known here wanted (stays_known known known done first refl refl refl refl (finishes wanted.writer done) is))

-- a line more
pub one_known : (setting : Setting) (answers : List Done) (step : Step) (known : Declared) (done : List Mark) → IsKnown known done
    → IsKnown (noted known (step_claim step)) (done ++ act_of setting answers step done)
one_known setting answers (line.App app) known done is =
    let now = noted known (step_claim (line.App app)) in
    let said = done ++ HasApp app ∷ [] in
    let msg = user.RegisterApp app.apid 0 app.text in
    let told = tell setting 0 msg said in
    subst (λ (ms : List Mark). IsKnown now ms) (append_assoc done (HasApp app ∷ []) (told ++ []))
    (stays_known now now said (told ++ []) refl refl refl refl (both_plain told [] (told_plain setting 0 msg said) none) (app_known known now done app refl refl refl refl is))
one_known setting answers (line.Context context) known done is =
    let now = noted known (step_claim (line.Context context)) in
    let said = done ++ HasContext context ∷ [] in
    let msg = user.RegisterContext context.apid context.ctid 0 context.level (negsuc 0) 0 context.text in
    let told = tell setting 0 msg said in
    subst (λ (ms : List Mark). IsKnown now ms) (append_assoc done (HasContext context ∷ []) (told ++ []))
    (stays_known now now said (told ++ []) refl refl refl refl (both_plain told [] (told_plain setting 0 msg said) none) (context_known known now done context refl refl refl refl is))
one_known setting answers (line.Writer apid) known done is = writer_known known (noted known (step_claim (line.Writer apid))) done apid refl refl refl refl is
one_known setting answers (line.Clock secs micros) known done is =
    stays_known known known done _ refl refl refl refl (record { no_apps = refl; no_contexts = refl; no_writers = refl; no_claims = refl }) is
one_known setting answers (line.Load call) known done is = stays_known known (noted known (step_claim (line.Load call))) done _ refl refl refl refl (begins setting call done) is
one_known setting answers (line.Push writer) known done is = stays_known known known done _ refl refl refl refl (pushes writer done) is
one_known setting answers (line.Count writer) known done is = stays_known known known done _ refl refl refl refl (counts writer done) is
one_known setting answers (line.Call call) known done is = stays_known known (noted known (step_claim (line.Call call))) done _ refl refl refl refl (calls setting call done) is
one_known setting answers (line.Log call) known done is =
    stays_known known (noted known (step_claim (line.Log call))) done _ refl refl refl refl
    (log_plain setting call done) is
one_known setting answers (line.Claim asked) known done is = claim_line_known known done asked is
one_known setting answers (line.Announce writer) known done is =
    stays_known known known done _ refl refl refl refl (turns (finish writer ∷ announce writer ∷ []) (finishes writer, (announces writer, tt)) done) is
one_known setting answers (line.Register asked) known done is =
    let now = noted known (claims.Place asked.writer asked.ctid) in
    let before = in_sequence (finish asked.writer ∷ claim asked ∷ []) done in
    let behind = announce_all asked.writer (done ++ before) in
    subst (λ (ms : List Mark). IsKnown now ms)
    (append_assoc done before behind ∙ ap (λ (ms : List Mark). done ++ ms) (sym (in_sequence-one (finish asked.writer ∷ claim asked ∷ []) (announce_all asked.writer) done)))
    (stays_known now now (done ++ before) behind refl refl refl refl (announces_all asked.writer (done ++ before)) (claim_line_known known done asked is))
one_known setting answers (line.Take apid) known done is = stays_known known known done _ refl refl refl refl (asked (number_of apid done) (take_log setting) done (takes setting)) is
one_known setting answers (line.Losses apid) known done is = stays_known known known done _ refl refl refl refl (asked (number_of apid done) (take_losses setting) done (loses setting)) is
one_known setting answers (line.Levels levels.Later) known done is =
    stays_known known known done _ refl refl refl refl (record { no_apps = refl; no_contexts = refl; no_writers = refl; no_claims = refl }) is
one_known setting answers (line.Levels levels.Now) known done is =
    stays_known known known done _ refl refl refl refl (record { no_apps = refl; no_contexts = refl; no_writers = refl; no_claims = refl }) is
one_known setting answers line.Level known done is = stays_known known known done _ refl refl refl refl (first_levels 1 (changes setting (journal done))) is
one_known setting answers line.Connect known done is = stays_known known (noted known (step_claim line.Connect)) done _ refl refl refl refl (connects setting done) is
one_known setting answers (line.Bytes client bytes) known done is = stays_known known known done _ refl refl refl refl (receives setting answers client bytes done) is
one_known setting answers (line.Close client) known done is = stays_known known known done _ refl refl refl refl (closes setting client why.Left done) is
one_known setting answers (line.User channel bytes) known done is = stays_known known (noted known (step_claim (line.User channel bytes))) done _ refl refl refl refl (hears setting channel bytes done) is
one_known setting answers (line.Inject apid) known done is = stays_known known known done _ refl refl refl refl (asked (number_of apid done) take_injection done injects) is

-- ---- lines

-- what lines declare, after what was known before
abbrev pub known_after : Declared → List Step → Declared
known_after known [] = known
known_after known (step ∷ steps) = known_after (noted known (step_claim step)) steps

pub lines_known : (setting : Setting) (answers : List Done) (steps : List Step) (known : Declared) (done : List Mark) → IsKnown known done
    → IsKnown (known_after known steps) (done ++ in_sequence (map (act_of setting answers) steps) done)
lines_known setting answers [] known done is = subst (λ (ms : List Mark). IsKnown known ms) (sym (append-nil done)) is
lines_known setting answers (step ∷ steps) known done is =
    let more = act_of setting answers step done in
    let now = noted known (step_claim step) in
    subst (λ (ms : List Mark). IsKnown (known_after now steps) ms) (append_assoc done more (in_sequence (map (act_of setting answers) steps) (done ++ more)))
    (lines_known setting answers steps now (done ++ more) (one_known setting answers step known done is))

pub nothing_known : IsKnown nothing []
nothing_known = record { apps_are = refl; contexts_are = refl; writers_are = refl; places_are = covers_nothing.count; claims_within = covers_nothing.within }

-- the next line may follow
pub may_come : (steps : List Step) (known : Declared) (place : ℕ) (step : Step) → MayFollow step_claim known steps → slice_get steps place ≡ Some step
    → refusal (known_after known (take place steps)) (step_claim step) ≡ None
may_come [] known place step follows is = absurd cc
may_come (first ∷ steps) known zero step follows is = let same : first ≡ step = cc in subst (λ (s : Step). refusal known (step_claim s) ≡ None) same follows.0
may_come (first ∷ steps) known (suc place) step follows is = may_come steps (noted known (step_claim first)) place step follows.1 is
