-- The applications that the lines of a script declare are there from then on, and so is that of each claim.
use Rattle.std.proofs.Common.{◌≡◌, ℕ, zero, suc, ◌+◌, ◌<◌, ◌≤◌, Bool, true, false, eqb, List, [], ◌∷◌, ◌++◌, length, map, Option, Some, None, Result, Ok, Err, refl, sym, ap, subst, ◌∙◌, append_assoc, append-nil, length-append, arith, true≢false}
use Rattle.std.specs.Prelude.{◌≢◌, negsuc, nat_le, slice_get, IfOk, IsSome}
use Rattle.std.specs.List.{AllByRecursion, cons_option, filter_map, list_any}
use Rattle.std.specs.Option.{option_and_then, option_map_or}
use Rattle.std.specs.Result.{result_unwrap_or}
use Rattle.std.specs.Str.{bytes_eq}
use Rattle.std.proofs.lemmas.List.{length-map, map-append}
use Rattle.std.proofs.lemmas.List.Elements.{filter_map-append}
use Rattle.dl_bytes.specs.Claim.{Claimed}
use Rattle.dl_bytes.specs.Id.{zero_id}
use Rattle.dl_bytes.specs.declared.outcome.Done.{Done}
use Rattle.dl_bytes.specs.declared.user.UserMsg.{UserMsg}
use Rattle.dl_bytes.specs.declared.user.UserMsg.TheVariants as user
use Rattle.dl_events.specs.declared.event.Event.{Event}
use Rattle.dl_events.specs.declared.event.Event.TheVariants as event
use Rattle.dl_script_model.specs.declared.line.AppLine.{AppLine}
use Rattle.dl_script_model.specs.declared.line.ClaimLine.{ClaimLine}
use Rattle.dl_script_model.specs.declared.line.ContextLine.{ContextLine}
use Rattle.dl_script_model.specs.declared.step.Step.{Step}
use Rattle.dl_script_model.specs.declared.step.Step.TheVariants as line
use Rattle.dl_model.proofs.StandingApps.{AreFirst, app_comes, event_same, first_one, in_context, is_message, numbered_there, own, there, told_stay, who}
use Rattle.dl_script_model.proofs.Marks.{in_sequence-one}
use Rattle.dl_script_fields.specs.declared.kind.ScriptKind.{ScriptKind}
use Rattle.dl_script_fields.specs.declared.kind.ScriptKind.TheVariants.{Limit, Order, Twice}
use Rattle.dl_script.specs.Earlier.{Declared, first_of, noted, nothing, numbered, refusal}
use Rattle.dl_script.specs.declared.claim.Claim.TheVariants as claim_of_line
use Rattle.dl_script.specs.Playable.{IsInBounds, IsPlayable}
use Rattle.dl_script.specs.Spelled.{MayFollow, step_claim}
use Rattle.dl_model.specs.Journal.{registry_of, slots_of, step}
use Rattle.dl_script_model.specs.Marks.{Mark, HasApp, HasContext, HasClaim, Noted, Heard, Pushed, OfCall, OfClaim, announced_of, app_of as app_in, apps, claim_in, event_of, journal, moment, pushes, taken}
use Rattle.dl_model.specs.Registry.{Registry, app_of, apid_numbered, applied}
use Rattle.dl_script_model.specs.Runs.{AreFounded, RestsOn}
use Rattle.dl_model.specs.Setting.{Setting}
use Rattle.dl_script_model.specs.Steps.{Act, act_of, after_lines, announce_all, claim, claim_made, end_of, finish, in_sequence, just, new_messages, note, note_levels, note_levels_now, run, tell}
use Rattle.dl_model.proofs.OneMore.{registry-one}
use Rattle.dl_model.proofs.Presence.{bytes_differ}
use Rattle.dl_runs.proofs.Founded as founded
use Rattle.dl_laws.specs.PresentClaims.{AreThere, ClaimsArePresent, IsThere}
use Rattle.dl_laws.proofs.Alls.{all_filter}
use Rattle.dl_runs.proofs.ClaimPlaces.{IsOwnClaim, all_own_announced, announced_in_ring}
use Rattle.dl_runs.proofs.OwnApps.{number-within}
use Rattle.dl_runs.proofs.Relations.{AreAll, Keeps, asked_for, both, each, holds_on, turns, weaker}
use Rattle.dl_runs.proofs.WellFormed.{plain}
use Rattle.dl_script_runs.proofs.Walks.{Goes, Still, Without, announces_all, ends, finishes, goes_none, goes_then, hands_out, hands_out_now, no_message, notes, still_line}

-- ---- marks that declare no application, and tell no message

abbrev pub Quiet : List Mark → Mark → Type 0
Quiet done (HasApp app) = ⊥
Quiet done (Noted e) = is_message e ≡ false
Quiet done _ = Unit {0}

still_quiet : (done : List Mark) (mark : Mark) → Still done mark → Quiet done mark
still_quiet done (HasApp app) still = still
still_quiet done (Noted e) still = still
still_quiet done _ still = tt

pub quietly : (act : Act) → Keeps Still act → Keeps Quiet act
quietly act still done = weaker Still Quiet still_quiet done (act done) (still done)

module _ (setting : Setting) where
  pub hands_out_quiet : Keeps Quiet (note_levels setting)
  hands_out_quiet = quietly (note_levels setting) (hands_out setting is_message (no_message setting))

  pub hands_out_now_quiet : Keeps Quiet (note_levels_now setting)
  hands_out_now_quiet = quietly (note_levels_now setting) (hands_out_now setting is_message (no_message setting))

claims : (asked : ClaimLine) → Keeps Quiet (claim asked)
claims asked done = asked_for Quiet (claim_made asked done) (λ c. just (HasClaim c)) done (λ c e. (tt, tt))

-- lines that declare no application and tell no message
abbrev pub IsQuiet : Step → Type 0
IsQuiet (line.App app) = ⊥
IsQuiet (line.Context context) = ⊥
IsQuiet (line.User channel bytes) = ⊥
IsQuiet _ = Unit {0}

pub quiet_line : (setting : Setting) (answers : List Done) (step : Step) → IsQuiet step → Keeps Quiet (act_of setting answers step)
quiet_line setting answers (line.App app) none = absurd none
quiet_line setting answers (line.Context context) none = absurd none
quiet_line setting answers (line.User channel bytes) none = absurd none
quiet_line setting answers (line.Writer apid) none = λ _. (tt, tt)
quiet_line setting answers (line.Claim asked) none =
    turns Quiet (finish asked.writer ∷ claim asked ∷ []) (quietly (finish asked.writer) (finishes setting asked.writer), (claims asked, tt))
quiet_line setting answers (line.Register asked) none =
    turns Quiet (finish asked.writer ∷ claim asked ∷ announce_all asked.writer ∷ [])
    (quietly (finish asked.writer) (finishes setting asked.writer), (claims asked, (quietly (announce_all asked.writer) (announces_all setting asked.writer), tt)))
quiet_line setting answers step none = quietly (act_of setting answers step) (still_line setting answers step tt)

-- ---- which applications stand

-- The applications of these ids are the first that are there, numbered in their order. No other is, where no message came yet. The lines
-- declare the applications of these names.
pub record Stand (setting : Setting) (apids : List (List ℕ)) (told : Bool) (names : List (List ℕ)) (done : List Mark) : Type 0 where
  pub first : AreFirst 0 apids (there (registry_of setting (journal done)))
  pub alone : told ≡ false → length (registry_of setting (journal done)).apps ≡ length apids
  pub declared : map (λ (app : AppLine). app.apid) (apps done) ≡ names

pub registry_noted : (setting : Setting) (done : List Mark) (e : Event) → registry_of setting (journal (done ++ Noted e ∷ [])) ≡ step setting (slots_of setting (journal done)) (registry_of setting (journal done)) e
registry_noted setting done e = ap (registry_of setting) (filter_map-append event_of done (Noted e ∷ [])) ∙ registry-one setting (journal done) e

apps_same : (done : List Mark) (mark : Mark) → app_in mark ≡ None → apps (done ++ mark ∷ []) ≡ apps done
apps_same done mark none = filter_map-append app_in done (mark ∷ []) ∙ ap (λ (o : Option AppLine). apps done ++ cons_option o []) none ∙ append-nil (apps done)

who_same : (r new : Registry) → there new ≡ there r → length new.apps ≡ length r.apps
who_same r new same = sym (length-map new.apps who) ∙ ap length same ∙ length-map r.apps who

module _ (setting : Setting) (apids : List (List ℕ)) (told : Bool) (names : List (List ℕ)) where
  abbrev standing : List Mark → Type 0
  standing = Stand setting apids told names

  stand_on : (done : List Mark) (mark : Mark) → standing done → Quiet done mark → standing (done ++ mark ∷ [])
  stand_on done (HasApp app) stand quiet = absurd quiet
  stand_on done (Noted e) stand quiet =
      let old = registry_of setting (journal done) in
      let new = registry_of setting (journal (done ++ Noted e ∷ [])) in
      let same : there new ≡ there old = ap there (registry_noted setting done e) ∙ event_same setting (slots_of setting (journal done)) old e quiet in
      record {
        first = subst (AreFirst 0 apids) (sym same) stand.first;
        alone = λ none. who_same old new same ∙ stand.alone none;
        declared = ap (map (λ (app : AppLine). app.apid)) (apps_same done (Noted e) refl) ∙ stand.declared;
      }
  stand_on done mark stand quiet =
      let same : journal (done ++ mark ∷ []) ≡ journal done = plain done mark refl in
      record {
        first = subst (λ es. AreFirst 0 apids (there (registry_of setting es))) (sym same) stand.first;
        alone = λ none. ap (λ es. length (registry_of setting es).apps) same ∙ stand.alone none;
        declared = ap (map (λ (app : AppLine). app.apid)) (apps_same done mark refl) ∙ stand.declared;
      }

  -- an act that declares no application and tells no message
  pub stand_still : (act : Act) → Keeps Quiet act → (done : List Mark) → standing done → standing (done ++ act done)
  stand_still act quiet done stand = holds_on Quiet standing stand_on done (act done) stand (quiet done)

-- an event that is noted: what holds behind the Level events that wait holds behind it too, where these and those that follow change nothing
goes_noted : (setting : Setting) (P Q : List Mark → Type 0) (make : List Mark → Event) → Goes P (note_levels setting) P → Goes Q (note_levels_now setting) Q →
    ((done : List Mark) → P done → Q (done ++ Noted (make done) ∷ [])) → Goes P (note setting make) Q
goes_noted setting P Q make before after one =
    goes_then P P Q (note_levels setting) ((λ done. Noted (make done) ∷ []) ∷ note_levels_now setting ∷ []) before
    (goes_then P Q Q (λ done. Noted (make done) ∷ []) (note_levels_now setting ∷ []) one (goes_then Q Q Q (note_levels_now setting) [] after (goes_none Q)))

-- ---- messages

pub ok_or : {A E : Type 0} (P : A → Type 0) (result : Result A E) (old : A) → P old → IfOk result P → P (result_unwrap_or result old)
ok_or P (Ok new) old was is = is
ok_or P (Err e) old was is = was

module _ (setting : Setting) where
  -- one of another channel
  pub tell_other : (apids names : List (List ℕ)) (channel : ℕ) (msg : UserMsg) → 1 ≤ channel → Goes (Stand setting apids true names) (tell setting channel msg) (Stand setting apids true names)
  tell_other apids names channel msg from =
      let P = Stand setting apids true names in
      goes_noted setting P P (λ now. event.User channel msg (moment now)) (stand_still setting apids true names (note_levels setting) (hands_out_quiet setting))
      (stand_still setting apids true names (note_levels_now setting) (hands_out_now_quiet setting))
      (λ done stand.
      let r = registry_of setting (journal done) in
      let slots = slots_of setting (journal done) in
      record {
        first = subst (λ r. AreFirst 0 apids (there r)) (sym (registry_noted setting done (event.User channel msg (moment done))))
            (ok_or (λ new. AreFirst 0 apids (there new)) (applied slots r channel msg) r stand.first (told_stay r apids stand.first slots channel msg (λ none. omega (arith, from, none))));
        alone = λ none. absurd (true≢false none);
        declared = ap (map (λ (app : AppLine). app.apid)) (apps_same done (Noted (event.User channel msg (moment done))) refl) ∙ stand.declared;
      })

  tell_others : (apids names : List (List ℕ)) (channel : ℕ) (msgs : List UserMsg) → 1 ≤ channel → Goes (Stand setting apids true names) (in_sequence (map (tell setting channel) msgs)) (Stand setting apids true names)
  tell_others apids names channel [] from = goes_none (Stand setting apids true names)
  tell_others apids names channel (msg ∷ msgs) from =
      let P = Stand setting apids true names in
      goes_then P P P (tell setting channel msg) (map (tell setting channel) msgs) (tell_other apids names channel msg from) (tell_others apids names channel msgs from)

  -- that of a context of this process
  tell_context : (apids : List (List ℕ)) (told : Bool) (names : List (List ℕ)) (context : ContextLine) →
      Goes (Stand setting apids told names) (tell setting 0 (user.RegisterContext context.apid context.ctid 0 context.level (negsuc 0) 0 context.text)) (Stand setting apids told names)
  tell_context apids told names context =
      let P = Stand setting apids told names in
      let msg = user.RegisterContext context.apid context.ctid 0 context.level (negsuc 0) 0 context.text in
      goes_noted setting P P (λ now. event.User 0 msg (moment now)) (stand_still setting apids told names (note_levels setting) (hands_out_quiet setting))
      (stand_still setting apids told names (note_levels_now setting) (hands_out_now_quiet setting))
      (λ done stand.
      let r = registry_of setting (journal done) in
      let slots = slots_of setting (journal done) in
      let new = registry_of setting (journal (done ++ Noted (event.User 0 msg (moment done)) ∷ [])) in
      let same : there new ≡ there r =
      ap there (registry_noted setting done (event.User 0 msg (moment done)))
      ∙ ok_or (λ now. there now ≡ there r) (applied slots r 0 msg) r refl (in_context r slots 0 context.apid context.ctid 0 context.level context.text) in
      record {
        first = subst (AreFirst 0 apids) (sym same) stand.first;
        alone = λ none. who_same r new same ∙ stand.alone none;
        declared = ap (map (λ (app : AppLine). app.apid)) (apps_same done (Noted (event.User 0 msg (moment done))) refl) ∙ stand.declared;
      })

  -- that of an application of this process, while none of another channel came
  tell_app : (apids names : List (List ℕ)) (app : AppLine) → bytes_eq app.apid zero_id ≡ false → list_any (λ id. bytes_eq id app.apid) apids ≡ false → nat_le 16 (length apids) ≡ false →
      Goes (Stand setting apids false names) (tell setting 0 (user.RegisterApp app.apid 0 app.text)) (Stand setting (apids ++ app.apid ∷ []) false names)
  tell_app apids names app named none few =
      let P = Stand setting apids false names in
      let Q = Stand setting (apids ++ app.apid ∷ []) false names in
      let msg = user.RegisterApp app.apid 0 app.text in
      goes_noted setting P Q (λ now. event.User 0 msg (moment now)) (stand_still setting apids false names (note_levels setting) (hands_out_quiet setting))
      (stand_still setting (apids ++ app.apid ∷ []) false names (note_levels_now setting) (hands_out_now_quiet setting))
      (λ done stand.
      let r = registry_of setting (journal done) in
      let slots = slots_of setting (journal done) in
      let new = registry_of setting (journal (done ++ Noted (event.User 0 msg (moment done)) ∷ [])) in
      let alone : length r.apps ≡ length apids = stand.alone refl in
      let is : there new ≡ there r ++ own app.apid (length apids) ∷ [] =
      ap there (registry_noted setting done (event.User 0 msg (moment done))) ∙ app_comes r apids slots app.apid 0 app.text stand.first alone named none few in
      let len : length (there r) ≡ length apids = length-map r.apps who ∙ alone in
      let next : length apids ≡ 0 + length apids = omega arith in
      record {
        first = subst (AreFirst 0 (apids ++ app.apid ∷ [])) (sym (is ∙ ap (λ (n : ℕ). there r ++ own app.apid n ∷ []) next)) (first_one 0 apids app.apid (there r) stand.first len);
        alone = λ none. omega (arith, length-map new.apps who, ap length is, length-append (there r) (own app.apid (length apids) ∷ []), length-append apids (app.apid ∷ []), len);
        declared = ap (map (λ (line : AppLine). line.apid)) (apps_same done (Noted (event.User 0 msg (moment done))) refl) ∙ stand.declared;
      })

-- ---- the claims that are noted

-- each application that was declared is there under its number
abbrev ArePresent : Setting → List Mark → Type 0
ArePresent setting done =
    let r = registry_of setting (journal done) in
    (n : ℕ) → n < length (apps done) → IsSome (option_and_then (app_of r 0) (apid_numbered r n))

-- so it is where a claim is noted
abbrev Present : Setting → List Mark → Mark → Type 0
Present setting done (Noted (event.Claim claim moment)) = ArePresent setting done
Present setting done _ = Unit {0}

module _ (setting : Setting) (apids : List (List ℕ)) (told : Bool) where
  are_present : (done : List Mark) → Stand setting apids told apids done → ArePresent setting done
  are_present done stand n below =
      numbered_there (registry_of setting (journal done)) apids stand.first n (omega (arith, below, length-map (apps done) (λ (app : AppLine). app.apid), ap length stand.declared))

  present_event : (done : List Mark) (e : Event) → Stand setting apids told apids done → Present setting done (Noted e)
  present_event done (event.Claim claim moment) stand = are_present done stand
  present_event done _ stand = tt

  present_mark : (done : List Mark) (mark : Mark) → Stand setting apids told apids done → Present setting done mark
  present_mark done (Noted e) stand = present_event done e stand
  present_mark done _ stand = tt

  -- an act that declares no application and tells no message
  present_still : (done marks : List Mark) → Stand setting apids told apids done → AreAll Quiet done marks → AreAll (Present setting) done marks
  present_still done [] stand quiet = tt
  present_still done (mark ∷ marks) stand quiet =
      (present_mark done mark stand, present_still (done ++ mark ∷ []) marks (stand_on setting apids told apids done mark stand quiet.0) quiet.1)

-- an act that notes no claim
abbrev is_claim : Event → Bool
is_claim (event.Claim claim moment) = true
is_claim _ = false

no_claim_event : (setting : Setting) (done : List Mark) (e : Event) → is_claim e ≡ false → Present setting done (Noted e)
no_claim_event setting done (event.Claim claim moment) none = absurd (true≢false none)
no_claim_event setting done _ none = tt

no_claim : (setting : Setting) (done : List Mark) (mark : Mark) → Without is_claim done mark → Present setting done mark
no_claim setting done (Noted e) none = no_claim_event setting done e none
no_claim setting done _ none = tt

tells : (setting : Setting) (channel : ℕ) (msg : UserMsg) → Keeps (Present setting) (tell setting channel msg)
tells setting channel msg done =
    weaker (Without is_claim) (Present setting) (no_claim setting) done (tell setting channel msg done) (notes setting is_claim (λ _ _. refl) (λ now. event.User channel msg (moment now)) (λ _. refl) done)

-- ---- lines

-- where no first cause stands, the others are left
pub not_first : (b : Bool) (kind : ScriptKind) (causes : List (Bool × ScriptKind)) → first_of ((b, kind) ∷ causes) ≡ None → (b ≡ false) × (first_of causes ≡ None)
not_first true kind causes none = absurd cc
not_first false kind causes none = (refl, none)

-- a place that is claimed leaves the applications, and whether user messages came
pub place_apps : (known : Declared) (writer : ℕ) (ctid : List ℕ) → (noted known (claim_of_line.Place writer ctid)).apps ≡ known.apps
place_apps known writer ctid = by (numbered known.writers writer) where
  by : (o : Option (List ℕ)) → (option_map_or (λ apid. record known { places = known.places ++ record { writer = writer; apid = apid; ctid = ctid } ∷ [] }) o known).apps ≡ known.apps
  by None = refl
  by (Some apid) = refl

pub place_user : (known : Declared) (writer : ℕ) (ctid : List ℕ) → (noted known (claim_of_line.Place writer ctid)).user ≡ known.user
place_user known writer ctid = by (numbered known.writers writer) where
  by : (o : Option (List ℕ)) → (option_map_or (λ apid. record known { places = known.places ++ record { writer = writer; apid = apid; ctid = ctid } ∷ [] }) o known).user ≡ known.user
  by None = refl
  by (Some apid) = refl

abbrev pub Known : Setting → Declared → List Mark → Type 0
Known setting known = Stand setting known.apps known.user known.apps

-- what a line leaves, behind these marks
pub record LineGoes (setting : Setting) (answers : List Done) (known : Declared) (step : Step) (done : List Mark) : Type 0 where
  pub present : AreAll (Present setting) done (act_of setting answers step done)
  pub after : Known setting (noted known (step_claim step)) (done ++ act_of setting answers step done)

module _ (setting : Setting) (answers : List Done) (known : Declared) (done : List Mark) (stand : Known setting known done) where
  -- a line that declares no application and tells no message
  goes_quiet : (step : Step) → Keeps Quiet (act_of setting answers step) → (noted known (step_claim step)).apps ≡ known.apps → (noted known (step_claim step)).user ≡ known.user → LineGoes setting answers known step done
  goes_quiet step quiet apps user =
      let later = stand_still setting known.apps known.user known.apps (act_of setting answers step) quiet done stand in
      record {
        present = present_still setting known.apps known.user done (act_of setting answers step done) stand (quiet done);
        after = subst (λ (ids : List (List ℕ)). Stand setting ids (noted known (step_claim step)).user ids (done ++ act_of setting answers step done)) (sym apps)
            (subst (λ (b : Bool). Stand setting known.apps b known.apps (done ++ act_of setting answers step done)) (sym user) later);
      }

  goes_still : (step : Step) → Keeps Still (act_of setting answers step) → (noted known (step_claim step)).apps ≡ known.apps → (noted known (step_claim step)).user ≡ known.user → LineGoes setting answers known step done
  goes_still step still = goes_quiet step (quietly (act_of setting answers step) still)

  goes_app : (app : AppLine) → refusal known (claim_of_line.App app.apid) ≡ None → app.apid ≢ zero_id → LineGoes setting answers known (line.App app) done
  goes_app app admitted named =
      let limit : List (Bool × ScriptKind) = (nat_le 16 (length known.apps), Limit) ∷ [] in
      let twice : List (Bool × ScriptKind) = (list_any (λ id. bytes_eq id app.apid) known.apps, Twice) ∷ limit in
      let first = not_first known.user Order twice admitted in
      let second = not_first (list_any (λ id. bytes_eq id app.apid) known.apps) Twice limit first.1 in
      let third = not_first (nat_le 16 (length known.apps)) Limit [] second.1 in
      let names = known.apps ++ app.apid ∷ [] in
      let tell_it = tell setting 0 (user.RegisterApp app.apid 0 app.text) in
      let declare : Stand setting known.apps false names (done ++ HasApp app ∷ []) = record {
        first = subst (λ es. AreFirst 0 known.apps (there (registry_of setting es))) (sym (plain done (HasApp app) refl)) stand.first;
        alone = λ none. ap (λ es. length (registry_of setting es).apps) (plain done (HasApp app) refl) ∙ stand.alone first.0;
        declared = ap (map (λ (a : AppLine). a.apid)) (filter_map-append app_in done (HasApp app ∷ [])) ∙ map-append (λ (a : AppLine). a.apid) (apps done) (app ∷ []) ∙ ap (λ (ids : List (List ℕ)). ids ++ app.apid ∷ []) stand.declared;
      } in
      let later : Stand setting names false names (done ++ act_of setting answers (line.App app) done) =
      subst (Stand setting names false names) (append_assoc done (HasApp app ∷ []) (in_sequence (tell_it ∷ []) (done ++ HasApp app ∷ [])))
      (goes_then (Stand setting known.apps false names) (Stand setting names false names) (Stand setting names false names) tell_it [] (tell_app setting known.apps names app (bytes_differ app.apid zero_id named) second.0 third.0) (goes_none (Stand setting names false names))
      (done ++ HasApp app ∷ []) declare) in
      record {
        present = turns (Present setting) (just (HasApp app) ∷ tell_it ∷ []) ((λ _. (tt, tt)), (tells setting 0 (user.RegisterApp app.apid 0 app.text), tt)) done;
        after = subst (λ (b : Bool). Stand setting names b names (done ++ act_of setting answers (line.App app) done)) (sym first.0) later;
      }

  goes_context : (context : ContextLine) → LineGoes setting answers known (line.Context context) done
  goes_context context =
      let P = Known setting known in
      let msg = user.RegisterContext context.apid context.ctid 0 context.level (negsuc 0) 0 context.text in
      record {
        present = turns (Present setting) (just (HasContext context) ∷ tell setting 0 msg ∷ []) ((λ _. (tt, tt)), (tells setting 0 msg, tt)) done;
        after = goes_then P P P (just (HasContext context)) (tell setting 0 msg ∷ []) (stand_still setting known.apps known.user known.apps (just (HasContext context)) (λ _. (tt, tt)))
            (goes_then P P P (tell setting 0 msg) [] (tell_context setting known.apps known.user known.apps context) (goes_none P)) done stand;
      }

  goes_user : (channel : ℕ) (bytes : List ℕ) → 1 ≤ channel → LineGoes setting answers known (line.User channel bytes) done
  goes_user channel bytes from =
      let P = Stand setting known.apps true known.apps in
      let msgs = new_messages channel bytes done in
      let told : P done = record { first = stand.first; alone = λ none. absurd (true≢false none); declared = stand.declared } in
      record {
        present = turns (Present setting) (just (Heard channel bytes) ∷ map (tell setting channel) msgs) ((λ _. (tt, tt)), each (Present setting) (tell setting channel) (tells setting channel) msgs) done;
        after = goes_then P P P (just (Heard channel bytes)) (map (tell setting channel) msgs) (stand_still setting known.apps true known.apps (just (Heard channel bytes)) (λ _. (tt, tt)))
            (tell_others setting known.apps known.apps channel msgs from) done told;
      }

  pub line_goes : (step : Step) → refusal known (step_claim step) ≡ None → IsInBounds step → LineGoes setting answers known step done
  line_goes (line.App app) admitted bounds = goes_app app admitted bounds.0
  line_goes (line.Context context) admitted bounds = goes_context context
  line_goes (line.Claim asked) admitted bounds = goes_quiet (line.Claim asked) (quiet_line setting answers (line.Claim asked) tt) (place_apps known asked.writer asked.ctid) (place_user known asked.writer asked.ctid)
  line_goes (line.Register asked) admitted bounds = goes_quiet (line.Register asked) (quiet_line setting answers (line.Register asked) tt) (place_apps known asked.writer asked.ctid) (place_user known asked.writer asked.ctid)
  line_goes (line.User channel bytes) admitted bounds = goes_user channel bytes bounds
  line_goes step admitted bounds = goes_quiet step (quiet_line setting answers step tt) refl refl

-- ---- runs

-- what lines leave, behind these marks
record LinesGo (setting : Setting) (done marks : List Mark) : Type 0 where
  present : AreAll (Present setting) done marks
  known : Declared
  after : Known setting known (done ++ marks)

lines_go : (setting : Setting) (answers : List Done) (steps : List Step) (known : Declared) (done : List Mark) → MayFollow step_claim known steps → AllByRecursion IsInBounds steps → Known setting known done →
    LinesGo setting done (in_sequence (map (act_of setting answers) steps) done)
lines_go setting answers [] known done follows bounds stand = record { present = tt; known = known; after = subst (Known setting known) (sym (append-nil done)) stand }
lines_go setting answers (step ∷ steps) known done follows bounds stand =
    let more = act_of setting answers step done in
    let one = line_goes setting answers known done stand step follows.0 bounds.0 in
    let rest = lines_go setting answers steps (noted known (step_claim step)) (done ++ more) follows.1 bounds.1 one.after in
    record {
      present = both (Present setting) done more (in_sequence (map (act_of setting answers) steps) (done ++ more)) one.present rest.present;
      known = rest.known;
      after = subst (Known setting rest.known) (append_assoc done more (in_sequence (map (act_of setting answers) steps) (done ++ more))) rest.after;
    }

pub nobody_yet : (setting : Setting) → Known setting nothing []
nobody_yet setting = record { first = tt; alone = λ none. refl; declared = refl }

-- after a run the applications stand that its lines declare
pub run_known : (setting : Setting) (answers : List Done) (steps : List Step) → IsPlayable steps → (last : Declared) × Known setting last (run setting answers steps)
run_known setting answers steps playable =
    let acts = map (act_of setting answers) steps in
    let go = lines_go setting answers steps nothing [] playable.follows playable.bounds (nobody_yet setting) in
    let last = go.known in (
      last,
      subst (Known setting last) (sym (in_sequence-one acts (end_of setting) []))
          (stand_still setting last.apps last.user last.apps (end_of setting) (quietly (end_of setting) (ends setting)) (in_sequence acts []) go.after),
    )

-- ---- each claim is of an application that was declared

in_ring : (P : Claimed → Type 0) (all : List Pushed) (n : ℕ) (c : Claimed) → AllByRecursion P (filter_map claim_in all) → slice_get all n ≡ Some (OfClaim c) → P c
in_ring P [] n c holds is = absurd cc
in_ring P (OfCall call ∷ all) zero c holds is = absurd cc
in_ring P (OfClaim mine ∷ all) zero c holds is =
    let same : mine ≡ c = cc is in
    subst P same holds.0
in_ring P (OfCall call ∷ all) (suc n) c holds is = in_ring P all n c holds is
in_ring P (OfClaim mine ∷ all) (suc n) c holds is = in_ring P all n c holds.1 is

claim_numbered : (setting : Setting) (done : List Mark) (c : Claimed) → AreFounded setting [] done → slice_get (pushes c.app done) (taken c.app done) ≡ Some (OfClaim c) → c.app < length (apps done)
claim_numbered setting done c founded is =
    let all = all_filter (IsOwnClaim done) (λ (mine : Claimed). eqb mine.app c.app) (filter_map announced_of done) (all_own_announced setting done founded) in
    let here : IsOwnClaim done c = in_ring (IsOwnClaim done) (pushes c.app done) (taken c.app done) c (subst (AllByRecursion (IsOwnClaim done)) (announced_in_ring c.app done) all) is in
    number-within done here.apid c.app here.number

event_there : (setting : Setting) (done : List Mark) (e : Event) → AreFounded setting [] done → RestsOn setting done (Noted e) → Present setting done (Noted e) → IsThere setting (journal done) e
event_there setting done (event.Claim claim moment) founded rests present = present claim.app (claim_numbered setting done claim founded rests)
event_there setting done _ founded rests present = tt

claims_there : (setting : Setting) (before marks : List Mark) → AreFounded setting [] before → AreFounded setting before marks → AreAll (Present setting) before marks → AreThere setting (journal before) (journal marks)
claims_there setting before [] was rests present = tt
claims_there setting before (Noted e ∷ marks) was rests present =
    let more = filter_map-append event_of before (Noted e ∷ []) in (
      event_there setting before e was rests.0 present.0,
      subst (λ b. AreThere setting b (journal marks)) more (claims_there setting (before ++ Noted e ∷ []) marks (founded.both setting [] before (Noted e ∷ []) was (rests.0, tt)) rests.1 present.1),
    )
claims_there setting before (mark ∷ marks) was rests present =
    subst (λ b. AreThere setting b (journal marks)) (plain before mark refl) (claims_there setting (before ++ mark ∷ []) marks (founded.both setting [] before (mark ∷ []) was (rests.0, tt)) rests.1 present.1)

pub claims_present_so_far : (setting : Setting) (answers : List Done) (steps : List Step) → IsPlayable steps → AreFounded setting [] (after_lines setting answers steps) → ClaimsArePresent setting (journal (after_lines setting answers steps))
claims_present_so_far setting answers steps playable founded =
    claims_there setting [] (after_lines setting answers steps) tt founded (lines_go setting answers steps nothing [] playable.follows playable.bounds (nobody_yet setting)).present

pub claims_present : (setting : Setting) (answers : List Done) (steps : List Step) → IsPlayable steps → AreFounded setting [] (run setting answers steps) → ClaimsArePresent setting (journal (run setting answers steps))
claims_present setting answers steps playable founded =
    let acts = map (act_of setting answers) steps in
    let lines = in_sequence acts [] in
    let go = lines_go setting answers steps nothing [] playable.follows playable.bounds (nobody_yet setting) in
    let last = present_still setting go.known.apps go.known.user lines (end_of setting lines) go.after (quietly (end_of setting) (ends setting) lines) in
    let all : AreAll (Present setting) [] (run setting answers steps) =
    subst (AreAll (Present setting) []) (sym (in_sequence-one acts (end_of setting) [])) (both (Present setting) [] lines (end_of setting lines) go.present last) in
    claims_there setting [] (run setting answers steps) tt founded all
