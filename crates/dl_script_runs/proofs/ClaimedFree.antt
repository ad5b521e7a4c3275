-- In a script that can be played user messages leave the places that writers claim free.
use Rattle.std.proofs.Common.{◌≡◌, ℕ, ◌<◌, ◌≤◌, Bool, true, false, cond, eqb, List, [], ◌∷◌, ◌++◌, length, map, Some, None, refl, sym, ap, subst, ◌∙◌, append_assoc, append-nil, length-append, arith, inl, inr, true≢false}
use Rattle.std.specs.Prelude.{nat_le, negsuc, slice_get}
use Rattle.std.specs.List.{AllByRecursion, cons_option, filter, filter_map, list_any}
use Rattle.std.specs.Map.{lookup}
use Rattle.std.specs.Str.{bytes_eq}
use Rattle.std.proofs.lemmas.Bool.{cases_lt, eqb-true}
use Rattle.std.proofs.lemmas.List.{map-append}
use Rattle.std.proofs.lemmas.List.Elements.{filter-append, filter_map-append}
use Rattle.std.proofs.lemmas.Option.{slice_get_within}
use Rattle.dl_lemmas.proofs.Lists.{all_map, get_more}
use Rattle.dl_bytes.specs.Claim.{Claimed}
use Rattle.dl_bytes.specs.declared.outcome.Done.{Done}
use Rattle.dl_bytes.specs.declared.user.UserMsg.{UserMsg}
use Rattle.dl_bytes.specs.declared.user.UserMsg.TheVariants as user
use Rattle.dl_events.specs.declared.event.Event.{Event}
use Rattle.dl_events.specs.declared.event.Event.TheVariants as event
use Rattle.dl_script_model.specs.declared.line.ContextLine.{ContextLine}
use Rattle.dl_script_model.specs.declared.step.Step.{Step}
use Rattle.dl_script_model.specs.declared.step.Step.TheVariants as line
use Rattle.dl_model.proofs.StandingApps.{channel_found, is_message}
use Rattle.dl_script_model.proofs.Marks.{in_sequence-one}
use Rattle.dl_script_fields.specs.declared.kind.ScriptKind.{ScriptKind}
use Rattle.dl_script_fields.specs.declared.kind.ScriptKind.TheVariants.{Limit, Order, Twice}
use Rattle.dl_script.specs.Earlier.{Declared, is_app, is_on, noted, nothing, refusal}
use Rattle.dl_script.specs.declared.claim.Claim.{Claim}
use Rattle.dl_script.specs.declared.claim.Claim.TheVariants as claim_of_line
use Rattle.dl_script.specs.Playable.{IsInBounds, IsPlayable}
use Rattle.dl_script.specs.Spelled.{MayFollow, step_claim}
use Rattle.dl_model.specs.Accounts.{claims}
use Rattle.dl_model.specs.Journal.{registry_of, slots_of, step}
use Rattle.dl_script_model.specs.Marks.{Mark, HasApp, HasContext, Heard, Noted, claim_of, context_of, contexts_of, event_of, journal, moment}
use Rattle.dl_model.specs.Registry.{Registry, applied, least_free, places}
use Rattle.dl_model.specs.Setting.{Setting}
use Rattle.dl_script_model.specs.Steps.{Act, act_of, after_lines, end_of, in_sequence, just, new_messages, note_levels, note_levels_now, run, tell}
use Rattle.dl_model.proofs.Numbered.{below_least_free}
use Rattle.dl_model.proofs.OneMore.{registry-one}
use Rattle.dl_model.proofs.Order.{app_of_found, in_order-registry_of}
use Rattle.dl_model.proofs.Presence.{bytes_same}
use Rattle.dl_script_model.specs.Runs.{AreFounded}
use Rattle.dl_runs.proofs.Founded.{lines_founded}
use Rattle.dl_runs.specs.WaitingClaims.{IsFreeIn, IsUntaken, LeavesFree, MessagesLeaveFree}
use Rattle.dl_runs.proofs.ClaimPlaces.{noted_are}
use Rattle.dl_runs.proofs.EarlyCalls.{stand_and_owe}
use Rattle.dl_runs.proofs.FreePlaces.{lack-lookup, unused}
use Rattle.dl_runs.proofs.Relations.{AreAll, Keeps, both, holds_on, turns, weaker}
use Rattle.dl_runs.proofs.WellFormed.{Stands, lines_stand, plain}
use Rattle.dl_script_runs.proofs.ContextsFirst as first
use Rattle.dl_script_runs.proofs.ContextsFirst.{context_admitted, none_tracked}
use Rattle.dl_script_runs.proofs.LeftFree.{Spares, alone_at, number_is, own_channel, told_free}
use Rattle.dl_script_runs.proofs.PresentApps as present
use Rattle.dl_script_runs.proofs.PresentApps.{IsQuiet, Known, Quiet, Stand, nobody_yet, not_first, ok_or, place_apps, place_user, quiet_line, quietly, registry_noted, stand_still, tell_other}
use Rattle.dl_script_runs.proofs.TrackedClaims.{IsPlaced, Tracked, context_more, goes_on, still_aside}
use Rattle.dl_script_runs.proofs.Walks.{Without, ends, hands_out}

-- ---- events that leave a place free

module _ (setting : Setting) (app place : ℕ) where
  abbrev pub Leaves : List Mark → Mark → Type 0
  Leaves done (Noted e) = LeavesFree setting app place (journal done) e
  Leaves done _ = Unit {0}

  no_message : (done : List Mark) (e : Event) → is_message e ≡ false → Leaves done (Noted e)
  no_message done (event.User channel msg moment) none = absurd (true≢false none)
  no_message done _ none = tt

  quiet_leaves : (done : List Mark) (mark : Mark) → Quiet done mark → Leaves done mark
  quiet_leaves done (Noted e) quiet = no_message done e quiet
  quiet_leaves done _ quiet = tt

  pub quietly_left : (act : Act) → Keeps Quiet act → Keeps Leaves act
  quietly_left act quiet done = weaker Quiet Leaves quiet_leaves done (act done) (quiet done)

  pub are_left : (before marks : List Mark) → AreAll Leaves before marks → MessagesLeaveFree setting app place (journal before) (journal marks)
  are_left before [] all = tt
  are_left before (Noted e ∷ marks) all = (
    all.0,
    subst (λ b. MessagesLeaveFree setting app place b (journal marks)) (filter_map-append event_of before (Noted e ∷ [])) (are_left (before ++ Noted e ∷ []) marks all.1),
  )
  are_left before (mark ∷ marks) all = subst (λ b. MessagesLeaveFree setting app place b (journal marks)) (plain before mark refl) (are_left (before ++ mark ∷ []) marks all.1)

-- Level events leave the registry
abbrev pub is_other : Event → Bool
is_other (event.Level slot level) = false
is_other _ = true

level_leaves : (setting : Setting) (done : List Mark) (e : Event) → is_other e ≡ false → step setting (slots_of setting (journal done)) (registry_of setting (journal done)) e ≡ registry_of setting (journal done)
level_leaves setting done (event.Level slot level) level_is = refl
level_leaves setting done _ other = absurd (true≢false other)

abbrev pub Registered : Setting → Registry → List Mark → Type 0
Registered setting r done = registry_of setting (journal done) ≡ r

pub registered_on : (setting : Setting) (r : Registry) (done : List Mark) (mark : Mark) → Registered setting r done → Without is_other done mark → Registered setting r (done ++ mark ∷ [])
registered_on setting r done (Noted e) is levels = registry_noted setting done e ∙ level_leaves setting done e levels ∙ is
registered_on setting r done mark is levels = ap (registry_of setting) (plain done mark refl) ∙ is

-- ---- messages that lines tell

module _ (setting : Setting) (app place : ℕ) where
  tell_leaves : (channel : ℕ) (msg : UserMsg) (done : List Mark) → Spares app place (registry_of setting (journal done)) channel msg → AreAll (Leaves setting app place) done (tell setting channel msg done)
  tell_leaves channel msg done spares =
      let R = Leaves setting app place in
      let levels = note_levels setting done in
      let now = done ++ levels in
      let r = registry_of setting (journal now) in
      let e = event.User channel msg (moment now) in
      let same : r ≡ registry_of setting (journal done) =
      holds_on (Without is_other) (Registered setting (registry_of setting (journal done))) (registered_on setting (registry_of setting (journal done))) done levels refl (hands_out setting is_other (λ _ _. refl) done) in
      let here : IsFreeIn r app place → IsFreeIn (registry_of setting (journal now ++ e ∷ [])) app place = λ free.
      subst (λ (new : Registry). IsFreeIn new app place) (sym (registry-one setting (journal now) e))
      (ok_or (λ (new : Registry). IsFreeIn new app place) (applied (slots_of setting (journal now)) r channel msg) r free
      (told_free app place r free (slots_of setting (journal now)) channel msg (subst (λ (old : Registry). Spares app place old channel msg) (sym same) spares))) in
      both R done levels (Noted e ∷ in_sequence (note_levels_now setting ∷ []) (now ++ Noted e ∷ [])) (quietly_left setting app place (note_levels setting) (present.hands_out_quiet setting) done)
      (here, turns R (note_levels_now setting ∷ []) (quietly_left setting app place (note_levels_now setting) (present.hands_out_now_quiet setting), tt) (now ++ Noted e ∷ []))

  -- those of other channels don't reach an application of this process
  spares_other : (apids names : List (List ℕ)) (channel : ℕ) (msg : UserMsg) (done : List Mark) → 1 ≤ channel → app < length apids → Stand setting apids true names done → Spares app place (registry_of setting (journal done)) channel msg
  spares_other apids names channel (user.RegisterContext apid ctid position level trace pid text) done from below stand = λ a found number _.
      let r = registry_of setting (journal done) in
      let own = own_channel 0 apids r.apps stand.first (in_order-registry_of setting (journal done)).numbered.apart apid a (app_of_found r channel apid a found) (omega arith) (omega (arith, number, below)) in
      omega (arith, own, from, channel_found channel (lookup (bytes_eq apid) r.apps) a found)
  spares_other apids names channel _ done from below stand = tt

  others_left : (apids names : List (List ℕ)) (channel : ℕ) (msgs : List UserMsg) (done : List Mark) → 1 ≤ channel → app < length apids → Stand setting apids true names done →
      AreAll (Leaves setting app place) done (in_sequence (map (tell setting channel) msgs) done)
  others_left apids names channel [] done from below stand = tt
  others_left apids names channel (msg ∷ msgs) done from below stand =
      let more = tell setting channel msg done in
      both (Leaves setting app place) done more (in_sequence (map (tell setting channel) msgs) (done ++ more)) (tell_leaves channel msg done (spares_other apids names channel msg done from below stand))
      (others_left apids names channel msgs (done ++ more) from below (tell_other setting apids names channel msg from done stand))

-- ---- places behind the contexts that lines declare

-- a place is behind these of its application, which is one of those that lines declare once user messages come
pub record IsBehind (known : Declared) (done : List Mark) (app place : ℕ) : Type 0 where
  pub contexts : (apid : List ℕ) → slice_get known.apps app ≡ Some apid → length (contexts_of apid done) ≤ place
  pub declared : known.user ≡ true → app < length known.apps

pub fewer_contexts : (apid : List ℕ) (done more : List Mark) → length (contexts_of apid done) ≤ length (contexts_of apid (done ++ more))
fewer_contexts apid done more =
    let p = λ (context : ContextLine). bytes_eq context.apid apid in
    omega (
      arith,
      ap (λ (cs : List ContextLine). length (filter p cs)) (filter_map-append context_of done more),
      ap length (filter-append p (filter_map context_of done) (filter_map context_of more)),
      length-append (contexts_of apid done) (filter p (filter_map context_of more)),
    )

-- lines declare applications behind those before, and none once user messages came
apps_more : (known : Declared) (claim : Claim) → (more : List (List ℕ)) × ((noted known claim).apps ≡ known.apps ++ more)
apps_more known (claim_of_line.App apid) = (apid ∷ [], refl)
apps_more known (claim_of_line.Place writer ctid) = ([], place_apps known writer ctid ∙ sym (append-nil known.apps))
apps_more known _ = ([], sym (append-nil known.apps))

apps_stay : (known : Declared) (claim : Claim) → refusal known claim ≡ None → known.user ≡ true → ((noted known claim).apps ≡ known.apps) × ((noted known claim).user ≡ true)
apps_stay known (claim_of_line.App apid) admitted came =
    let causes : List (Bool × ScriptKind) = (is_app known apid, Twice) ∷ (nat_le 16 (length known.apps), Limit) ∷ [] in
    absurd (true≢false (sym came ∙ (not_first known.user Order causes admitted).0))
apps_stay known (claim_of_line.Place writer ctid) admitted came = (place_apps known writer ctid, place_user known writer ctid ∙ came)
apps_stay known claim_of_line.User admitted came = (refl, refl)
apps_stay known _ admitted came = (refl, came)

-- so a place that is behind is so before
behind_before : (known : Declared) (claim : Claim) (done more : List Mark) (app place : ℕ) → refusal known claim ≡ None → IsBehind (noted known claim) (done ++ more) app place → IsBehind known done app place
behind_before known claim done more app place admitted is = record {
  contexts = λ apid there.
      let grown = apps_more known claim in
      let later = ap (λ (ids : List (List ℕ)). slice_get ids app) grown.1 ∙ get_more known.apps grown.0 app apid there in
      omega (arith, is.contexts apid later, fewer_contexts apid done more);
  declared = λ came.
      let same = apps_stay known claim admitted came in
      omega (arith, is.declared same.1, ap length same.0);
}

-- no claim of an application was taken
pub none_taken : (app place : ℕ) (events : List Event) → AllByRecursion (λ (c : Claimed). c.app ≡ app → ⊥) (claims app events) → IsUntaken app place events
none_taken app place [] none = tt
none_taken app place (event.Claim c moment ∷ events) none = by (eqb c.app app) refl none (none_taken app place events) where
  by : (b : Bool) → eqb c.app app ≡ b → AllByRecursion (λ (d : Claimed). d.app ≡ app → ⊥) (cons_option (cond b (Some c) None) (claims app events)) →
      (AllByRecursion (λ (d : Claimed). d.app ≡ app → ⊥) (claims app events) → IsUntaken app place events) → AllByRecursion (λ (d : Claimed). d.place ≡ place → ⊥) (cons_option (cond b (Some c) None) (claims app events))
  by true here all rest = absurd (all.0 (eqb-true c.app app here))
  by false other all rest = rest all
none_taken app place (_ ∷ events) none = none_taken app place events none

-- ---- lines

-- After lines: user messages left each place free that is behind.
pub record Comes (setting : Setting) (answers : List Done) (known : Declared) (done : List Mark) : Type 0 where
  pub stand : Known setting known done
  pub tracked : Tracked known done
  pub lines : List Step
  pub are : done ≡ after_lines setting answers lines
  pub left : (app place : ℕ) → IsBehind known done app place → AreAll (Leaves setting app place) [] done

module _ (setting : Setting) (answers : List Done) (known : Declared) (done : List Mark) (comes : Comes setting answers known done) where
  abbrev now : Registry
  now = registry_of setting (journal done)

  -- where lines claim no place of an application, the daemon took no claim of it
  pub none_of : (app : ℕ) (apid : List ℕ) → slice_get known.apps app ≡ Some apid → list_any (is_on apid) known.places ≡ false → AllByRecursion (λ (c : Claimed). c.app ≡ app → ⊥) (claims app (journal done))
  none_of app apid there none =
      let P : Claimed → Type 0 = λ c. c.app ≡ app → ⊥ in
      noted_are setting done (subst (AreFounded setting []) (sym comes.are) (lines_founded setting answers comes.lines)) P
      (all_map (IsPlaced known.places done) P (λ c was same.
      let at : slice_get known.apps app ≡ Some was.apid =
      ap (slice_get known.apps) (sym same) ∙ ap (λ (ids : List (List ℕ)). slice_get ids c.app) (sym comes.stand.declared) ∙ number_is done was.apid c.app was.number in
      let ids : Some was.apid ≡ Some apid = sym at ∙ there in
      let id : was.apid ≡ apid = cc in
      true≢false (sym was.there ∙ ap (λ (x : List ℕ). list_any (is_on x) known.places) id ∙ none)) (filter_map claim_of done) comes.tracked.placed) app

  -- a place behind the contexts of such an application is free
  free_behind : (app place : ℕ) (apid : List ℕ) → slice_get known.apps app ≡ Some apid → list_any (is_on apid) known.places ≡ false → IsBehind known done app place → place < 64 → IsFreeIn now app place
  free_behind app place apid there none behind below =
      (unused setting app place below (journal done)
      (stand_and_owe setting [] done (subst (AreAll (Stands setting) []) (sym comes.are) (lines_stand setting answers comes.lines)))
      (none_taken app place (journal done) (none_of app apid there none))
      (are_left setting app place [] done (comes.left app place behind))).free

  -- a context that a line declares takes a place before those that are behind it
  context_spares : (context : ContextLine) → refusal known (claim_of_line.Context context.apid context.ctid) ≡ None → (more : List Mark) (app place : ℕ) →
      IsBehind (noted known (claim_of_line.Context context.apid context.ctid)) (done ++ HasContext context ∷ more) app place →
      Spares app place now 0 (user.RegisterContext context.apid context.ctid 0 context.level (negsuc 0) 0 context.text)
  context_spares context admitted more app place behind = λ a found number least.
      let asked = context_admitted known context.apid context.ctid admitted in
      let looked = app_of_found now 0 context.apid a found in
      let at = alone_at 0 known.apps now.apps comes.stand.first (comes.stand.alone asked.no_user) context.apid a looked in
      let there : slice_get known.apps app ≡ Some context.apid = ap (slice_get known.apps) (omega (arith, number, at.1)) ∙ at.2 in
      let n = length (contexts_of context.apid done) in
      let here : IsBehind known done app n = record {
        contexts = λ apid is. (let ids : Some context.apid ≡ Some apid = sym there ∙ is in let id : context.apid ≡ apid = cc in omega (arith, ap (λ (x : List ℕ). length (contexts_of x done)) id));
        declared = λ came. slice_get_within known.apps app context.apid there;
      } in
      let free = free_behind app n context.apid there asked.no_place here (omega (arith, comes.tracked.contexts context.apid, asked.room)) in
      let none = lack-lookup app n (bytes_eq context.apid) now.apps a free looked number in
      let one : n < place = omega (
        arith,
        behind.contexts context.apid there,
        ap (λ (ms : List Mark). length (contexts_of context.apid ms)) (append_assoc done (HasContext context ∷ []) more),
        fewer_contexts context.apid (done ++ HasContext context ∷ []) more,
        context_more context.apid done context,
        ap (λ (b : Bool). cond {A = ℕ} b 1 0) (bytes_same context.apid),
      ) in
      elim (cases_lt n (least_free (places a.contexts))) [
        | inl less ↦ true≢false (sym (below_least_free (places a.contexts) n less) ∙ none)
        | inr more ↦ omega (arith, more, least, one)
      ]

  -- a line's messages leave what is behind
  line_left : (step : Step) → refusal known (step_claim step) ≡ None → IsInBounds step → (app place : ℕ) → IsBehind (noted known (step_claim step)) (done ++ act_of setting answers step done) app place →
      AreAll (Leaves setting app place) done (act_of setting answers step done)
  line_left (line.App one) admitted bounds app place behind =
      let msg = user.RegisterApp one.apid 0 one.text in
      turns (Leaves setting app place) (just (HasApp one) ∷ tell setting 0 msg ∷ []) ((λ _. (tt, tt)), ((λ declared. tell_leaves setting app place 0 msg declared tt), tt)) done
  line_left (line.Context context) admitted bounds app place behind =
      let msg = user.RegisterContext context.apid context.ctid 0 context.level (negsuc 0) 0 context.text in
      let declared = done ++ HasContext context ∷ [] in
      let told = tell setting 0 msg declared in
      let spares = context_spares context admitted (told ++ []) app place behind in (
        tt,
        both (Leaves setting app place) declared told []
            (tell_leaves setting app place 0 msg declared (subst (λ es. Spares app place (registry_of setting es) 0 msg) (sym (plain done (HasContext context) refl)) spares)) tt,
      )
  line_left (line.User channel bytes) admitted bounds app place behind =
      let told : Stand setting known.apps true known.apps done = record { first = comes.stand.first; alone = λ none. absurd (true≢false none); declared = comes.stand.declared } in (
        tt,
        others_left setting app place known.apps known.apps channel (new_messages channel bytes done) (done ++ Heard channel bytes ∷ []) bounds (behind.declared refl)
            (stand_still setting known.apps true known.apps (just (Heard channel bytes)) (λ _. (tt, tt)) done told),
      )
  line_left step admitted bounds app place behind = quietly_left setting app place (act_of setting answers step) (quiet_line setting answers step tt) done

  pub comes_on : (step : Step) → refusal known (step_claim step) ≡ None → IsInBounds step → Comes setting answers (noted known (step_claim step)) (done ++ act_of setting answers step done)
  comes_on step admitted bounds =
      let act = act_of setting answers in
      record {
        stand = (present.line_goes setting answers known done comes.stand step admitted bounds).after;
        tracked = (first.line_goes setting answers known done comes.tracked step admitted).after;
        lines = comes.lines ++ step ∷ [];
        are = ap (λ (ms : List Mark). ms ++ act step ms) comes.are ∙ sym (ap (λ (acts : List Act). in_sequence acts []) (map-append act comes.lines (step ∷ [])) ∙ in_sequence-one (map act comes.lines) (act step) []);
        left = λ app place behind.
            both (Leaves setting app place) [] done (act step done) (comes.left app place (behind_before known (step_claim step) done (act step done) app place admitted behind)) (line_left step admitted bounds app place behind);
      }

pub lines_come : (setting : Setting) (answers : List Done) (steps : List Step) (known : Declared) (done : List Mark) → MayFollow step_claim known steps → AllByRecursion IsInBounds steps → Comes setting answers known done →
    (last : Declared) × Comes setting answers last (done ++ in_sequence (map (act_of setting answers) steps) done)
lines_come setting answers [] known done follows bounds comes = (known, subst (Comes setting answers known) (sym (append-nil done)) comes)
lines_come setting answers (step ∷ steps) known done follows bounds comes =
    let more = act_of setting answers step done in
    let rest = lines_come setting answers steps (noted known (step_claim step)) (done ++ more) follows.1 bounds.1 (comes_on setting answers known done comes step follows.0 bounds.0) in
    (rest.0, subst (Comes setting answers rest.0) (append_assoc done more (in_sequence (map (act_of setting answers) steps) (done ++ more))) rest.1)

-- ---- runs

-- an application can have the place of a claim, and messages leave it free
pub record IsLeft (setting : Setting) (done : List Mark) (c : Claimed) : Type 0 where
  pub below : c.place < 64
  pub free : MessagesLeaveFree setting c.app c.place [] (journal done)

pub begins : (setting : Setting) (answers : List Done) → Comes setting answers nothing []
begins setting answers = record { stand = nobody_yet setting; tracked = none_tracked; lines = []; are = refl; left = λ app place behind. tt }

pub claims_left : (setting : Setting) (answers : List Done) (steps : List Step) → IsPlayable steps → AllByRecursion (IsLeft setting (run setting answers steps)) (filter_map claim_of (run setting answers steps))
claims_left setting answers steps playable =
    let acts = map (act_of setting answers) steps in
    let lines = in_sequence acts [] in
    let end = end_of setting lines in
    let whole = lines ++ end in
    let come = lines_come setting answers steps nothing [] playable.follows playable.bounds (begins setting answers) in
    let last = come.0 in
    let quiet = quietly (end_of setting) (ends setting) in
    let stand : Known setting last whole = stand_still setting last.apps last.user last.apps (end_of setting) quiet lines come.1.stand in
    let tracked : Tracked last whole = goes_on last (end_of setting) (still_aside (end_of setting) (ends setting)) lines come.1.tracked in
    let one : (c : Claimed) → IsPlaced last.places whole c → IsLeft setting whole c = λ c was.
    (let at : slice_get last.apps c.app ≡ Some was.apid = ap (λ (ids : List (List ℕ)). slice_get ids c.app) (sym stand.declared) ∙ number_is whole was.apid c.app was.number in
    let behind : IsBehind last lines c.app c.place = record {
      contexts = λ apid there.
          (let ids : Some was.apid ≡ Some apid = sym at ∙ there in
          let id : was.apid ≡ apid = cc in
          omega (arith, was.behind, fewer_contexts was.apid lines end, ap (λ (x : List ℕ). length (contexts_of x lines)) id));
      declared = λ came. slice_get_within last.apps c.app was.apid at;
    } in
    let all = both (Leaves setting c.app c.place) [] lines end (come.1.left c.app c.place behind) (quietly_left setting c.app c.place (end_of setting) quiet lines) in
    record { below = was.below; free = are_left setting c.app c.place [] whole all }) in
    subst (λ (marks : List Mark). AllByRecursion (IsLeft setting marks) (filter_map claim_of marks)) (sym (in_sequence-one acts (end_of setting) []))
    (all_map (IsPlaced last.places whole) (IsLeft setting whole) one (filter_map claim_of whole) tracked.placed)

-- so do those of the first events
pub first_left : (setting : Setting) (app place : ℕ) (before xs ys : List Event) → MessagesLeaveFree setting app place before (xs ++ ys) → MessagesLeaveFree setting app place before xs
first_left setting app place before [] ys all = tt
first_left setting app place before (x ∷ xs) ys all = (all.0, first_left setting app place (before ++ x ∷ []) xs ys all.1)
