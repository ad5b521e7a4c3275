-- In a script that can be played the contexts that lines declare of an application come before its claims.
use Rattle.std.proofs.Common.{◌≡◌, ℕ, ◌<◌, Bool, true, false, List, [], ◌∷◌, ◌++◌, map, Option, Some, None, refl, sym, ap, subst, ◌∙◌, append_assoc, arith, true≢false}
use Rattle.std.specs.Prelude.{◌||◌, nat_le, not, negsuc}
use Rattle.std.specs.List.{AllByRecursion, filter_map, list_any}
use Rattle.std.specs.Option.{option_map_or}
use Rattle.dl_lemmas.proofs.Lists.{all_map}
use Rattle.dl_lemmas.proofs.Bools.{neither, not_false}
use Rattle.dl_bytes.specs.Claim.{Claimed}
use Rattle.dl_bytes.specs.declared.outcome.Done.{Done}
use Rattle.dl_bytes.specs.declared.user.UserMsg.TheVariants as user
use Rattle.dl_script_model.specs.declared.line.ClaimLine.{ClaimLine}
use Rattle.dl_script_model.specs.declared.line.ContextLine.{ContextLine}
use Rattle.dl_script_model.specs.declared.step.Step.{Step}
use Rattle.dl_script_model.specs.declared.step.Step.TheVariants as line
use Rattle.dl_script_model.proofs.Marks.{in_sequence-one}
use Rattle.dl_script_fields.specs.declared.kind.ScriptKind.{ScriptKind}
use Rattle.dl_script_fields.specs.declared.kind.ScriptKind.TheVariants.{Limit, Order, Twice, Unknown}
use Rattle.dl_script.specs.Earlier.{Declared, first_of, is_app, is_claimed_on, is_context, is_on, noted, nothing, numbered, places_on, refusal}
use Rattle.dl_script.specs.declared.claim.Claim.TheVariants as claim_of_line
use Rattle.dl_script.specs.Playable.{IsPlayable}
use Rattle.dl_script.specs.Spelled.{MayFollow, step_claim}
use Rattle.dl_script_model.specs.Marks.{Mark, HasApp, HasContext, HasClaim, Heard, claim_of, number_of, writers}
use Rattle.dl_model.specs.Setting.{Setting}
use Rattle.dl_script_model.specs.Steps.{Act, act_of, announce_all, claim, claim_made, end_of, finish, in_sequence, just, new_messages, run, tell}
use Rattle.dl_runs.specs.WaitingClaims.{ComesFirst, ContextsComeFirst}
use Rattle.dl_runs.proofs.ClaimPlaces.{same_id}
use Rattle.dl_runs.proofs.Relations.{AreAll, Keeps, asked_for, both, each, turns, weaker}
use Rattle.dl_script_runs.proofs.Walks.{announces_all, ends, finishes, still_line}
use Rattle.dl_script_runs.proofs.PresentApps.{not_first}
use Rattle.dl_script_runs.proofs.TrackedClaims.{Aside, IsPlaced, Tracked, goes_claiming, goes_on, still_aside, tells, tracked_alike, tracked_context, tracked_writer}

-- ---- marks with which no context comes

aside_first : (done : List Mark) (mark : Mark) → Aside done mark → ComesFirst done mark
aside_first done (HasContext context) none = absurd none
aside_first done _ none = tt

comes_first : (act : Act) → Keeps Aside act → Keeps ComesFirst act
comes_first act none done = weaker Aside ComesFirst aside_first done (act done) (none done)

claims_first : (asked : ClaimLine) → Keeps ComesFirst (claim asked)
claims_first asked done = asked_for ComesFirst (claim_made asked done) (λ c. just (HasClaim c)) done (λ c e. (tt, tt))

-- ---- lines

-- what a line leaves, behind these marks
pub record LineGoes (setting : Setting) (answers : List Done) (known : Declared) (step : Step) (done : List Mark) : Type 0 where
  pub first : AreAll ComesFirst done (act_of setting answers step done)
  pub after : Tracked (noted known (step_claim step)) (done ++ act_of setting answers step done)

one_left : (n : ℕ) → nat_le 64 n ≡ false → n < 64
one_left n is = grind (arith, is)

-- What is asked of a context that a line declares: no user message came, its application is declared, the context is not, no place of the
-- application is claimed, and there is one for it.
pub record IsAdmitted (known : Declared) (apid ctid : List ℕ) : Type 0 where
  pub there : is_app known apid ≡ true
  pub fresh : is_context known apid ctid ≡ false
  pub no_user : known.user ≡ false
  pub no_place : list_any (is_on apid) known.places ≡ false
  pub room : places_on known apid < 64

pub context_admitted : (known : Declared) (apid ctid : List ℕ) → refusal known (claim_of_line.Context apid ctid) ≡ None → IsAdmitted known apid ctid
context_admitted known apid ctid admitted =
    let limit : List (Bool × ScriptKind) = (nat_le 64 (places_on known apid), Limit) ∷ [] in
    let twice : List (Bool × ScriptKind) = (is_context known apid ctid, Twice) ∷ limit in
    let first = not_first (known.user || is_claimed_on known apid) Order ((not (is_app known apid), Unknown) ∷ twice) admitted in
    let second = not_first (not (is_app known apid)) Unknown twice first.1 in
    let fresh = not_first (is_context known apid ctid) Twice limit second.1 in
    let parts = neither known.user (is_claimed_on known apid) first.0 in
    record { there = not_false (is_app known apid) second.0; fresh = fresh.0; no_user = parts.0; no_place = parts.1; room = one_left (places_on known apid) (not_first (nat_le 64 (places_on known apid)) Limit [] fresh.1).0 }

module _ (setting : Setting) (answers : List Done) (known : Declared) (done : List Mark) (is : Tracked known done) where
  -- a line that declares no context and no writer, and claims no place
  goes_aside : (step : Step) → Keeps Aside (act_of setting answers step) → (noted known (step_claim step)).writers ≡ known.writers → (noted known (step_claim step)).contexts ≡ known.contexts
      → (noted known (step_claim step)).places ≡ known.places → LineGoes setting answers known step done
  goes_aside step none writers contexts places =
      let act = act_of setting answers step in
      record {
        first = comes_first act none done;
        after = tracked_alike known (noted known (step_claim step)) (done ++ act done) writers contexts places (goes_on known act none done is);
      }

  none_before : (context : ContextLine) → list_any (is_on context.apid) known.places ≡ false → ComesFirst done (HasContext context)
  none_before context none =
      all_map (IsPlaced known.places done) (λ (c : Claimed). number_of context.apid done ≡ Some c.app → ⊥) (λ c was number.
      let same : was.apid ≡ context.apid = same_id was.apid context.apid c.app done was.number number in
      true≢false (sym was.there ∙ ap (λ (id : List ℕ). list_any (is_on id) known.places) same ∙ none)) (filter_map claim_of done) is.placed

  goes_context : (context : ContextLine) → list_any (is_on context.apid) known.places ≡ false → LineGoes setting answers known (line.Context context) done
  goes_context context none =
      let msg = user.RegisterContext context.apid context.ctid 0 context.level (negsuc 0) 0 context.text in
      let tell_it = in_sequence (tell setting 0 msg ∷ []) in
      let told : Keeps Aside tell_it = turns Aside (tell setting 0 msg ∷ []) (tells setting 0 msg, tt) in
      let now = noted known (claim_of_line.Context context.apid context.ctid) in
      let declared = done ++ HasContext context ∷ [] in
      record {
        first = (none_before context none, comes_first tell_it told declared);
        after = subst (Tracked now) (append_assoc done (HasContext context ∷ []) (tell_it declared)) (goes_on now tell_it told declared (tracked_context known context done none is));
      }

  -- a line that claims a place, and what else it does
  goes_place : (asked : ClaimLine) (acts : List Act) → AllByRecursion (Keeps Aside) acts → refusal known (claim_of_line.Place asked.writer asked.ctid) ≡ None →
      Tracked (noted known (claim_of_line.Place asked.writer asked.ctid)) (done ++ in_sequence (finish asked.writer ∷ claim asked ∷ acts) done)
  goes_place asked acts all admitted = by (numbered known.writers asked.writer) refl admitted where
    with_place : List ℕ → Declared
    with_place apid = record known { places = known.places ++ record { writer = asked.writer; apid = apid; ctid = asked.ctid } ∷ [] }

    by : (o : Option (List ℕ)) → numbered known.writers asked.writer ≡ o → option_map_or (λ apid. first_of ((nat_le 64 (places_on known apid), Limit) ∷ [])) o (Some Unknown) ≡ None →
        Tracked (option_map_or with_place o known) (done ++ in_sequence (finish asked.writer ∷ claim asked ∷ acts) done)
    by None owner admitted = absurd cc
    by (Some apid) owner admitted =
        let room = one_left (places_on known apid) (not_first (nat_le 64 (places_on known apid)) Limit [] admitted).0 in
        goes_claiming asked apid known owner room acts all (still_aside (finish asked.writer) (finishes setting asked.writer)) done is

  first_place : (asked : ClaimLine) (acts : List Act) → AllByRecursion (Keeps ComesFirst) acts → AreAll ComesFirst done (in_sequence (finish asked.writer ∷ claim asked ∷ acts) done)
  first_place asked acts all =
      turns ComesFirst (finish asked.writer ∷ claim asked ∷ acts)
      (comes_first (finish asked.writer) (still_aside (finish asked.writer) (finishes setting asked.writer)), (claims_first asked, all)) done

  pub line_goes : (step : Step) → refusal known (step_claim step) ≡ None → LineGoes setting answers known step done
  line_goes (line.App app) admitted =
      let tell_it = tell setting 0 (user.RegisterApp app.apid 0 app.text) in
      goes_aside (line.App app) (turns Aside (just (HasApp app) ∷ tell_it ∷ []) ((λ _. (tt, tt)), (tells setting 0 (user.RegisterApp app.apid 0 app.text), tt))) refl refl refl
  line_goes (line.Context context) admitted = goes_context context (context_admitted known context.apid context.ctid admitted).no_place
  line_goes (line.Writer apid) admitted = record { first = (tt, tt); after = tracked_writer known apid done is }
  line_goes (line.Claim asked) admitted = record { first = first_place asked [] tt; after = goes_place asked [] tt admitted }
  line_goes (line.Register asked) admitted =
      let announced = still_aside (announce_all asked.writer) (announces_all setting asked.writer) in
      record {
        first = first_place asked (announce_all asked.writer ∷ []) (comes_first (announce_all asked.writer) announced, tt);
        after = goes_place asked (announce_all asked.writer ∷ []) (announced, tt) admitted;
      }
  line_goes (line.User channel bytes) admitted =
      goes_aside (line.User channel bytes) (λ now.
      let msgs = new_messages channel bytes now in
      turns Aside (just (Heard channel bytes) ∷ map (tell setting channel) msgs) ((λ _. (tt, tt)), each Aside (tell setting channel) (tells setting channel) msgs) now) refl refl refl
  line_goes step admitted = goes_aside step (still_aside (act_of setting answers step) (still_line setting answers step tt)) refl refl refl

-- ---- runs

pub none_tracked : Tracked nothing []
none_tracked = record { owners = refl; contexts = λ apid. omega arith; placed = tt }

lines_go : (setting : Setting) (answers : List Done) (steps : List Step) (known : Declared) (done : List Mark) → MayFollow step_claim known steps → Tracked known done →
    AreAll ComesFirst done (in_sequence (map (act_of setting answers) steps) done)
lines_go setting answers [] known done follows is = tt
lines_go setting answers (step ∷ steps) known done follows is =
    let more = act_of setting answers step done in
    let one = line_goes setting answers known done is step follows.0 in
    both ComesFirst done more (in_sequence (map (act_of setting answers) steps) (done ++ more)) one.first
    (lines_go setting answers steps (noted known (step_claim step)) (done ++ more) follows.1 one.after)

as_said : (before marks : List Mark) → AreAll ComesFirst before marks → ContextsComeFirst before marks
as_said before [] all = tt
as_said before (mark ∷ marks) all = (all.0, as_said (before ++ mark ∷ []) marks all.1)

pub contexts_first : (setting : Setting) (answers : List Done) (steps : List Step) → IsPlayable steps → ContextsComeFirst [] (run setting answers steps)
contexts_first setting answers steps playable =
    let acts = map (act_of setting answers) steps in
    let lines = in_sequence acts [] in
    let go = lines_go setting answers steps nothing [] playable.follows none_tracked in
    let last = comes_first (end_of setting) (still_aside (end_of setting) (ends setting)) lines in
    as_said [] (run setting answers steps)
    (subst (AreAll ComesFirst []) (sym (in_sequence-one acts (end_of setting) [])) (both ComesFirst [] lines (end_of setting lines) go last))
