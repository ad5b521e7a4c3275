use Rattle.std.proofs.Common.{Bool, List, [], ◌∷◌, ◌++◌, cond, Some, None, ap, subst, ◌∙◌, append_assoc, append-nil, refl, sym}
use Rattle.std.specs.List.{AllByRecursion, cons_option}
use Rattle.std.proofs.lemmas.Bool.{eq-eqb}
use Rattle.std.proofs.lemmas.List.Elements.{filter_map-append}
use Rattle.dl_bytes.specs.Claim.{Claimed}
use Rattle.dl_bytes.specs.declared.moment.Moment.{Moment}
use Rattle.dl_events.specs.declared.event.Event.{Event}
use Rattle.dl_events.specs.declared.event.Event.TheVariants as event
use Rattle.dl_model.specs.Accounts.{claim_of, claims}
use Rattle.dl_model.specs.Setting.{Setting}
use Rattle.dl_script_model.specs.Steps.{run}
use Rattle.dl_runs.proofs.Founded.{run_founded}
use Rattle.dl_laws.specs.PresentClaims.{AreThere, IsThere}
use Rattle.dl_runs.specs.WaitingClaims.{MessagesLeaveFree}
use Rattle.dl_runs.proofs.ClaimPlaces.{noted_are}
use Rattle.dl_script_runs.proofs.ClaimedFree.{IsLeft, claims_left, first_left}
use Rattle.dl_script_runs.proofs.laws.claims_of_a_script_are_registered.Goals as goal

there_at : (setting : Setting) (before xs ys : List Event) (e : Event) → AreThere setting before (xs ++ e ∷ ys) → IsThere setting (before ++ xs) e
there_at setting before [] ys e all = subst (λ (events : List Event). IsThere setting events e) (sym (append-nil before)) all.0
there_at setting before (x ∷ xs) ys e all = subst (λ (events : List Event). IsThere setting events e) (append_assoc before (x ∷ []) xs) (there_at setting (before ++ x ∷ []) xs ys e all.1)

in_middle : {A : Type 0} (P : A → Type 0) (xs : List A) (y : A) (ys : List A) → AllByRecursion P (xs ++ y ∷ ys) → P y
in_middle P [] y ys all = all.0
in_middle P (x ∷ xs) y ys all = in_middle P xs y ys all.1

-- the claim of a Claim event is among those of its application
of_claims : (P : Claimed → Type 0) (before after : List Event) (claim : Claimed) (moment : Moment) → AllByRecursion P (claims claim.app (before ++ event.Claim claim moment ∷ after)) → P claim
of_claims P before after claim moment all =
    in_middle P (claims claim.app before) claim (claims claim.app after)
    (subst (AllByRecursion P) (filter_map-append (claim_of claim.app) before (event.Claim claim moment ∷ after)
    ∙ ap (λ (b : Bool). claims claim.app before ++ cons_option (cond b (Some claim) None) (claims claim.app after)) (eq-eqb claim.app claim.app refl)) all)

pub returns : goal.returns
returns c = λ setting answers steps taken playable parts first.
    let before = taken.before in
    let after = taken.after in
    let claim = taken.claim in
    let moment = taken.moment in
    let marks = run setting answers steps in
    let there = there_at setting [] before after (event.Claim claim moment) (subst (AreThere setting []) parts (c.claims_of_a_script_are_present.ensures.whole setting answers steps playable)) in
    let left = of_claims (IsLeft setting marks) before after claim moment
    (subst (λ (events : List Event). AllByRecursion (IsLeft setting marks) (claims claim.app events)) parts
    (noted_are setting marks (run_founded setting answers steps) (IsLeft setting marks) (claims_left setting answers steps playable) claim.app)) in
    let free = first_left setting claim.app claim.place [] before (event.Claim claim moment ∷ after) (subst (λ (events : List Event). MessagesLeaveFree setting claim.app claim.place [] events) parts left.free) in
    c.claims_are_registered_as_they_are_taken.ensures setting answers steps taken parts
    (record { there = there; below = left.below; version = first; free = free })
