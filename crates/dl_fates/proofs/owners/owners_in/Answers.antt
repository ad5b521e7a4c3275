use Rattle.std.proofs.Common.{ℕ, List, [], ◌∷◌, ◌++◌, take, sym, ap, ◌∙◌}
use Rattle.std.proofs.lemmas.List.Elements.{filter_map-append}
use Rattle.dl_fates.specs.Told.{owner_in, owners_in}
use Rattle.dl_fates.proofs.Places.{one_more}
use Rattle.dl_fates.proofs.owners.owners_in.Goals as goal

pub loop-step-preserved : goal.loop-step-preserved
loop-step-preserved c =
    let i = c.loop-step.step-index in
    let steps = c.args.steps.now in
    let step = c.step-item.result in
    c.in_ok-push_owner.ensures ∙ ap (λ (os : List (List ℕ)). os ++ owners_in (step ∷ [])) c.loop-step.invariant
    ∙ sym (ap owners_in (one_more steps i step c.loop-step-test.true c.step-item.is) ∙ filter_map-append owner_in (take i steps) (step ∷ []))
