use Rattle.std.proofs.Common.{rules, ◌∙◌, ap, subst, sym, ℕ, List}
use Rattle.std.specs.Arc.{arc_value}
use Rattle.dl_ring.specs.declared.view.View.{View}
use Rattle.dl_ring.specs.Passes.{HasOwners}
use Rattle.dl_ring.specs.Rule.{Keeps}
use Rattle.dl_ring.proofs.Boxing.{boxed_forks}
use Rattle.dl_ring.proofs.Keeping.{begins, opens}
use Rattle.dl_ring.proofs.Owners.{all_owned, first_is_pusher}
use Rattle.dl_ring.proofs.ring.make_ring.Goals as goal

pub ruled-requires-clause-rule : goal.ruled-requires-clause-rule
ruled-requires-clause-rule c = begins

pub another-taker-requires-clause-rule : goal.another-taker-requires-clause-rule
another-taker-requires-clause-rule c = boxed_forks Keeps _ _ _ _ (opens _ _ c.in_ok-queue.ensures.3)

pub invariant_of-push : goal.invariant_of-push
invariant_of-push c =
    let is = c.another-taker.ensures.rule.0 in
    let owned = c.in_ok-spare.ensures in
    (search rules, first_is_pusher _ is, subst (λ (given : List ℕ). HasOwners (arc_value c.in-Ok.ring) given c.in_ok-spare.spare.items) (sym (ap (λ (v : View). v.given) is)) (all_owned _ _ (sym c.in_ok-spare.spare.ok.0 ∙ owned.0) owned.1))
