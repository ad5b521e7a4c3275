-- What contracts see after a take that gives.
use Rattle.std.proofs.Common.{◌≡◌, ℕ, [], ◌∷◌, ◌++◌, ap, ◌∙◌}
use Rattle.atomic_table.specs.Seated.{TableId}
use Rattle.dl_ring.specs.declared.injection_view.View.{View}
use Rattle.dl_ring.specs.declared.injection_view.Entry.{Entry}
use Rattle.dl_ring.specs.InjectionState.{TakeState}
use Rattle.dl_ring.specs.InjectionRule.{with_taken}

pub one_taken : (before after : TableId) (v w : View) (x : Entry) (empties : ℕ) (state : TakeState) → after ≡ before → w ≡ with_taken v x
    → record { queue = before; taken = v.taken; empties = empties; first = v.gives; splits = v.splits } ≡ state
    → (number : ℕ) × (record { queue = after; taken = w.taken; empties = empties; first = w.gives; splits = w.splits } ≡ record state { taken = state.taken ++ (record { number = number; injection = x.injection }) ∷ [] })
one_taken before after v w x empties state same is was =
    (x.number, (λ i. record { queue = same i; taken = (is i).taken; empties = empties; first = (is i).gives; splits = (is i).splits }) ∙ ap (λ (s : TakeState). record s { taken = s.taken ++ x ∷ [] }) was)
