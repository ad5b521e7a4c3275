-- What holds of each view, after a change of one and with one more.
use Rattle.std.proofs.Common.{◌≡◌, ◌≢◌, ℕ, zero, suc, ◌<◌, ◌⊎◌, inl, inr, List, [], ◌∷◌, ◌++◌, length, set, sym, refl, ap, subst, ⊎_elim, arith}
use mathlib.Core.Option.{some, some-injective, some-ne-none}
use lib.ListN.{get_elem?}
use Rattle.atomic_table.proofs.Lists.{at_set, set_here}
use Rattle.dl_cells.specs.Views.{Each}

module _ {V : Type 0} where
  pub at_within : (views : List V) (id : ℕ) (v : V) → get_elem? views id ≡ some v → id < length views
  at_within [] id v e = absurd (some-ne-none v (sym e))
  at_within (x ∷ xs) zero v e = omega arith
  at_within (x ∷ xs) (suc id) v e = let shorter = at_within xs id v e in omega arith

  -- the view that is put is there
  pub set_there : (views : List V) (id : ℕ) (v w : V) → get_elem? views id ≡ some v → get_elem? (set views id w) id ≡ some w
  set_there views id v w e = set_here views id w (at_within views id v e)

  -- a view is an earlier one, or the last one
  pub at_end : (views : List V) (w v : V) (id : ℕ) → get_elem? (views ++ w ∷ []) id ≡ some v → (get_elem? views id ≡ some v) ⊎ ((id ≡ length views) × (w ≡ v))
  at_end [] w v zero e = inr (refl, some-injective w v e)
  at_end [] w v (suc id) e = absurd (some-ne-none v (sym e))
  at_end (x ∷ xs) w v zero e = inl e
  at_end (x ∷ xs) w v (suc id) e = ⊎_elim (λ there. inl there) (λ last. inr (ap suc last.0, last.1)) (at_end xs w v id e)

  -- after a change of one view: what holds of it, and of the others
  pub each_set : (F : ℕ → V → Type 0) (views : List V) (id : ℕ) (w : V) → F id w → ((j : ℕ) (u : V) → j ≢ id → get_elem? views j ≡ some u → F j u) → Each F (set views id w)
  each_set F views id w mine others j u e = ⊎_elim (λ (x : (j ≡ id) × (w ≡ u)). subst (λ (y : ℕ × V). F y.0 y.1) (λ i. (sym x.0 i, x.1 i)) mine)
      (λ (x : (j ≢ id) × (get_elem? views j ≡ some u)). others j u x.0 x.1) (at_set views id j w u e)

  -- the same where each view before had what it has now
  pub each_put : (F : ℕ → V → Type 0) (views : List V) (id : ℕ) (w : V) → F id w → Each F views → Each F (set views id w)
  each_put F views id w mine before = each_set F views id w mine (λ j u _ e. before j u e)

  -- with one more view, whose place matters
  pub each_end : (F : ℕ → V → Type 0) (views : List V) (w : V) → F (length views) w → Each F views → Each F (views ++ w ∷ [])
  each_end F views w mine before j u e = ⊎_elim (λ there. before j u there) (λ (x : (j ≡ length views) × (w ≡ u)). subst (λ (y : ℕ × V). F y.0 y.1) (λ i. (sym x.0 i, x.1 i)) mine)
      (at_end views w u j e)

  -- with one more view, whose place does not matter
  pub each_snoc : (F : ℕ → V → Type 0) (views : List V) (w : V) → ((id : ℕ) → F id w) → Each F views → Each F (views ++ w ∷ [])
  each_snoc F views w mine before = each_end F views w (mine (length views)) before

  -- of a lone view
  pub each_one : (F : ℕ → V → Type 0) (v : V) → F 0 v → Each F (v ∷ [])
  each_one F v mine = each_end F [] v mine (λ j u e. absurd (some-ne-none u (sym e)))

  pub each_tail : (F : V → Type 0) (v : V) (vs : List V) → Each (λ _ u. F u) (v ∷ vs) → Each (λ _ u. F u) vs
  each_tail F v vs each j u e = each (suc j) u e
