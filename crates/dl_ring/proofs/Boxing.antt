-- What keeps the rule of a ring of items keeps that of a ring of boxes.
use Rattle.std.proofs.Common.{ℕ, ◌<◌, List, [], ◌∷◌, set, sym, subst}
use Rattle.std.proofs.lemmas.List.{length-map, map-append}
use Rattle.std.specs.declared.boxed.Box.{Box}
use Rattle.crossbeam_queue.specs.Fifo.{Pushes, Pops, Forks, Merges, Learns}
use Rattle.dl_ring.specs.Boxes.{values}

module _ {T V Z : Type 0} (holds : List T → List V → Type 0) where
  -- the rule, of what lies in boxes
  abbrev pub boxed : List (Box T Z) → List V → Type 0
  boxed boxes views = holds (values boxes) views

  pub boxed_pushes : (n id : ℕ) (v : V) (b : Box T Z) (then : V → Type 0) → Pushes holds n id v b.value then → Pushes boxed n id v b then
  boxed_pushes n id v b then step boxes views few keeps at =
      let now = step (values boxes) views (subst (λ (k : ℕ). k < n) (sym (length-map boxes (λ (x : Box T Z). x.value))) few) keeps at in
      (now.0, subst (λ (items : List T). holds items (set views id now.0)) (sym (map-append (λ (x : Box T Z). x.value) boxes (b ∷ []))) now.1, now.2)

  pub boxed_pops : (id : ℕ) (v : V) (then : T → V → Type 0) → Pops holds id v then → Pops boxed id v (λ b w. then b.value w)
  boxed_pops id v then step b boxes views keeps at = step b.value (values boxes) views keeps at

  pub boxed_forks : (id : ℕ) (v left right : V) → Forks holds id v left right → Forks boxed id v left right
  boxed_forks id v left right step boxes views keeps at = step (values boxes) views keeps at

  pub boxed_merges : (id : ℕ) (v : V) (other : ℕ) (w both spent : V) → Merges holds id v other w both spent → Merges boxed id v other w both spent
  boxed_merges id v other w both spent step boxes views keeps at apart at' = step (values boxes) views keeps at apart at'

  pub boxed_learns : (id : ℕ) (v : V) (fact : List T → Type 0) → Learns holds id v fact → Learns boxed id v (λ boxes. fact (values boxes))
  boxed_learns id v fact step boxes views keeps at = step (values boxes) views keeps at
