-- What a rule says of all views together. A view stands at the place of the seat or pass that has it.
use Rattle.std.specs.Prelude.{◌≡◌, ℕ, ◌+◌, ◌==◌, Bool, true, false, List, [], ◌∷◌}
use mathlib.Core.Option.{some}
use lib.ListN.{get_elem?}

-- F holds of each view and its place
abbrev pub Each : {V : Type 0} → (ℕ → V → Type 0) → List V → Type 0
Each {V} F views = (id : ℕ) (v : V) → get_elem? views id ≡ some v → F id v

-- f of each view, added up
abbrev pub total : {V : Type 0} → (V → ℕ) → List V → ℕ
total f [] = 0
total f (v ∷ vs) = f v + total f vs

-- 1 for true, 0 for false
abbrev pub bit : Bool → ℕ
bit true = 1
bit false = 0

-- how often n stands in the list
abbrev pub times : ℕ → List ℕ → ℕ
times n xs = total (λ x. bit (x == n)) xs

-- each of 65 writers or claimers has a share: the first one, and those that can be split off
abbrev pub all_shares : ℕ
all_shares = 65
