-- What is at a place of a list, by its number from 0.
use Rattle.std.specs.Prelude.{◌≡◌, ℕ, zero, suc, List, [], ◌∷◌, Some, slice_get}

-- the entry at this place is changed, and no other
abbrev pub changed_at : {A : Type 0} → ℕ → (A → A) → List A → List A
changed_at place f [] = []
changed_at zero f (x ∷ xs) = f x ∷ xs
changed_at (suc place) f (x ∷ xs) = x ∷ changed_at place f xs

-- P holds of the entry at this place
abbrev pub At : {A : Type 0} → List A → ℕ → (A → Type 0) → Type 0
At {A} xs place P = (x : A) → slice_get xs place ≡ Some x → P x
