-- Lists of entries that are all there.
use Rattle.std.proofs.Common.{◌≡◌, ℕ, List, [], ◌∷◌, ◌++◌, map, Option, Some, None, slice_get, sym, ap, ◌∙◌}
use Rattle.std.specs.Option.{option_map}
use Rattle.std.proofs.lemmas.List.{map-append}
use Rattle.std.proofs.lemmas.List.Elements.{filter_map-append}
use Rattle.std.proofs.lemmas.Option.{slice_get-map}
use Rattle.dl_events.specs.Records.{given}

-- one entry more
pub given-snoc : {A : Type 0} (xs : List (Option A)) (y : A) → given (xs ++ Some y ∷ []) ≡ given xs ++ y ∷ []
given-snoc xs y = filter_map-append (λ entry. entry) xs (Some y ∷ [])

pub there-snoc : {A : Type 0} (xs : List (Option A)) (y : A) → xs ≡ map Some (given xs) → xs ++ Some y ∷ [] ≡ map Some (given (xs ++ Some y ∷ []))
there-snoc xs y all = rw (given-snoc xs y, map-append Some (given xs) (y ∷ [])) (ap (λ l. l ++ Some y ∷ []) all)

-- the entry at a place
mapped : {A : Type 0} (found : Option A) (y : A) → option_map Some found ≡ Some (Some y) → found ≡ Some y
mapped None y h = absurd cc
mapped (Some x) y h = cc

pub there-at : {A : Type 0} (xs : List (Option A)) (n : ℕ) (y : A) → xs ≡ map Some (given xs) → slice_get xs n ≡ Some (Some y) → slice_get (given xs) n ≡ Some y
there-at xs n y all found = mapped (slice_get (given xs) n) y (sym (slice_get-map Some (given xs) n) ∙ ap (λ l. slice_get l n) (sym all) ∙ found)

never-none : {A : Type 0} (found : Option A) → option_map Some found ≡ Some None → ⊥
never-none None h = absurd cc
never-none (Some x) h = absurd cc

pub not-none : {A : Type 0} (xs : List (Option A)) (n : ℕ) → xs ≡ map Some (given xs) → slice_get xs n ≡ Some None → ⊥
not-none xs n all found = never-none (slice_get (given xs) n) (sym (slice_get-map Some (given xs) n) ∙ ap (λ l. slice_get l n) (sym all) ∙ found)
