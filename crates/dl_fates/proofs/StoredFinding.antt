-- What is found of the calls of a journal, at its end, and in a loop.
use Rattle.std.proofs.Common.{◌≡◌, ℕ, ◌+◌, ◌<◌, List, [], ◌∷◌, ◌++◌, length, take, drop, get_or, Option, Some, None, suc, refl, sym, ap, ◌∙◌, drop-cons, add-one}
use Rattle.std.proofs.lemmas.List.{take_more}
use Rattle.dl_fates.specs.StoredFound.{or_later}

pub nothing_later : (found : Option ℕ) → or_later found None ≡ found
nothing_later None = refl
nothing_later (Some file) = refl

pub one_further : {A : Type 0} (xs : List A) (i : ℕ) (x : A) → i < length xs → x ≡ get_or xs i x → (take (i + 1) xs ≡ take i xs ++ x ∷ []) × (drop i xs ≡ x ∷ drop (i + 1) xs)
one_further {A} xs i x within is = (
  take_more xs i x within ∙ ap (λ (y : A). take i xs ++ y ∷ []) (sym is),
  rw add-one (drop-cons xs i x within ∙ ap (λ (y : A). y ∷ drop (suc i) xs) (sym is)),
)
