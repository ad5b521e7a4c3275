-- The contexts that a writer claimed, one after the other.
use Rattle.std.proofs.Common.{◌≡◌, Bool, false, cond, List, [], ◌∷◌, ◌++◌, map, Option, Some, None, sym, ap, ◌∙◌}
use Rattle.std.specs.List.{filter_map, find}
use Rattle.std.specs.Option.{option_map_or}
use Rattle.std.proofs.lemmas.List.{append-nil, map-append, reverse-append}
use Rattle.std.proofs.lemmas.List.Elements.{filter_map-append}
use Rattle.dl_model.specs.Along.{last_that}

-- those that are there
abbrev pub there : {X : Type 0} → List (Option X) → List X
there xs = filter_map (λ x. x) xs

pub there_more : {X : Type 0} (xs : List (Option X)) (x : X) → there (xs ++ Some x ∷ []) ≡ there xs ++ x ∷ []
there_more xs x = filter_map-append (λ o. o) xs (Some x ∷ [])

pub all_more : {X : Type 0} (xs : List (Option X)) (x : X) → xs ≡ map (λ y. Some y) (there xs) → xs ++ Some x ∷ [] ≡ map (λ y. Some y) (there (xs ++ Some x ∷ []))
all_more xs x all =
    ap (λ l. l ++ Some x ∷ []) all ∙ sym (map-append (λ y. Some y) (there xs) (x ∷ [])) ∙ ap (map (λ y. Some y)) (sym (there_more xs x))

-- the last that passes
pub last_more : {X : Type 0} (p : X → Bool) (xs : List X) (x : X) → last_that p (xs ++ x ∷ []) ≡ cond (p x) (Some x) (last_that p xs)
last_more p xs x = ap (find p) (reverse-append xs (x ∷ []))

-- with one entry more
pub last_there : {X : Type 0} (p : X → Bool) (xs : List (Option X)) (o : Option X) → last_that p (there (xs ++ o ∷ [])) ≡ cond (option_map_or p o false) o (last_that p (there xs))
last_there p xs None = ap (last_that p) (filter_map-append (λ o. o) xs (None ∷ []) ∙ append-nil (there xs))
last_there p xs (Some x) = ap (last_that p) (there_more xs x) ∙ last_more p (there xs) x
