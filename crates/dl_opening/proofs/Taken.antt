-- The lines so far, with one line more.
use Rattle.std.proofs.Common.{◌≡◌, ℕ, ◌+◌, ◌<◌, ◌≤◌, get_or, take, List, [], ◌∷◌, ◌++◌, length, Option, Some, None, refl, sym, ap, ◌∙◌, append-nil, arith}
use Rattle.std.specs.Prelude.{sum_by}
use Rattle.std.specs.List.{filter_map, flat_map}
use Rattle.std.specs.Option.{option_to_list}
use Rattle.std.proofs.lemmas.List.{take_more}
use Rattle.std.proofs.lemmas.List.Concat.{flat_map-append}
use Rattle.std.proofs.lemmas.List.Elements.{filter_map-append}
use Rattle.std.proofs.lemmas.List.Sums.{sum_by-append, sum_by-take-drop}

module _ {X : Type 0} (xs : List X) (place : ℕ) (x : X) (less : place < length xs) (is : x ≡ get_or xs place x) where
  pub taken : take (place + 1) xs ≡ take place xs ++ x ∷ []
  taken = take_more xs place x less ∙ ap (λ (y : X). take place xs ++ y ∷ []) (sym is)

  pub flat_map_taken : {Y : Type 0} (f : X → List Y) → flat_map f (take (place + 1) xs) ≡ flat_map f (take place xs) ++ f x
  flat_map_taken {Y} f = ap (flat_map f) taken ∙ flat_map-append f (take place xs) (x ∷ []) ∙ ap (λ (l : List Y). flat_map f (take place xs) ++ l) (append-nil (f x))

  one_given : {Y : Type 0} (h : X → Option Y) (o : Option Y) → h x ≡ o → filter_map h (x ∷ []) ≡ option_to_list o
  one_given h None none = rw none refl
  one_given h (Some y) some = rw some refl

  pub filter_map_taken : {Y : Type 0} (h : X → Option Y) (o : Option Y) → h x ≡ o → filter_map h (take (place + 1) xs) ≡ filter_map h (take place xs) ++ option_to_list o
  filter_map_taken {Y} h o said = ap (filter_map h) taken ∙ filter_map-append h (take place xs) (x ∷ []) ∙ ap (λ (l : List Y). filter_map h (take place xs) ++ l) (one_given h o said)

  pub none_taken : {Y : Type 0} (h : X → Option Y) → h x ≡ None → filter_map h (take (place + 1) xs) ≡ filter_map h (take place xs)
  none_taken h none = filter_map_taken h None none ∙ append-nil (filter_map h (take place xs))

  pub sum_taken : (f : X → ℕ) → sum_by f (take (place + 1) xs) ≡ sum_by f (take place xs) + f x
  sum_taken f = let one = sum_by-append f (take place xs) (x ∷ []) in let same = ap (sum_by f) taken in let last : sum_by f (x ∷ []) ≡ f x = omega arith in omega (arith, one, same, last)

  pub sum_fits : (f : X → ℕ) → sum_by f (take place xs) + f x ≤ sum_by f xs
  sum_fits f =
      let all = sum_by-take-drop f xs (place + 1) in
      let one = sum_taken f in
      omega (arith, all, one)
