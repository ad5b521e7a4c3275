-- What holds of each entry of a list, of its parts and of its images.
use Rattle.std.proofs.Common.{◌≡◌, ℕ, ◌+◌, Bool, true, false, true≢false, cond, List, [], ◌∷◌, ◌++◌, map, refl, sym, ap, ◌∙◌}
use Rattle.std.specs.Prelude.{All}
use Rattle.std.specs.List.{filter, flat_map}
use Rattle.std.proofs.lemmas.List.Elements.{All-append, All-nil, All-cons, All-head, All-tail}
use Rattle.dl_cells.specs.Views.{total}

module _ {X : Type 0} (P : X → Type 0) where
  pub all_last : (xs : List X) (y : X) → All P (xs ++ y ∷ []) → P y
  all_last [] y h = All-head P y [] h
  all_last (x ∷ xs) y h = all_last xs y (All-tail P x (xs ++ y ∷ []) h)

  pub all_mapped : {Y : Type 0} (f : Y → X) (ys : List Y) → All P (map f ys) → All (λ y. P (f y)) ys
  all_mapped f [] h = All-nil (λ y. P (f y))
  all_mapped f (y ∷ ys) h = All-cons (λ y. P (f y)) y ys (All-head P (f y) (map f ys) h) (all_mapped f ys (All-tail P (f y) (map f ys) h))

  -- of those that pass a test
  pub all_passing : (p : X → Bool) (xs : List X) → All P (filter p xs) → All (λ x. p x ≡ true → P x) xs
  all_passing p [] h = All-nil (λ x. p x ≡ true → P x)
  all_passing p (x ∷ xs) h = by_test (all_passing p xs) (p x) refl h where
    by_test : (All P (filter p xs) → All (λ x. p x ≡ true → P x) xs) → (b : Bool) → p x ≡ b → All P (cond b (x ∷ filter p xs) (filter p xs)) → All (λ x. p x ≡ true → P x) (x ∷ xs)
    by_test rest true is h = All-cons (λ x. p x ≡ true → P x) x xs (λ _. All-head P x (filter p xs) h) (rest (All-tail P x (filter p xs) h))
    by_test rest false is h = All-cons (λ x. p x ≡ true → P x) x xs (λ so. absurd (true≢false (sym so ∙ is))) (rest h)

  -- of lists that are put one behind the other
  pub all_flat : {Y : Type 0} (f : Y → List X) (ys : List Y) → All (λ y. All P (f y)) ys → All P (flat_map f ys)
  all_flat f [] h = All-nil P
  all_flat f (y ∷ ys) h = All-append P (f y) (flat_map f ys) (All-head (λ y. All P (f y)) y ys h) (all_flat f ys (All-tail (λ y. All P (f y)) y ys h))

  pub flat_all : {Y : Type 0} (f : Y → List X) (ys : List Y) → All P (flat_map f ys) → All (λ y. All P (f y)) ys
  flat_all f [] h = All-nil (λ y. All P (f y))
  flat_all f (y ∷ ys) h = All-cons (λ y. All P (f y)) y ys (all_before (f y) (flat_map f ys) h) (flat_all f ys (all_behind (f y) (flat_map f ys) h)) where
    all_before : (xs zs : List X) → All P (xs ++ zs) → All P xs
    all_before [] zs h = All-nil P
    all_before (x ∷ xs) zs h = All-cons P x xs (All-head P x (xs ++ zs) h) (all_before xs zs (All-tail P x (xs ++ zs) h))

    all_behind : (xs zs : List X) → All P (xs ++ zs) → All P zs
    all_behind [] zs h = h
    all_behind (x ∷ xs) zs h = all_behind xs zs (All-tail P x (xs ++ zs) h)

-- what so holds of those that pass a test
pub all_kept : {X : Type 0} (P Q : X → Type 0) (p : X → Bool) (xs : List X) → ((x : X) → p x ≡ true → P x → Q x) → All P xs → All Q (filter p xs)
all_kept P Q p [] so h = All-nil Q
all_kept P Q p (x ∷ xs) so h = by_test (all_kept P Q p xs so (All-tail P x xs h)) (p x) refl where
  by_test : All Q (filter p xs) → (b : Bool) → p x ≡ b → All Q (cond b (x ∷ filter p xs) (filter p xs))
  by_test rest true is = All-cons Q x (filter p xs) (so x is (All-head P x xs h)) rest
  by_test rest false is = rest

-- a total over the images
pub total-map : {A V : Type 0} (f : V → ℕ) (g : A → V) (xs : List A) → total f (map g xs) ≡ total (λ x. f (g x)) xs
total-map f g [] = refl
total-map f g (x ∷ xs) = ap (λ n. f (g x) + n) (total-map f g xs)
