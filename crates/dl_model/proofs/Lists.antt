-- Lists with one entry more at the end.
use Rattle.std.proofs.Common.{◌≡◌, ◌+◌, ◌-◌, Bool, true, false, cond, List, [], ◌∷◌, ◌++◌, length, drop, Some, refl, sym, ap, subst, ◌∙◌, append_assoc, length-append, arith}
use Rattle.std.specs.Prelude.{count_by, not}
use Rattle.std.specs.List.{find, prefix_len, suffix_len, after_last}
use Rattle.std.proofs.lemmas.List.Sums.{sum_by-append}
use Rattle.std.proofs.lemmas.List.{append-nil, reverse-append, drop-append-le}
use Rattle.std.proofs.Math.Seq.{drop-length}
use Rattle.dl_model.specs.Along.{along_from, along, last_that}

-- what is read along, where a list follows another one
pub along_from-append : {E A : Type 0} (f : List E → E → List A) (before xs ys : List E) → along_from f before (xs ++ ys) ≡ along_from f before xs ++ along_from f (before ++ xs) ys
along_from-append f before [] ys = ap (λ b. along_from f b ys) (sym (append-nil before))
along_from-append f before (x ∷ xs) ys =
    ap (λ t. f before x ++ t) (along_from-append f (before ++ x ∷ []) xs ys ∙ ap (λ b. along_from f (before ++ x ∷ []) xs ++ along_from f b ys) (append_assoc before (x ∷ []) xs))
    ∙ sym (append_assoc (f before x) (along_from f (before ++ x ∷ []) xs) (along_from f (before ++ x ∷ xs) ys))

-- one entry more
pub along-one : {E A : Type 0} (f : List E → E → List A) (xs : List E) (x : E) → along f (xs ++ x ∷ []) ≡ along f xs ++ f xs x
along-one f xs x = along_from-append f [] xs (x ∷ []) ∙ ap (λ t. along f xs ++ t) (append-nil (f xs x))

-- the last that passes, with one entry more
pub last_that-one : {E : Type 0} (p : E → Bool) (xs : List E) (x : E) → last_that p (xs ++ x ∷ []) ≡ cond (p x) (Some x) (last_that p xs)
last_that-one p xs x = ap (find p) (reverse-append xs (x ∷ []))

-- how many at the end pass, with one entry more
suffix_len-one : {E : Type 0} (p : E → Bool) (xs : List E) (x : E) → suffix_len p (xs ++ x ∷ []) ≡ cond (p x) (1 + suffix_len p xs) 0
suffix_len-one p xs x = ap (prefix_len p) (reverse-append xs (x ∷ []))

-- what stands after the last that passes, with one entry more
pub after_last-one : {E : Type 0} (p : E → Bool) (xs : List E) (x : E) → after_last p (xs ++ x ∷ []) ≡ cond (p x) [] (after_last p xs ++ x ∷ [])
after_last-one p xs x = after_by (p x) refl where
  after_by : (b : Bool) → p x ≡ b → after_last p (xs ++ x ∷ []) ≡ cond b [] (after_last p xs ++ x ∷ [])
  after_by true e =
      let none : suffix_len (λ y. not (p y)) (xs ++ x ∷ []) ≡ 0 = suffix_len-one (λ y. not (p y)) xs x ∙ ap (λ b. cond (not b) (1 + suffix_len (λ y. not (p y)) xs) 0) e in
      let all : length (xs ++ x ∷ []) - suffix_len (λ y. not (p y)) (xs ++ x ∷ []) ≡ length (xs ++ x ∷ []) = omega (arith, none) in
      ap (λ n. drop n (xs ++ x ∷ [])) all ∙ drop-length (xs ++ x ∷ [])
  after_by false e =
      let more : suffix_len (λ y. not (p y)) (xs ++ x ∷ []) ≡ 1 + suffix_len (λ y. not (p y)) xs = suffix_len-one (λ y. not (p y)) xs x ∙ ap (λ b. cond (not b) (1 + suffix_len (λ y. not (p y)) xs) 0) e in
      let same : length (xs ++ x ∷ []) - suffix_len (λ y. not (p y)) (xs ++ x ∷ []) ≡ length xs - suffix_len (λ y. not (p y)) xs = omega (arith, more, length-append xs (x ∷ [])) in
      ap (λ n. drop n (xs ++ x ∷ [])) same ∙ drop-append-le (length xs - suffix_len (λ y. not (p y)) xs) xs (x ∷ []) (omega arith)

-- how many pass, of two lists
pub count_by-append : {E : Type 0} (p : E → Bool) (xs ys : List E) → count_by p (xs ++ ys) ≡ count_by p xs + count_by p ys
count_by-append p xs ys = sum_by-append (λ x. cond (p x) 1 0) xs ys

-- what is found passes
pub find-passes : {E : Type 0} (p : E → Bool) (xs : List E) (x : E) → find p xs ≡ Some x → p x ≡ true
find-passes p [] x e = absurd cc
find-passes p (y ∷ xs) x e = by_test (p y) refl e (find-passes p xs x) where
  by_test : (b : Bool) → p y ≡ b → cond b (Some y) (find p xs) ≡ Some x → (find p xs ≡ Some x → p x ≡ true) → p x ≡ true
  by_test true is e later =
      let same : y ≡ x = cc in
      subst (λ z. p z ≡ true) same is
  by_test false is e later = later e
