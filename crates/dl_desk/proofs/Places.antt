-- What is at a place of a list, after a change there.
use Rattle.std.proofs.Common.{◌≡◌, ◌≢◌, ℕ, zero, suc, ◌<◌, List, [], ◌∷◌, length, map, set, get_or, Some, slice_get, refl, sym, ap, ◌∙◌, subst, arith}
use Rattle.dl_desk.specs.Lists.{At, changed_at}

module _ {A : Type 0} where
  -- a changed entry that is put back
  pub set_is_changed : (xs : List A) (at place : ℕ) (f : A → A) (here new : A) → at ≡ place → here ≡ get_or xs at here → new ≡ f here → set xs at new ≡ changed_at place f xs
  set_is_changed xs at place f here new same is made =
      subst (λ (p : ℕ). set xs p new ≡ changed_at place f xs) (sym same) (put xs place (is ∙ ap (λ p. get_or xs p here) same)) where
        put : (ys : List A) (p : ℕ) → here ≡ get_or ys p here → set ys p new ≡ changed_at p f ys
        put [] p is = refl
        put (y ∷ ys) zero is = ap (λ z. z ∷ ys) (made ∙ ap f is)
        put (y ∷ ys) (suc p) is = ap (λ zs. y ∷ zs) (put ys p is)

  -- what holds of the entry that is put holds at its place
  pub at_put : (P : A → Type 0) (xs : List A) (at place : ℕ) (new : A) → at ≡ place → P new → At (set xs at new) place P
  at_put P xs at place new same holds = subst (λ (p : ℕ). At (set xs p new) place P) (sym same) (put xs place) where
    put : (ys : List A) (p : ℕ) → At (set ys p new) p P
    put [] p x e = absurd cc
    put (y ∷ ys) zero x e = let is : new ≡ x = cc in subst P is holds
    put (y ∷ ys) (suc p) x e = put ys p x e

  -- and what holds of the entry that is read holds at its place
  pub at_here : (P : A → Type 0) (xs : List A) (at place : ℕ) (here : A) → at ≡ place → here ≡ get_or xs at here → P here → At xs place P
  at_here P xs at place here same is holds = read xs place (is ∙ ap (λ p. get_or xs p here) same) where
    read : (ys : List A) (p : ℕ) → here ≡ get_or ys p here → At ys p P
    read [] p is x e = absurd cc
    read (y ∷ ys) zero is x e = let same : y ≡ x = cc in subst P (is ∙ same) holds
    read (y ∷ ys) (suc p) is x e = read ys p is x e

  -- ---- after a change

  pub length-changed_at : (place : ℕ) (f : A → A) (xs : List A) → length (changed_at place f xs) ≡ length xs
  length-changed_at place f [] = refl
  length-changed_at zero f (x ∷ xs) = refl
  length-changed_at (suc place) f (x ∷ xs) = ap (λ n. suc n) (length-changed_at place f xs)

  -- what holds of the changed entry holds there
  pub changed_here : (P : A → Type 0) (place : ℕ) (f : A → A) (xs : List A) → At xs place (λ x. P (f x)) → At (changed_at place f xs) place P
  changed_here P place f [] holds x e = absurd cc
  changed_here P zero f (y ∷ xs) holds x e = let is : f y ≡ x = cc in subst P is (holds y refl)
  changed_here P (suc place) f (y ∷ xs) holds x e = changed_here P place f xs holds x e

  -- another place has what it had
  pub changed_else : (P : A → Type 0) (place other : ℕ) (f : A → A) (xs : List A) → other ≢ place → At xs other P → At (changed_at place f xs) other P
  changed_else P place other f [] apart holds x e = absurd cc
  changed_else P zero zero f (y ∷ xs) apart holds x e = absurd (apart refl)
  changed_else P zero (suc other) f (y ∷ xs) apart holds x e = holds x e
  changed_else P (suc place) zero f (y ∷ xs) apart holds x e = holds x e
  changed_else P (suc place) (suc other) f (y ∷ xs) apart holds x e = changed_else P place other f xs (λ same. apart (ap suc same)) holds x e

  -- a part that the change leaves is the same of each
  pub map-changed_at : {B : Type 0} (g : A → B) (place : ℕ) (f : A → A) (xs : List A) → ((x : A) → g (f x) ≡ g x) → map g (changed_at place f xs) ≡ map g xs
  map-changed_at g place f [] same = refl
  map-changed_at g zero f (x ∷ xs) same = ap (λ y. y ∷ map g xs) (same x)
  map-changed_at g (suc place) f (x ∷ xs) same = ap (λ ys. g x ∷ ys) (map-changed_at g place f xs same)

  -- and with one put there
  pub at_set : (P : ℕ → A → Type 0) (xs : List A) (at place : ℕ) (new : A) → at ≡ place → P place new → ((n : ℕ) → n ≢ place → At xs n (P n)) → (n : ℕ) → At (set xs at new) n (P n)
  at_set P xs at place new same here others = subst (λ (p : ℕ). (n : ℕ) → At (set xs p new) n (P n)) (sym same) (put P xs place here others) where
    put : (Q : ℕ → A → Type 0) (ys : List A) (p : ℕ) → Q p new → ((n : ℕ) → n ≢ p → At ys n (Q n)) → (n : ℕ) → At (set ys p new) n (Q n)
    put Q [] p here others n x e = absurd cc
    put Q (y ∷ ys) zero here others zero x e = let is : new ≡ x = cc in subst (Q 0) is here
    put Q (y ∷ ys) zero here others (suc n) x e = others (suc n) (λ same. omega (arith, same)) x e
    put Q (y ∷ ys) (suc p) here others zero x e = others 0 (λ same. omega (arith, same)) x e
    put Q (y ∷ ys) (suc p) here others (suc n) x e = put (λ k. Q (suc k)) ys p here (λ k apart. others (suc k) (λ same. apart (omega (arith, same)))) n x e

  -- an entry that is there
  pub there : (xs : List A) (at place : ℕ) (d : A) → at ≡ place → place < length xs → slice_get xs place ≡ Some (get_or xs at d)
  there xs at place d same within = subst (λ (p : ℕ). slice_get xs place ≡ Some (get_or xs p d)) (sym same) (read xs place within) where
    read : (ys : List A) (p : ℕ) → p < length ys → slice_get ys p ≡ Some (get_or ys p d)
    read [] p within = absurd (omega (arith, within))
    read (y ∷ ys) zero within = refl
    read (y ∷ ys) (suc p) within = read ys p (omega (arith, within))

  pub length-put : (xs : List A) (at : ℕ) (new : A) → length (set xs at new) ≡ length xs
  length-put [] at new = refl
  length-put (x ∷ xs) zero new = refl
  length-put (x ∷ xs) (suc at) new = ap (λ n. suc n) (length-put xs at new)

  -- what the change keeps holds wherever it held
  pub changed_keeps : (P : A → Type 0) (place n : ℕ) (f : A → A) (xs : List A) → ((x : A) → P x → P (f x)) → At xs n P → At (changed_at place f xs) n P
  changed_keeps P place n f [] keeps holds x e = absurd cc
  changed_keeps P zero zero f (y ∷ xs) keeps holds x e = let is : f y ≡ x = cc in subst P is (keeps y (holds y refl))
  changed_keeps P zero (suc n) f (y ∷ xs) keeps holds x e = holds x e
  changed_keeps P (suc place) zero f (y ∷ xs) keeps holds x e = holds x e
  changed_keeps P (suc place) (suc n) f (y ∷ xs) keeps holds x e = changed_keeps P place n f xs keeps holds x e

  -- what a part of each entry is at a place
  pub mapped_at : {B : Type 0} (g : A → B) (xs : List A) (n : ℕ) (y : B) → slice_get (map g xs) n ≡ Some y → At xs n (λ x. y ≡ g x)
  mapped_at g [] n y is x e = absurd cc
  mapped_at g (z ∷ xs) zero y is x e = let same : z ≡ x = cc in let it : g z ≡ y = cc in sym it ∙ ap g same
  mapped_at g (z ∷ xs) (suc n) y is x e = mapped_at g xs n y is x e

  pub mapped_within : {B : Type 0} (g : A → B) (xs : List A) (n : ℕ) (y : B) → slice_get (map g xs) n ≡ Some y → n < length xs
  mapped_within g [] n y is = absurd cc
  mapped_within g (z ∷ xs) zero y is = omega arith
  mapped_within g (z ∷ xs) (suc n) y is = let rest = mapped_within g xs n y is in omega (arith, rest)
