-- Lists of which one entry changes, and two lists as one.
use Rattle.std.proofs.Common.{◌≡◌, ◌≢◌, ◌<◌, ◌≤◌, ◌-◌, ◌+◌, ℕ, zero, suc, List, [], ◌∷◌, ◌++◌, length, map, replicate, Some, refl, sym, ap, subst, pred, arith, slice_get, ◌∙◌}
use Rattle.std.specs.Prelude.{slice_set}
use Rattle.dl_lemmas.proofs.Lists.{last_or_before, set_here, set_other, within_of}
use Rattle.dl_rounds.proofs.ByPlace.{set_cases, set_length}
use Rattle.dl_machine.specs.State.{Changes, IsOne}

pub set_twice : {A : Type 0} (xs : List A) (i : ℕ) (x y : A) → slice_set (slice_set xs i x) i y ≡ slice_set xs i y
set_twice [] i x y = refl
set_twice (z ∷ zs) zero x y = refl
set_twice (z ∷ zs) (suc i) x y = ap (λ (ys : List _). z ∷ ys) (set_twice zs i x y)

-- one that was changed is changed once more
pub changes_on : {A : Type 0} (number : ℕ) (all : List A) (first was now : A) → IsOne number all first
    → Changes number was now (slice_set all (number - 1) was) (slice_set all (number - 1) now)
changes_on number all first was now there = record { there = set_here all (number - 1) first was there; is = sym (set_twice all (number - 1) was now) }

-- ---- behind the entries of the first list the second has nothing but this

pub record Beyond {A B : Type 0} (missing : B) (xs : List A) (ys : List B) : Type 0 where
  pub none : (place : ℕ) (y : B) → length xs ≤ place → slice_get ys place ≡ Some y → y ≡ missing

pub beyond_more : {A B : Type 0} (missing : B) (xs us : List A) (ys vs : List B) → length xs ≤ length us → vs ≡ ys → Beyond missing xs ys → Beyond missing us vs
beyond_more missing xs us ys vs long same beyond =
    record { none = λ place y above there. beyond.none place y (omega (arith, long, above)) (sym (ap (λ (ws : List _). slice_get ws place) same) ∙ there) }

pub beyond_set : {A B : Type 0} (missing : B) (xs us : List A) (ys vs : List B) (i : ℕ) (x u : A) (v : B) → slice_get xs i ≡ Some x → us ≡ slice_set xs i u → vs ≡ slice_set ys i v
    → Beyond missing xs ys → Beyond missing us vs
beyond_set missing xs us ys vs i x u v was is set beyond = record {
  none = λ other y above there. (let long : length us ≡ length xs = ap (λ (ws : List _). length ws) is ∙ set_length xs i u in
      let inside : i < length xs = within_of xs i x was in
      let apart : other ≢ i = (λ e. omega (arith, long, inside, above, e)) in
      beyond.none other y (omega (arith, long, above)) (sym (ap (λ (ws : List _). slice_get ws other) set ∙ set_other ys i other v apart) ∙ there));
}

-- ---- two lists as one: what the second lacks is this

module _ {A B C : Type 0} (make : A → B → C) (missing : B) where
  abbrev pub joined : List A → List B → List C
  joined [] ys = []
  joined (x ∷ xs) [] = make x missing ∷ joined xs []
  joined (x ∷ xs) (y ∷ ys) = make x y ∷ joined xs ys

  pub joined_set : (xs : List A) (ys : List B) (i : ℕ) (x u : A) (y v : B) → slice_get xs i ≡ Some x → slice_get ys i ≡ Some y
      → joined (slice_set xs i u) (slice_set ys i v) ≡ slice_set (joined xs ys) i (make u v)
  joined_set [] ys i x u y v there here = absurd (cc there)
  joined_set (z ∷ xs) [] i x u y v there here = absurd (cc here)
  joined_set (z ∷ xs) (w ∷ ys) zero x u y v there here = refl
  joined_set (z ∷ xs) (w ∷ ys) (suc i) x u y v there here = ap (λ (cs : List C). make z w ∷ cs) (joined_set xs ys i x u y v there here)

  pub joined_get : (xs : List A) (ys : List B) (i : ℕ) (x : A) (y : B) → slice_get xs i ≡ Some x → slice_get ys i ≡ Some y → slice_get (joined xs ys) i ≡ Some (make x y)
  joined_get [] ys i x y there here = absurd (cc there)
  joined_get (z ∷ xs) [] i x y there here = absurd (cc here)
  joined_get (z ∷ xs) (w ∷ ys) zero x y there here = cc (there, here)
  joined_get (z ∷ xs) (w ∷ ys) (suc i) x y there here = joined_get xs ys i x y there here

  -- what the second has for an entry of the first, or lacks; and so it is where that of the first changes
  pub joined_first : (xs : List A) (ys : List B) (i : ℕ) (x u : A) → slice_get xs i ≡ Some x
      → (y : B) × (slice_get (joined xs ys) i ≡ Some (make x y)) × (joined (slice_set xs i u) ys ≡ slice_set (joined xs ys) i (make u y))
  joined_first [] ys i x u there = absurd (cc there)
  joined_first (z ∷ xs) [] zero x u there = (missing, cc there, refl)
  joined_first (z ∷ xs) (w ∷ ys) zero x u there = (w, cc there, refl)
  joined_first (z ∷ xs) [] (suc i) x u there = let rest = joined_first xs [] i x u there in (rest.0, rest.1, ap (λ (cs : List C). make z missing ∷ cs) rest.2)
  joined_first (z ∷ xs) (w ∷ ys) (suc i) x u there = let rest = joined_first xs ys i x u there in (rest.0, rest.1, ap (λ (cs : List C). make z w ∷ cs) rest.2)

  -- one more of the first, for which the second has nothing else
  pub joined_more : (xs : List A) (ys : List B) (x : A) → ((y : B) → slice_get ys (length xs) ≡ Some y → y ≡ missing) → joined (xs ++ x ∷ []) ys ≡ joined xs ys ++ make x missing ∷ []
  joined_more [] [] x none = refl
  joined_more [] (y ∷ ys) x none = ap (λ (z : B). make x z ∷ []) (none y refl)
  joined_more (z ∷ xs) [] x none = ap (λ (cs : List C). make z missing ∷ cs) (joined_more xs [] x (λ y there. absurd (cc there)))
  joined_more (z ∷ xs) (y ∷ ys) x none = ap (λ (cs : List C). make z y ∷ cs) (joined_more xs ys x none)

  pub joined_length : (xs : List A) (ys : List B) → length (joined xs ys) ≡ length xs
  joined_length [] ys = refl
  joined_length (x ∷ xs) [] = ap suc (joined_length xs [])
  joined_length (x ∷ xs) (y ∷ ys) = ap suc (joined_length xs ys)

  -- what the second has behind its end is what it lacks
  pub joined_padded : (xs : List A) (ys : List B) (n : ℕ) → joined xs (ys ++ replicate n missing) ≡ joined xs ys
  joined_padded [] ys n = refl
  joined_padded (x ∷ xs) [] zero = refl
  joined_padded (x ∷ xs) [] (suc n) = ap (λ (cs : List C). make x missing ∷ cs) (joined_padded xs [] n)
  joined_padded (x ∷ xs) (y ∷ ys) n = ap (λ (cs : List C). make x y ∷ cs) (joined_padded xs ys n)

  -- what is seen of the first, and of the second
  pub joined_left : (f : C → A) → ((x : A) (y : B) → f (make x y) ≡ x) → (xs : List A) (ys : List B) → map f (joined xs ys) ≡ xs
  joined_left f same [] ys = refl
  joined_left f same (x ∷ xs) [] = λ i. same x missing i ∷ joined_left f same xs [] i
  joined_left f same (x ∷ xs) (y ∷ ys) = λ i. same x y i ∷ joined_left f same xs ys i

  pub joined_right : {D : Type 0} (f : C → D) (g : B → D) → ((x : A) (y : B) → f (make x y) ≡ g y) → (xs us : List A) (ys : List B) → length us ≡ length xs
      → map f (joined us ys) ≡ map f (joined xs ys)
  joined_right f g same [] [] ys long = refl
  joined_right f g same [] (u ∷ us) ys long = absurd (cc long)
  joined_right f g same (x ∷ xs) [] ys long = absurd (cc long)
  joined_right f g same (x ∷ xs) (u ∷ us) [] long =
      let rest : length us ≡ length xs = ap pred long in λ i. (same u missing ∙ sym (same x missing)) i ∷ joined_right f g same xs us [] rest i
  joined_right f g same (x ∷ xs) (u ∷ us) (y ∷ ys) long =
      let rest : length us ≡ length xs = ap pred long in λ i. (same u y ∙ sym (same x y)) i ∷ joined_right f g same xs us ys rest i

-- ---- what holds of each entry

abbrev pub EachOne : {A : Type 0} → (A → Type 0) → List A → Type 0
EachOne {A} P xs = (place : ℕ) (x : A) → slice_get xs place ≡ Some x → P x

-- it goes on where it holds of one that was changed, and of one more
pub each_changed : {A : Type 0} (P : A → Type 0) (number : ℕ) (was now : A) (old new : List A) → Changes number was now old new → (P was → P now) → EachOne P old → EachOne P new
each_changed P number was now old new c step all = λ place x at.
    set_cases P old (number - 1) place was now x c.there (λ same. step (all (number - 1) was c.there)) (λ apart there. all place x there) (subst (λ (ys : List _). slice_get ys place ≡ Some x) c.is at)

pub each_more : {A : Type 0} (P : A → Type 0) (xs : List A) (one : A) → P one → EachOne P xs → EachOne P (xs ++ one ∷ [])
each_more P xs one holds all = λ place x at. last_or_before xs one x place at (P x) (λ before. all place x before) (λ last same. subst P same holds)

pub replicate_at : {A : Type 0} (many place : ℕ) (x y : A) → slice_get (replicate many x) place ≡ Some y → y ≡ x
replicate_at zero place x y at = absurd (cc at)
replicate_at (suc many) zero x y at = sym (cc at)
replicate_at (suc many) (suc place) x y at = replicate_at many place x y at

-- by number, from 1
abbrev pub EachNumbered : {A : Type 0} → (ℕ → A → Type 0) → List A → Type 0
EachNumbered {A} P xs = (place : ℕ) (x : A) → slice_get xs place ≡ Some x → P (place + 1) x

-- it comes to this of one that was changed, and to that of the others
pub numbered_changed : {A : Type 0} (P Q : ℕ → A → Type 0) (number : ℕ) (was now : A) (old new : List A) → 1 ≤ number → Changes number was now old new
    → ((other : ℕ) (x : A) → 1 ≤ other → other ≢ number → P other x → Q other x) → (P number was → Q number now) → EachNumbered P old → EachNumbered Q new
numbered_changed P Q number was now old new low c others its all = λ place x at.
    set_cases (λ (y : _). Q (place + 1) y) old (number - 1) place was now x c.there
    (λ same. let number_is : number ≡ place + 1 = omega (arith, low, same) in
    let back : number - 1 + 1 ≡ number = omega (arith, low) in
    subst (λ (n : ℕ). Q n now) number_is (its (subst (λ (n : ℕ). P n was) back (all (number - 1) was c.there))))
    (λ apart there. others (place + 1) x (omega arith) (λ same. apart (omega (arith, same))) (all place x there))
    (subst (λ (ys : List _). slice_get ys place ≡ Some x) c.is at)
