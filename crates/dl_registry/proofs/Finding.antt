-- The value that has a number, among entries whose numbers are apart.
use Rattle.std.proofs.Common.{◌≡◌, inl, inr, ℕ, Bool, true, false, cond, List, [], ◌∷◌, ◌++◌, map, Option, Some, None, refl, sym, ap, subst, ◌∙◌, true≢false}
use Rattle.std.specs.Prelude.{nat_eq, ◌==◌}
use Rattle.std.specs.List.{AllByRecursion, IsDistinct, find}
use Rattle.std.specs.Map.{lookup, set_value, remove_entry, values_of}
use Rattle.std.specs.Option.{option_map, option_or}
use Rattle.std.proofs.lemmas.Bool.Decides.{eqb_tells}
use Rattle.std.proofs.lemmas.List.{map-append}
use Rattle.std.proofs.lemmas.List.Folds.{find-append}
use Rattle.std.proofs.lemmas.Map.Keys.{IsDistinct-head, IsDistinct-tail}
use Rattle.dl_lemmas.proofs.Numbers.{nat_eq_same}

-- two tests that cannot both hold may be made in either order
either_first : {B : Type 0} (a b n : ℕ) (x y r : B) → nat_eq a b ≡ false → cond (nat_eq a n) x (cond (nat_eq b n) y r) ≡ cond (nat_eq b n) y (cond (nat_eq a n) x r)
either_first a b n x y r apart = elim (eqb_tells a n) [
  | inl here ↦ elim (eqb_tells b n) [
    | inl there ↦ absurd (true≢false (sym (nat_eq_same b) ∙ (ap (λ k. nat_eq k b) (there.1 ∙ sym here.1) ∙ apart)))
    | inr there ↦ ap (λ t. cond t x (cond (nat_eq b n) y r)) here.0 ∙ sym (ap (λ t. cond t y (cond (nat_eq a n) x r)) there.0 ∙ ap (λ t. cond t x r) here.0)
  ]
  | inr other ↦ ap (λ t. cond t x (cond (nat_eq b n) y r)) other.0 ∙ sym (ap (λ t. cond (nat_eq b n) y (cond t x r)) other.0)
]

module _ {A : Type 0} (f : A → ℕ) where
  -- the first value that has the number
  abbrev pub valued : ℕ → List (List ℕ × A) → Option A
  valued n es = find (λ x. f x == n) (values_of es)

  abbrev pub numbers_of : List (List ℕ × A) → List ℕ
  numbers_of es = map (λ e. f e.1) es

  pub valued-push : (n : ℕ) (es : List (List ℕ × A)) (k : List ℕ) (v : A) → valued n (es ++ (k, v) ∷ []) ≡ option_or (valued n es) (cond (f v == n) (Some v) None)
  valued-push n es k v = ap (find (λ x. f x == n)) (map-append (λ e. e.1) es ((k, v) ∷ [])) ∙ find-append (λ x. f x == n) (values_of es) (v ∷ [])

  -- a number that no entry has
  pub valued-absent : (n : ℕ) (es : List (List ℕ × A)) → AllByRecursion (λ y. nat_eq n y ≡ false) (numbers_of es) → valued n es ≡ None
  valued-absent n [] none = refl
  valued-absent n (e ∷ es) none = elim (eqb_tells (f e.1) n) [
    | inl here ↦ absurd (true≢false (sym (nat_eq_same n) ∙ (ap (nat_eq n) (sym here.1) ∙ none.0)))
    | inr other ↦ ap (λ t. cond t (Some e.1) (valued n es)) other.0 ∙ valued-absent n es none.1
  ]

  -- what holds of each number holds of the one that was found
  of_found : (P : ℕ → Type 0) (test : List ℕ → Bool) (es : List (List ℕ × A)) (v : A) → lookup test es ≡ Some v → AllByRecursion P (numbers_of es) → P (f v)
  of_found P test [] v found all = absurd (cc found)
  of_found P test (e ∷ es) v found all = by (test e.0) found (λ is. of_found P test es v is all.1) where
    by : (b : Bool) → cond b (Some e.1) (lookup test es) ≡ Some v → (lookup test es ≡ Some v → P (f v)) → P (f v)
    by true is rest = let same : e.1 ≡ v = cc is in subst (λ x. P (f x)) same all.0
    by false is rest = rest is

  -- the number of what was found leads to it
  pub valued-found : (test : List ℕ → Bool) (es : List (List ℕ × A)) (v : A) → lookup test es ≡ Some v → IsDistinct nat_eq (numbers_of es) → valued (f v) es ≡ Some v
  valued-found test [] v found apart = absurd (cc found)
  valued-found test (e ∷ es) v found apart = by (test e.0) found (λ is. valued-found test es v is (IsDistinct-tail nat_eq (f e.1) (numbers_of es) apart)) where
    by : (b : Bool) → cond b (Some e.1) (lookup test es) ≡ Some v → (lookup test es ≡ Some v → valued (f v) es ≡ Some v) → valued (f v) (e ∷ es) ≡ Some v
    by true is rest =
        let same : e.1 ≡ v = cc is in
        ap (λ t. cond t (Some e.1) (valued (f v) es)) (ap (λ x. nat_eq (f x) (f v)) same ∙ nat_eq_same (f v)) ∙ ap Some same
    by false is rest =
        let other : nat_eq (f e.1) (f v) ≡ false = of_found (λ y. nat_eq (f e.1) y ≡ false) test es v is (IsDistinct-head nat_eq (f e.1) (numbers_of es) apart) in
        ap (λ t. cond t (Some e.1) (valued (f v) es)) other ∙ rest is

  -- another value of the same number in its place
  pub valued-set_value : (n : ℕ) (test : List ℕ → Bool) (es : List (List ℕ × A)) (v w : A) → lookup test es ≡ Some v → f w ≡ f v → IsDistinct nat_eq (numbers_of es)
      → valued n (set_value test es w) ≡ cond (f v == n) (Some w) (valued n es)
  valued-set_value n test [] v w found same apart = absurd (cc found)
  valued-set_value n test (e ∷ es) v w found same apart = by (test e.0) found (λ is. valued-set_value n test es v w is same (IsDistinct-tail nat_eq (f e.1) (numbers_of es) apart)) where
    by : (b : Bool) → cond b (Some e.1) (lookup test es) ≡ Some v → (lookup test es ≡ Some v → valued n (set_value test es w) ≡ cond (f v == n) (Some w) (valued n es)) → valued n (cond b ((e.0, w) ∷ es) (e ∷ set_value test es w)) ≡ cond (f v == n) (Some w) (valued n (e ∷ es))
    by true is rest =
        let here : e.1 ≡ v = cc is in
        ap (λ k. cond (k == n) (Some w) (valued n es)) same ∙ within (f v == n) (ap (λ x. f x == n) here)
      where
        within : (b : Bool) → (f e.1 == n) ≡ b → cond b (Some w) (valued n es) ≡ cond b (Some w) (cond (f e.1 == n) (Some e.1) (valued n es))
        within true test_is = refl
        within false test_is = sym (ap (λ t. cond t (Some e.1) (valued n es)) test_is)
    by false is rest =
        let other : nat_eq (f e.1) (f v) ≡ false = of_found (λ y. nat_eq (f e.1) y ≡ false) test es v is (IsDistinct-head nat_eq (f e.1) (numbers_of es) apart) in
        ap (cond (f e.1 == n) (Some e.1)) (rest is)
        ∙ either_first (f e.1) (f v) n (Some e.1) (Some w) (valued n es) other

  -- the value gone
  pub valued-remove : (n : ℕ) (test : List ℕ → Bool) (es : List (List ℕ × A)) (v : A) → lookup test es ≡ Some v → IsDistinct nat_eq (numbers_of es)
      → valued n (remove_entry test es) ≡ cond (f v == n) None (valued n es)
  valued-remove n test [] v found apart = absurd (cc found)
  valued-remove n test (e ∷ es) v found apart = by (test e.0) found (λ is. valued-remove n test es v is (IsDistinct-tail nat_eq (f e.1) (numbers_of es) apart)) where
    by : (b : Bool) → cond b (Some e.1) (lookup test es) ≡ Some v → (lookup test es ≡ Some v → valued n (remove_entry test es) ≡ cond (f v == n) None (valued n es)) → valued n (cond b es (e ∷ remove_entry test es)) ≡ cond (f v == n) None (valued n (e ∷ es))
    by true is rest =
        let here : e.1 ≡ v = cc is in
        elim (eqb_tells (f v) n) [
          | inl same ↦
              valued-absent n es (subst (λ k. AllByRecursion (λ y. nat_eq k y ≡ false) (numbers_of es)) (ap f here ∙ same.1) (IsDistinct-head nat_eq (f e.1) (numbers_of es) apart))
              ∙ sym (ap (λ t. cond t None (valued n (e ∷ es))) same.0)
          | inr other ↦
              sym (ap (λ t. cond t None (valued n (e ∷ es))) other.0 ∙ ap (λ t. cond t (Some e.1) (valued n es)) (ap (λ x. f x == n) here ∙ other.0))
        ]
    by false is rest =
        let other : nat_eq (f e.1) (f v) ≡ false = of_found (λ y. nat_eq (f e.1) y ≡ false) test es v is (IsDistinct-head nat_eq (f e.1) (numbers_of es) apart) in
        ap (cond (f e.1 == n) (Some e.1)) (rest is)
        ∙ either_first (f e.1) (f v) n (Some e.1) None (valued n es) other
