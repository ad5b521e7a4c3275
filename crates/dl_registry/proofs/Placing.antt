-- The value that has a number, among entries of which each has several, where all of these are apart.
use Rattle.std.proofs.Common.{◌≡◌, inl, inr, ℕ, Bool, true, false, cond, List, [], ◌∷◌, ◌++◌, reverse, Option, Some, None, is_some, refl, sym, ap, subst, ◌∙◌, true≢false}
use Rattle.std.specs.Prelude.{nat_eq, ◌||◌}
use Rattle.std.specs.List.{AllByRecursion, IsDistinct, find, flat_map, list_any}
use Rattle.std.specs.Map.{lookup, set_value, remove_entry, values_of}
use Rattle.std.specs.Option.{option_or}
use Rattle.std.proofs.lemmas.Bool.Decides.{eqb_tells}
use Rattle.std.proofs.lemmas.List.{map-append, reverse-append}
use Rattle.std.proofs.lemmas.List.Folds.{find-append, list_any-append}
use Rattle.std.proofs.lemmas.Map.Keys.{IsDistinct-head, IsDistinct-tail}
use Rattle.dl_model.proofs.Placed.{all-right, apart-right}

-- ---- numbers of a list

pub none_any : (n : ℕ) (ns : List ℕ) → AllByRecursion (λ y. nat_eq n y ≡ false) ns → list_any (nat_eq n) ns ≡ false
none_any n [] none = refl
none_any n (x ∷ ns) none = ap (λ b. b || list_any (nat_eq n) ns) none.0 ∙ none_any n ns none.1

-- a number of the second part is none of the first
pub not_both : (n : ℕ) (xs ys : List ℕ) → IsDistinct nat_eq (xs ++ ys) → list_any (nat_eq n) ys ≡ true → list_any (nat_eq n) xs ≡ false
not_both n [] ys apart is = refl
not_both n (x ∷ xs) ys apart is = elim (eqb_tells n x) [
  | inl here ↦
      let none : list_any (nat_eq n) ys ≡ false =
      subst (λ k. list_any (nat_eq k) ys ≡ false) (sym here.1) (none_any x ys (all-right (λ y. nat_eq x y ≡ false) xs ys (IsDistinct-head nat_eq x (xs ++ ys) apart))) in
      absurd (true≢false (sym is ∙ none))
  | inr other ↦ ap (λ b. b || list_any (nat_eq n) xs) other.0 ∙ not_both n xs ys (IsDistinct-tail nat_eq x (xs ++ ys) apart) is
]

-- two tests that cannot both hold may be made in either order
either_first : {B : Type 0} (a b : Bool) (x y r : B) → (a ≡ true → b ≡ true → ⊥) → cond a x (cond b y r) ≡ cond b y (cond a x r)
either_first true true x y r apart = absurd (apart refl refl)
either_first true false x y r apart = refl
either_first false b x y r apart = refl

module _ {A : Type 0} (g : A → List ℕ) where
  abbrev pub has : ℕ → A → Bool
  has n x = list_any (nat_eq n) (g x)

  -- the first value that has the number
  abbrev pub placed : ℕ → List (List ℕ × A) → Option A
  placed n es = find (has n) (values_of es)

  abbrev pub all_of : List (List ℕ × A) → List ℕ
  all_of es = flat_map (λ e. g e.1) es

  pub placed-push : (n : ℕ) (es : List (List ℕ × A)) (k : List ℕ) (v : A) → placed n (es ++ (k, v) ∷ []) ≡ option_or (placed n es) (cond (has n v) (Some v) None)
  placed-push n es k v = ap (find (has n)) (map-append (λ e. e.1) es ((k, v) ∷ [])) ∙ find-append (has n) (values_of es) (v ∷ [])

  -- whether a value has the number, by the numbers
  pub placed_tells : (n : ℕ) (es : List (List ℕ × A)) → is_some (placed n es) ≡ list_any (nat_eq n) (all_of es)
  placed_tells n [] = refl
  placed_tells n (e ∷ es) = by (has n e.1) (placed_tells n es) ∙ sym (list_any-append (nat_eq n) (g e.1) (all_of es)) where
    by : (b : Bool) → is_some (placed n es) ≡ list_any (nat_eq n) (all_of es) → is_some (cond b (Some e.1) (placed n es)) ≡ (b || list_any (nat_eq n) (all_of es))
    by true rest = refl
    by false rest = rest

  pub placed-free : (n : ℕ) (es : List (List ℕ × A)) → list_any (nat_eq n) (all_of es) ≡ false → placed n es ≡ None
  placed-free n es free = none (placed n es) (placed_tells n es ∙ free) where
    none : (o : Option A) → is_some o ≡ false → o ≡ None
    none None is = refl
    none (Some x) is = absurd (true≢false is)

  -- the numbers of what was found are among all
  member : (n : ℕ) (test : List ℕ → Bool) (es : List (List ℕ × A)) (v : A) → lookup test es ≡ Some v → has n v ≡ true → list_any (nat_eq n) (all_of es) ≡ true
  member n test [] v found is = absurd (cc found)
  member n test (e ∷ es) v found is = list_any-append (nat_eq n) (g e.1) (all_of es) ∙ by (test e.0) found (λ rest. member n test es v rest is) where
    or_true : (b : Bool) → (b || true) ≡ true
    or_true true = refl
    or_true false = refl

    by : (b : Bool) → cond b (Some e.1) (lookup test es) ≡ Some v → (lookup test es ≡ Some v → list_any (nat_eq n) (all_of es) ≡ true) → (has n e.1 || list_any (nat_eq n) (all_of es)) ≡ true
    by true here rest = let same : e.1 ≡ v = cc here in ap (λ x. has n x || list_any (nat_eq n) (all_of es)) same ∙ ap (λ b. b || list_any (nat_eq n) (all_of es)) is
    by false here rest = ap (λ b. has n e.1 || b) (rest here) ∙ or_true (has n e.1)

  -- a number leads to the one that has it
  pub placed-found : (n : ℕ) (test : List ℕ → Bool) (es : List (List ℕ × A)) (v : A) → lookup test es ≡ Some v → IsDistinct nat_eq (all_of es) → has n v ≡ true → placed n es ≡ Some v
  placed-found n test [] v found apart is = absurd (cc found)
  placed-found n test (e ∷ es) v found apart is = by (test e.0) found (λ rest. placed-found n test es v rest (apart-right (g e.1) (all_of es) apart) is) where
    by : (b : Bool) → cond b (Some e.1) (lookup test es) ≡ Some v → (lookup test es ≡ Some v → placed n es ≡ Some v) → placed n (e ∷ es) ≡ Some v
    by true here rest =
        let same : e.1 ≡ v = cc here in
        ap (λ b. cond b (Some e.1) (placed n es)) (ap (has n) same ∙ is) ∙ ap Some same
    by false here rest =
        let other : has n e.1 ≡ false = not_both n (g e.1) (all_of es) apart (member n test es v here is) in
        ap (λ b. cond b (Some e.1) (placed n es)) other ∙ rest here

  found_again : (test : List ℕ → Bool) (es : List (List ℕ × A)) (v w : A) → lookup test es ≡ Some v → lookup test (set_value test es w) ≡ Some w
  found_again test [] v w found = absurd (cc found)
  found_again test (e ∷ es) v w found = by (test e.0) refl found (λ is. found_again test es v w is) where
    by : (b : Bool) → test e.0 ≡ b → cond b (Some e.1) (lookup test es) ≡ Some v → (lookup test es ≡ Some v → lookup test (set_value test es w) ≡ Some w) → lookup test (cond b ((e.0, w) ∷ es) (e ∷ set_value test es w)) ≡ Some w
    by true is here rest = ap (λ b. cond b (Some w) (lookup test es)) is
    by false is here rest = ap (λ b. cond b (Some e.1) (lookup test (set_value test es w))) is ∙ rest here

  -- another value in its place, which has its numbers and maybe others
  pub placed-set_value : (n : ℕ) (test : List ℕ → Bool) (es : List (List ℕ × A)) (v w : A) → lookup test es ≡ Some v → IsDistinct nat_eq (all_of (set_value test es w)) → (has n v ≡ true → has n w ≡ true)
      → placed n (set_value test es w) ≡ cond (has n w) (Some w) (placed n es)
  placed-set_value n test [] v w found apart keeps = absurd (cc found)
  placed-set_value n test (e ∷ es) v w found apart keeps = by (test e.0) found apart (λ is less. placed-set_value n test es v w is less keeps) where
    by : (b : Bool) → cond b (Some e.1) (lookup test es) ≡ Some v → IsDistinct nat_eq (all_of (cond b ((e.0, w) ∷ es) (e ∷ set_value test es w)))
        → (lookup test es ≡ Some v → IsDistinct nat_eq (all_of (set_value test es w)) → placed n (set_value test es w) ≡ cond (has n w) (Some w) (placed n es))
        → placed n (cond b ((e.0, w) ∷ es) (e ∷ set_value test es w)) ≡ cond (has n w) (Some w) (placed n (e ∷ es))
    by true here apart rest = within (has n w) refl (has n e.1) refl where
      same : e.1 ≡ v
      same = cc here

      within : (b : Bool) → has n w ≡ b → (c : Bool) → has n e.1 ≡ c → cond b (Some w) (placed n es) ≡ cond b (Some w) (cond c (Some e.1) (placed n es))
      within true is c old = refl
      within false is false old = refl
      within false is true old = absurd (true≢false (sym (keeps (sym (ap (has n) same) ∙ old)) ∙ is))
    by false here apart rest =
        ap (cond (has n e.1) (Some e.1)) (rest here (apart-right (g e.1) (all_of (set_value test es w)) apart))
        ∙ either_first (has n e.1) (has n w) (Some e.1) (Some w) (placed n es)
        (λ old new. true≢false (sym old ∙ not_both n (g e.1) (all_of (set_value test es w)) apart (member n test (set_value test es w) w (found_again test es v w here) new)))

  -- the value gone
  pub placed-remove : (n : ℕ) (test : List ℕ → Bool) (es : List (List ℕ × A)) (v : A) → lookup test es ≡ Some v → IsDistinct nat_eq (all_of es)
      → placed n (remove_entry test es) ≡ cond (has n v) None (placed n es)
  placed-remove n test [] v found apart = absurd (cc found)
  placed-remove n test (e ∷ es) v found apart = by (test e.0) found (λ is. placed-remove n test es v is (apart-right (g e.1) (all_of es) apart)) where
    by : (b : Bool) → cond b (Some e.1) (lookup test es) ≡ Some v → (lookup test es ≡ Some v → placed n (remove_entry test es) ≡ cond (has n v) None (placed n es))
        → placed n (cond b es (e ∷ remove_entry test es)) ≡ cond (has n v) None (placed n (e ∷ es))
    by true here rest = within (has n e.1) refl ∙ ap (λ x. cond (has n x) None (placed n (e ∷ es))) same where
      same : e.1 ≡ v
      same = cc here

      within : (b : Bool) → has n e.1 ≡ b → placed n es ≡ cond b None (cond b (Some e.1) (placed n es))
      within true is = placed-free n es (absent (list_any (nat_eq n) (all_of es)) refl) where
        absent : (c : Bool) → list_any (nat_eq n) (all_of es) ≡ c → c ≡ false
        absent false there = refl
        absent true there = absurd (true≢false (sym is ∙ not_both n (g e.1) (all_of es) apart there))
      within false is = refl
    by false here rest =
        ap (cond (has n e.1) (Some e.1)) (rest here)
        ∙ either_first (has n e.1) (has n v) (Some e.1) None (placed n es) (λ old gone. true≢false (sym old ∙ not_both n (g e.1) (all_of es) apart (member n test es v here gone)))

  -- the last value that has the number, where numbers are apart, is the first
  pub placed-reverse : (n : ℕ) (es : List (List ℕ × A)) → IsDistinct nat_eq (all_of es) → find (has n) (reverse (values_of es)) ≡ placed n es
  placed-reverse n [] apart = refl
  placed-reverse n (e ∷ es) apart =
      ap (find (has n)) (reverse-append (e.1 ∷ []) (values_of es))
      ∙ (find-append (has n) (reverse (values_of es)) (e.1 ∷ [])
      ∙ (ap (λ o. option_or o (cond (has n e.1) (Some e.1) None)) (placed-reverse n es (apart-right (g e.1) (all_of es) apart))
      ∙ within (has n e.1) refl))
    where
      or_none : (o : Option A) → option_or o None ≡ o
      or_none None = refl
      or_none (Some x) = refl

      within : (b : Bool) → has n e.1 ≡ b → option_or (placed n es) (cond b (Some e.1) None) ≡ cond b (Some e.1) (placed n es)
      within true is = ap (λ o. option_or o (Some e.1)) (placed-free n es (absent (list_any (nat_eq n) (all_of es)) refl)) where
        absent : (c : Bool) → list_any (nat_eq n) (all_of es) ≡ c → c ≡ false
        absent false there = refl
        absent true there = absurd (true≢false (sym is ∙ not_both n (g e.1) (all_of es) apart there))
      within false is = or_none (placed n es)
