-- Entries of which one at most has an id: what is done for an id, or asked of it, concerns no entry but that one.
use Rattle.std.proofs.Common.{◌≡◌, ◌≢◌, inl, inr, ℕ, suc, Bool, true, false, cond, List, [], ◌∷◌, ◌++◌, length, map, take, Option, Some, None, is_some, refl, sym, ap, ◌∙◌}
use Rattle.std.specs.Prelude.{◌||◌}
use Rattle.std.specs.List.{AllByRecursion, IsDistinct, filter, flat_map, list_any}
use Rattle.std.specs.Map.{keys_of, lookup, set_value}
use Rattle.std.specs.Option.{option_map_or}
use Rattle.std.specs.Str.{bytes_eq}
use Rattle.std.proofs.lemmas.Map.{NonePasses, none_passes_from_lookup}
use Rattle.std.proofs.lemmas.Map.Keys.{IsDistinct-head, IsDistinct-tail}
use Rattle.dl_bytes.specs.Id.{zero_id}
use Rattle.dl_model.specs.declared.context.Context.{Context}
use Rattle.dl_model.specs.Registry.{begins, is_pattern, matches, names, star_at}
use Rattle.dl_model.proofs.Presence.{bytes_tell, bytes_same, bytes_differ}

module _ {A : Type 0} (id : List ℕ) (v : A) (P : List (List ℕ × A) → Type 0)
    (here : (e : List ℕ × A) (es : List (List ℕ × A)) → id ≡ e.0 → e.1 ≡ v → NonePasses (bytes_eq id) es → P (e ∷ es))
    (behind : (e : List ℕ × A) (es : List (List ℕ × A)) → bytes_eq id e.0 ≡ false → P es → P (e ∷ es)) where
  others : (key : List ℕ) → id ≡ key → (es : List (List ℕ × A)) → AllByRecursion (λ y. bytes_eq key y ≡ false) (keys_of es) → NonePasses (bytes_eq id) es
  others key same [] none = tt
  others key same (e ∷ es) none = (ap (λ (k : List ℕ). bytes_eq k e.0) same ∙ none.0, others key same es none.1)

  -- what holds where the entry of the id comes first, and goes on with another entry before it
  by_named : (es : List (List ℕ × A)) → lookup (bytes_eq id) es ≡ Some v → IsDistinct bytes_eq (keys_of es) → P es
  by_named [] found apart = absurd (cc found)
  by_named (e ∷ es) found apart = elim (bytes_tell id e.0) [
    | inl same ↦
        let value : e.1 ≡ v = (let is : Some e.1 ≡ Some v = sym (ap (λ b. cond b (Some e.1) (lookup (bytes_eq id) es)) same.0) ∙ found in cc is) in
        here e es same.1 value (others e.0 same.1 es (IsDistinct-head bytes_eq e.0 (keys_of es) apart))
    | inr other ↦
        behind e es other.0 (by_named es (sym (ap (λ b. cond b (Some e.1) (lookup (bytes_eq id) es)) other.0) ∙ found) (IsDistinct-tail bytes_eq e.0 (keys_of es) apart))
  ]

module _ {A : Type 0} (id : List ℕ) where
  -- a change of what the id names alone
  module _ (change : List ℕ × A → List ℕ × A) (there : (e : List ℕ × A) → bytes_eq id e.0 ≡ false → change e ≡ e) where
    pub map-absent : (es : List (List ℕ × A)) → NonePasses (bytes_eq id) es → map change es ≡ es
    map-absent [] none = refl
    map-absent (e ∷ es) none = ap (λ x. x ∷ map change es) (there e none.0) ∙ ap (λ xs. e ∷ xs) (map-absent es none.1)

    pub map-named : (v w : A) → change (id, v) ≡ (id, w) → (es : List (List ℕ × A)) → lookup (bytes_eq id) es ≡ Some v → IsDistinct bytes_eq (keys_of es) → map change es ≡ set_value (bytes_eq id) es w
    map-named v w changed es found apart = by_named id v (λ xs. map change xs ≡ set_value (bytes_eq id) xs w)
        (λ e xs same value none.
        let first : change e ≡ (e.0, w) = (λ i. change (sym same i, value i)) ∙ (changed ∙ ap (λ (k : List ℕ). (k, w)) same) in
        (λ i. first i ∷ map-absent xs none i)
        ∙ sym (ap (λ b. cond b ((e.0, w) ∷ xs) (e ∷ set_value (bytes_eq id) xs w)) (ap (bytes_eq id) (sym same) ∙ bytes_same id)))
        (λ e xs other rest. (λ i. there e other i ∷ rest i) ∙ sym (ap (λ b. cond b ((e.0, w) ∷ xs) (e ∷ set_value (bytes_eq id) xs w)) other))
        es found apart

  -- a test that no other entry passes
  module _ (test : List ℕ × A → Bool) (there : (e : List ℕ × A) → bytes_eq id e.0 ≡ false → test e ≡ false) where
    pub any-absent : (es : List (List ℕ × A)) → NonePasses (bytes_eq id) es → list_any test es ≡ false
    any-absent [] none = refl
    any-absent (e ∷ es) none = ap (λ b. b || list_any test es) (there e none.0) ∙ any-absent es none.1

    pub any-named : (v : A) (es : List (List ℕ × A)) → lookup (bytes_eq id) es ≡ Some v → IsDistinct bytes_eq (keys_of es) → list_any test es ≡ test (id, v)
    any-named v es found apart = by_named id v (λ xs. list_any test xs ≡ test (id, v))
        (λ e xs same value none. (λ i. test (sym same i, value i) || any-absent xs none i) ∙ or_false (test (id, v)))
        (λ e xs other rest. ap (λ b. b || list_any test xs) (there e other) ∙ rest)
        es found apart
      where
        or_false : (b : Bool) → (b || false) ≡ b
        or_false true = refl
        or_false false = refl

  -- a list of which no other entry gives anything
  module _ {B : Type 0} (give : List ℕ × A → List B) (there : (e : List ℕ × A) → bytes_eq id e.0 ≡ false → give e ≡ []) where
    pub gives-absent : (es : List (List ℕ × A)) → NonePasses (bytes_eq id) es → flat_map give es ≡ []
    gives-absent [] none = refl
    gives-absent (e ∷ es) none = ap (λ xs. xs ++ flat_map give es) (there e none.0) ∙ gives-absent es none.1

    pub gives-named : (v : A) (es : List (List ℕ × A)) → lookup (bytes_eq id) es ≡ Some v → IsDistinct bytes_eq (keys_of es) → flat_map give es ≡ give (id, v)
    gives-named v es found apart = by_named id v (λ xs. flat_map give xs ≡ give (id, v))
        (λ e xs same value none. (λ i. give (sym same i, value i) ++ gives-absent xs none i) ∙ append_nil (give (id, v)))
        (λ e xs other rest. ap (λ ys. ys ++ flat_map give xs) (there e other) ∙ rest)
        es found apart
      where
        append_nil : (xs : List B) → xs ++ [] ≡ xs
        append_nil [] = refl
        append_nil (x ∷ xs) = ap (λ ys. x ∷ ys) (append_nil xs)

-- ---- an id that is not the zero id names itself alone, and one that is no pattern matches itself alone

or_true : (b : Bool) → (b || true) ≡ true
or_true true = refl
or_true false = refl

names-itself : (id : List ℕ) → names id id ≡ true
names-itself id = ap (λ b. bytes_eq id zero_id || b) (bytes_same id) ∙ or_true (bytes_eq id zero_id)

names-other : (id other : List ℕ) → bytes_eq id zero_id ≡ false → bytes_eq id other ≡ false → names id other ≡ false
names-other id other some apart = ap (λ b. b || bytes_eq id other) some ∙ apart

pub matches-itself : (id : List ℕ) → matches id id ≡ true
matches-itself id = ap (λ b. b || begins id id) (names-itself id)

-- no pattern: neither the zero id nor one that ends in `*`
plain : (zero : Bool) (star : Option ℕ) → (zero || is_some star) ≡ false → (zero ≡ false) × (star ≡ None)
plain true star is = absurd (cc is)
plain false (Some n) is = absurd (cc is)
plain false None is = (refl, refl)

pub matches-other : (id other : List ℕ) → is_pattern id ≡ false → bytes_eq id other ≡ false → matches id other ≡ false
matches-other id other single apart =
    let is = plain (bytes_eq id zero_id) (star_at id) single in
    ap (λ b. b || begins id other) (names-other id other is.0 apart)
    ∙ ap (λ o. option_map_or (λ n. bytes_eq (take n id) (take n other)) o false) is.1

-- entries by a test of their ids that the id alone passes
module _ (id : List ℕ) (test : List ℕ → Bool) (itself : test id ≡ true) (apart_fails : (other : List ℕ) → bytes_eq id other ≡ false → test other ≡ false) where
  passes-absent : (xs : List (List ℕ × Context)) → NonePasses (bytes_eq id) xs → filter (λ x. test x.0) xs ≡ []
  passes-absent [] none = refl
  passes-absent (x ∷ xs) none =
      ap (λ b. cond b (x ∷ filter (λ y. test y.0) xs) (filter (λ y. test y.0) xs)) (apart_fails x.0 none.0) ∙ passes-absent xs none.1

  passes-named : (context : Context) (xs : List (List ℕ × Context)) → lookup (bytes_eq id) xs ≡ Some context → IsDistinct bytes_eq (keys_of xs) → length (filter (λ x. test x.0) xs) ≡ 1
  passes-named context xs found apart = by_named id context (λ ys. length (filter (λ x. test x.0) ys) ≡ 1)
      (λ x ys same value none.
      ap (λ b. length (cond b (x ∷ filter (λ y. test y.0) ys) (filter (λ y. test y.0) ys))) (ap test (sym same) ∙ itself)
      ∙ ap (λ zs. length (x ∷ zs)) (passes-absent ys none))
      (λ x ys other rest. ap (λ b. length (cond b (x ∷ filter (λ y. test y.0) ys) (filter (λ y. test y.0) ys))) (apart_fails x.0 other) ∙ rest)
      xs found apart

module _ (ctid : List ℕ) (single : is_pattern ctid ≡ false) where
  pub filter-absent : (xs : List (List ℕ × Context)) → NonePasses (bytes_eq ctid) xs → filter (λ x. matches ctid x.0) xs ≡ []
  filter-absent = passes-absent ctid (matches ctid) (matches-itself ctid) (λ other apart. matches-other ctid other single apart)

  pub filter-named : (context : Context) (xs : List (List ℕ × Context)) → lookup (bytes_eq ctid) xs ≡ Some context → IsDistinct bytes_eq (keys_of xs) → length (filter (λ x. matches ctid x.0) xs) ≡ 1
  filter-named = passes-named ctid (matches ctid) (matches-itself ctid) (λ other apart. matches-other ctid other single apart)

-- how many contexts an id names, the zero id naming all
pub all-named : (ctid : List ℕ) → ctid ≡ zero_id → (xs : List (List ℕ × Context)) → length (filter (λ x. names ctid x.0) xs) ≡ length xs
all-named ctid zero [] = refl
all-named ctid zero (x ∷ xs) =
    let one : names ctid x.0 ≡ true = ap (λ b. b || bytes_eq ctid x.0) (ap (λ (k : List ℕ). bytes_eq k zero_id) zero) in
    ap (λ b. length (cond b (x ∷ filter (λ y. names ctid y.0) xs) (filter (λ y. names ctid y.0) xs))) one ∙ ap suc (all-named ctid zero xs)

pub one-named : (ctid : List ℕ) → ctid ≢ zero_id → (xs : List (List ℕ × Context)) → IsDistinct bytes_eq (keys_of xs)
    → length (filter (λ x. names ctid x.0) xs) ≡ cond (is_some (lookup (bytes_eq ctid) xs)) 1 0
one-named ctid some xs apart = by (lookup (bytes_eq ctid) xs) refl where
  alone : (other : List ℕ) → bytes_eq ctid other ≡ false → names ctid other ≡ false
  alone other is = names-other ctid other (bytes_differ ctid zero_id some) is

  by : (o : Option Context) → lookup (bytes_eq ctid) xs ≡ o → length (filter (λ x. names ctid x.0) xs) ≡ cond (is_some o) 1 0
  by None none = ap length (passes-absent ctid (names ctid) (names-itself ctid) alone xs (none_passes_from_lookup (bytes_eq ctid) xs none))
  by (Some context) found = passes-named ctid (names ctid) (names-itself ctid) alone context xs found apart
