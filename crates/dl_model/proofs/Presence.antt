-- Who is there is who registered and did not leave since.
use Rattle.std.proofs.Common.{◌≡◌, ◌≢◌, ℕ, ◌+◌, ◌-◌, ◌⊎◌, inl, inr, Bool, true, false, not, cond, List, [], ◌∷◌, ◌++◌, length, map, drop, Option, Some, None, refl, sym, ap, subst, true≢false, ◌∙◌, arith, length-append}
use Rattle.std.specs.Prelude.{◌||◌}
use Rattle.std.specs.List.{filter, list_any, prefix_len, suffix_len, after_last}
use Rattle.std.specs.Map.{lookup, set_value}
use Rattle.std.specs.Option.{option_map, option_or}
use Rattle.std.specs.Str.{bytes_eq}
use Rattle.std.proofs.lemmas.List.{reverse-append, drop-append-le}
use Rattle.std.proofs.lemmas.List.Folds.{list_any-append}
use Rattle.std.proofs.lemmas.Slice.Eq.{bytes_eq-Decides}
use Rattle.std.proofs.Math.Seq.{drop-length}
use Rattle.dl_lemmas.proofs.Options.{or_none}
use Rattle.dl_model.specs.declared.context.Context.{Context}
use Rattle.dl_model.specs.Registry.{App, Relevel, releveled_app, releveled_context}

-- ---- what stands after the last that passes, with one entry more

suffix_len-push : {A : Type 0} (p : A → Bool) (xs : List A) (x : A) → suffix_len p (xs ++ x ∷ []) ≡ cond (p x) (1 + suffix_len p xs) 0
suffix_len-push p xs x = ap (prefix_len p) (reverse-append xs (x ∷ []))

pub after_last-push : {A : Type 0} (p : A → Bool) (xs : List A) (x : A) → after_last p (xs ++ x ∷ []) ≡ cond (p x) [] (after_last p xs ++ x ∷ [])
after_last-push p xs x = by (p x) refl where
  by : (b : Bool) → p x ≡ b → after_last p (xs ++ x ∷ []) ≡ cond b [] (after_last p xs ++ x ∷ [])
  by true e =
      let none : suffix_len (λ y. not (p y)) (xs ++ x ∷ []) ≡ 0 = suffix_len-push (λ y. not (p y)) xs x ∙ ap (λ b. cond (not b) (1 + suffix_len (λ y. not (p y)) xs) 0) e in
      let all : length (xs ++ x ∷ []) - suffix_len (λ y. not (p y)) (xs ++ x ∷ []) ≡ length (xs ++ x ∷ []) = omega (arith, none) in
      ap (λ n. drop n (xs ++ x ∷ [])) all ∙ drop-length (xs ++ x ∷ [])
  by false e =
      let more : suffix_len (λ y. not (p y)) (xs ++ x ∷ []) ≡ 1 + suffix_len (λ y. not (p y)) xs = suffix_len-push (λ y. not (p y)) xs x ∙ ap (λ b. cond (not b) (1 + suffix_len (λ y. not (p y)) xs) 0) e in
      let same : length (xs ++ x ∷ []) - suffix_len (λ y. not (p y)) (xs ++ x ∷ []) ≡ length xs - suffix_len (λ y. not (p y)) xs = omega (arith, more, length-append xs (x ∷ [])) in
      ap (λ n. drop n (xs ++ x ∷ [])) same ∙ drop-append-le (length xs - suffix_len (λ y. not (p y)) xs) xs (x ∷ []) (omega arith)

-- whether something stays, with one message more
pub stays-push : {A : Type 0} (comes goes : A → Bool) (xs : List A) (x : A) → list_any comes (after_last goes (xs ++ x ∷ [])) ≡ cond (goes x) false (list_any comes (after_last goes xs) || comes x)
stays-push comes goes xs x = ap (list_any comes) (after_last-push goes xs x) ∙ by (goes x) where
  last : list_any comes (after_last goes xs ++ x ∷ []) ≡ (list_any comes (after_last goes xs) || comes x)
  last = list_any-append comes (after_last goes xs) (x ∷ []) ∙ ap (λ b. list_any comes (after_last goes xs) || b) (one (comes x)) where
    one : (b : Bool) → (b || false) ≡ b
    one true = refl
    one false = refl

  by : (b : Bool) → list_any comes (cond b [] (after_last goes xs ++ x ∷ [])) ≡ cond b false (list_any comes (after_last goes xs) || comes x)
  by true = refl
  by false = last

-- ---- ids

pub bytes_tell : (a b : List ℕ) → ((bytes_eq a b ≡ true) × (a ≡ b)) ⊎ ((bytes_eq a b ≡ false) × (a ≢ b))
bytes_tell a b = by (bytes_eq a b) refl where
  by : (t : Bool) → bytes_eq a b ≡ t → ((bytes_eq a b ≡ true) × (a ≡ b)) ⊎ ((bytes_eq a b ≡ false) × (a ≢ b))
  by true is = inl (is, (bytes_eq-Decides a b).0 is)
  by false is = inr (is, λ same. true≢false (sym ((bytes_eq-Decides a b).1 same) ∙ is))

pub same_bytes : (a b : List ℕ) → bytes_eq a b ≡ true → a ≡ b
same_bytes a b e = elim (bytes_tell a b) as (λ _. a ≡ b) [ inl same ↦ same.1 | inr other ↦ absurd cc ]

pub bytes_same : (a : List ℕ) → bytes_eq a a ≡ true
bytes_same a = (bytes_eq-Decides a a).1 refl

pub bytes_differ : (a b : List ℕ) → a ≢ b → bytes_eq a b ≡ false
bytes_differ a b differ = elim (bytes_tell a b) [ inl same ↦ absurd (differ same.1) | inr other ↦ other.0 ]

-- ---- entries by their ids

module _ {X : Type 0} where
  pub lookup-set_same : (k : List ℕ) (es : List (List ℕ × X)) (v w : X) → lookup (bytes_eq k) es ≡ Some v → lookup (bytes_eq k) (set_value (bytes_eq k) es w) ≡ Some w
  lookup-set_same k [] v w found = cc
  lookup-set_same k (e ∷ es) v w found = by (bytes_eq k e.0) refl (lookup-set_same k es v w) where
    by : (b : Bool) → bytes_eq k e.0 ≡ b → (lookup (bytes_eq k) es ≡ Some v → lookup (bytes_eq k) (set_value (bytes_eq k) es w) ≡ Some w)
        → lookup (bytes_eq k) (cond (bytes_eq k e.0) ((e.0, w) ∷ es) (e ∷ set_value (bytes_eq k) es w)) ≡ Some w
    by true is rest = ap (λ b. lookup (bytes_eq k) (cond b ((e.0, w) ∷ es) (e ∷ set_value (bytes_eq k) es w))) is ∙ ap (λ b. cond b (Some w) (lookup (bytes_eq k) es)) is
    by false is rest =
        ap (λ b. lookup (bytes_eq k) (cond b ((e.0, w) ∷ es) (e ∷ set_value (bytes_eq k) es w))) is
        ∙ ap (λ b. cond b (Some e.1) (lookup (bytes_eq k) (set_value (bytes_eq k) es w))) is
        ∙ rest (sym (ap (λ b. cond b (Some e.1) (lookup (bytes_eq k) es)) is) ∙ found)

  pub lookup-set_other : (q k : List ℕ) (es : List (List ℕ × X)) (w : X) → k ≢ q → lookup (bytes_eq q) (set_value (bytes_eq k) es w) ≡ lookup (bytes_eq q) es
  lookup-set_other q k [] w differ = refl
  lookup-set_other q k (e ∷ es) w differ = elim (bytes_tell k e.0) [
    | inl here ↦
        let past : bytes_eq q e.0 ≡ false = bytes_differ q e.0 (λ same. differ (here.1 ∙ sym same)) in
        ap (λ b. lookup (bytes_eq q) (cond b ((e.0, w) ∷ es) (e ∷ set_value (bytes_eq k) es w))) here.0
        ∙ ap (λ b. cond b (Some w) (lookup (bytes_eq q) es)) past ∙ sym (ap (λ b. cond b (Some e.1) (lookup (bytes_eq q) es)) past)
    | inr there ↦
        ap (λ b. lookup (bytes_eq q) (cond b ((e.0, w) ∷ es) (e ∷ set_value (bytes_eq k) es w))) there.0
        ∙ ap (λ r. cond (bytes_eq q e.0) (Some e.1) r) (lookup-set_other q k es w differ)
  ]

  pub lookup-push : (test : List ℕ → Bool) (es : List (List ℕ × X)) (k : List ℕ) (w : X) → lookup test (es ++ (k, w) ∷ []) ≡ option_or (lookup test es) (cond (test k) (Some w) None)
  lookup-push test [] k w = refl
  lookup-push test (e ∷ es) k w = by (test e.0) (lookup-push test es k w) where
    by : (b : Bool) → lookup test (es ++ (k, w) ∷ []) ≡ option_or (lookup test es) (cond (test k) (Some w) None)
        → cond b (Some e.1) (lookup test (es ++ (k, w) ∷ [])) ≡ option_or (cond b (Some e.1) (lookup test es)) (cond (test k) (Some w) None)
    by true rest = refl
    by false rest = rest

  pub lookup-without_same : (k : List ℕ) (es : List (List ℕ × X)) → lookup (bytes_eq k) (filter (λ e. not (bytes_eq k e.0)) es) ≡ None
  lookup-without_same k [] = refl
  lookup-without_same k (e ∷ es) = by (bytes_eq k e.0) refl (lookup-without_same k es) where
    by : (b : Bool) → bytes_eq k e.0 ≡ b → lookup (bytes_eq k) (filter (λ e. not (bytes_eq k e.0)) es) ≡ None
        → lookup (bytes_eq k) (cond (not (bytes_eq k e.0)) (e ∷ filter (λ e. not (bytes_eq k e.0)) es) (filter (λ e. not (bytes_eq k e.0)) es)) ≡ None
    by true is rest = ap (λ b. lookup (bytes_eq k) (cond (not b) (e ∷ filter (λ e. not (bytes_eq k e.0)) es) (filter (λ e. not (bytes_eq k e.0)) es))) is ∙ rest
    by false is rest =
        ap (λ b. lookup (bytes_eq k) (cond (not b) (e ∷ filter (λ e. not (bytes_eq k e.0)) es) (filter (λ e. not (bytes_eq k e.0)) es))) is
        ∙ ap (λ b. cond b (Some e.1) (lookup (bytes_eq k) (filter (λ e. not (bytes_eq k e.0)) es))) is ∙ rest

  pub lookup-without_other : (q k : List ℕ) (es : List (List ℕ × X)) → k ≢ q → lookup (bytes_eq q) (filter (λ e. not (bytes_eq k e.0)) es) ≡ lookup (bytes_eq q) es
  lookup-without_other q k [] differ = refl
  lookup-without_other q k (e ∷ es) differ = elim (bytes_tell k e.0) [
    | inl here ↦
        let past : bytes_eq q e.0 ≡ false = bytes_differ q e.0 (λ same. differ (here.1 ∙ sym same)) in
        ap (λ b. lookup (bytes_eq q) (cond (not b) (e ∷ filter (λ e. not (bytes_eq k e.0)) es) (filter (λ e. not (bytes_eq k e.0)) es))) here.0
        ∙ lookup-without_other q k es differ ∙ sym (ap (λ b. cond b (Some e.1) (lookup (bytes_eq q) es)) past)
    | inr there ↦
        ap (λ b. lookup (bytes_eq q) (cond (not b) (e ∷ filter (λ e. not (bytes_eq k e.0)) es) (filter (λ e. not (bytes_eq k e.0)) es))) there.0
        ∙ ap (λ r. cond (bytes_eq q e.0) (Some e.1) r) (lookup-without_other q k es differ)
  ]

-- A statement on an id's entry before and after a change: it is shown for the entry that changes, and for any other, which stays. The
-- test tells whether the id is that of the change.
module _ {X : Type 0} (q k : List ℕ) (es : List (List ℕ × X)) (G : Bool → Option X → Option X → Type 0) where
  by_id : (o n : Option X) (new : List (List ℕ × X)) → lookup (bytes_eq k) es ≡ o → (k ≡ q → lookup (bytes_eq q) new ≡ n) → (k ≢ q → lookup (bytes_eq q) new ≡ lookup (bytes_eq q) es)
      → (k ≡ q → G true o n) → ((o : Option X) → G false o o) → G (bytes_eq k q) (lookup (bytes_eq q) es) (lookup (bytes_eq q) new)
  by_id o n new was now stays here others = elim (bytes_tell k q) [
    | inl is ↦
        subst (λ b. G b (lookup (bytes_eq q) es) (lookup (bytes_eq q) new)) (sym is.0)
        (subst (λ x. G true x (lookup (bytes_eq q) new)) (sym was ∙ ap (λ i. lookup (bytes_eq i) es) is.1) (subst (G true o) (sym (now is.1)) (here is.1)))
    | inr other ↦
        subst (λ b. G b (lookup (bytes_eq q) es) (lookup (bytes_eq q) new)) (sym other.0)
        (subst (G false (lookup (bytes_eq q) es)) (sym (stays other.1)) (others (lookup (bytes_eq q) es)))
  ]

  -- it gets another value
  pub at_set : (v w : X) → lookup (bytes_eq k) es ≡ Some v → (k ≡ q → G true (Some v) (Some w)) → ((o : Option X) → G false o o) → G (bytes_eq k q) (lookup (bytes_eq q) es) (lookup (bytes_eq q) (set_value (bytes_eq k) es w))
  at_set v w was here others =
      by_id (Some v) (Some w) (set_value (bytes_eq k) es w) was
      (λ is. subst (λ i. lookup (bytes_eq i) (set_value (bytes_eq k) es w) ≡ Some w) is (lookup-set_same k es v w was)) (λ differ. lookup-set_other q k es w differ) here others

  -- it comes
  pub at_new : (w : X) → lookup (bytes_eq k) es ≡ None → (k ≡ q → G true None (Some w)) → ((o : Option X) → G false o o) → G (bytes_eq k q) (lookup (bytes_eq q) es) (lookup (bytes_eq q) (es ++ (k, w) ∷ []))
  at_new w was here others =
      by_id None (Some w) (es ++ (k, w) ∷ []) was
      (λ is. subst (λ i. lookup (bytes_eq i) (es ++ (k, w) ∷ []) ≡ Some w) is (lookup-push (bytes_eq k) es k w ∙ ap (λ o. option_or o (cond (bytes_eq k k) (Some w) None)) was ∙ ap (λ b. cond b (Some w) None) (bytes_same k)))
      (λ differ. lookup-push (bytes_eq q) es k w ∙ ap (λ b. option_or (lookup (bytes_eq q) es) (cond b (Some w) None)) (bytes_differ q k (λ same. differ (sym same))) ∙ or_none (lookup (bytes_eq q) es)) here others

  -- it goes
  pub at_gone : (v : X) → lookup (bytes_eq k) es ≡ Some v → (k ≡ q → G true (Some v) None) → ((o : Option X) → G false o o) → G (bytes_eq k q) (lookup (bytes_eq q) es) (lookup (bytes_eq q) (filter (λ e. not (bytes_eq k e.0)) es))
  at_gone v was here others =
      by_id (Some v) None (filter (λ e. not (bytes_eq k e.0)) es) was (λ is. subst (λ i. lookup (bytes_eq i) (filter (λ e. not (bytes_eq k e.0)) es) ≡ None) is (lookup-without_same k es))
      (λ differ. lookup-without_other q k es differ) here others

-- ---- levels that are set, by ids

abbrev pub own_releveled : Relevel → List ℕ → List ℕ → Context → Context
own_releveled relevel a k context = record context { own = relevel a k context.own }

pub lookup-releveled_context : (relevel : Relevel) (a k : List ℕ) (cs : List (List ℕ × Context)) → lookup (bytes_eq k) (map (releveled_context relevel a) cs) ≡ option_map (own_releveled relevel a k) (lookup (bytes_eq k) cs)
lookup-releveled_context relevel a k [] = refl
lookup-releveled_context relevel a k (e ∷ cs) = by (bytes_eq k e.0) (same_bytes k e.0) (lookup-releveled_context relevel a k cs) where
  by : (b : Bool) → (b ≡ true → k ≡ e.0) → lookup (bytes_eq k) (map (releveled_context relevel a) cs) ≡ option_map (own_releveled relevel a k) (lookup (bytes_eq k) cs)
      → cond b (Some (releveled_context relevel a e).1) (lookup (bytes_eq k) (map (releveled_context relevel a) cs)) ≡ option_map (own_releveled relevel a k) (cond b (Some e.1) (lookup (bytes_eq k) cs))
  by true is rest = ap (λ i. Some (own_releveled relevel a i e.1)) (sym (is refl))
  by false is rest = rest

pub lookup-releveled_app : (relevel : Relevel) (a : List ℕ) (es : List (List ℕ × App)) → lookup (bytes_eq a) (map (releveled_app relevel) es) ≡ option_map (λ app. (releveled_app relevel (a, app)).1) (lookup (bytes_eq a) es)
lookup-releveled_app relevel a [] = refl
lookup-releveled_app relevel a (e ∷ es) = by (bytes_eq a e.0) (same_bytes a e.0) (lookup-releveled_app relevel a es) where
  by : (b : Bool) → (b ≡ true → a ≡ e.0) → lookup (bytes_eq a) (map (releveled_app relevel) es) ≡ option_map (λ app. (releveled_app relevel (a, app)).1) (lookup (bytes_eq a) es)
      → cond b (Some (releveled_app relevel e).1) (lookup (bytes_eq a) (map (releveled_app relevel) es)) ≡ option_map (λ app. (releveled_app relevel (a, app)).1) (cond b (Some e.1) (lookup (bytes_eq a) es))
  by true is rest = ap (λ i. Some (releveled_app relevel (i, e.1)).1) (sym (is refl))
  by false is rest = rest
