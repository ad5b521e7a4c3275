-- Entries of a list and of a map, where another one changes.
use Rattle.std.proofs.Common.{◌≡◌, ◌≢◌, ◌⊎◌, ◌<◌, ℕ, zero, suc, Bool, true, false, cond, not, inl, inr, List, [], ◌∷◌, ◌++◌, filter, length, take, Option, Some, None, refl, sym, ap, ◌∙◌, arith}
use Rattle.std.specs.Prelude.{IsSome, is_some, nat_eq, slice_get, slice_set}
use Rattle.std.specs.Map.{keys_of, lookup, set_value}
use Rattle.std.proofs.lemmas.Bool.Decides.{eqb_tells}

other_key : (other key : ℕ) → other ≢ key → nat_eq other key ≡ false
other_key other key apart = elim (eqb_tells other key) [ inl same ↦ absurd (apart same.1) | inr differs ↦ differs.0 ]

own_key : (key : ℕ) → nat_eq key key ≡ true
own_key key = elim (eqb_tells key key) [ inl same ↦ same.0 | inr differs ↦ absurd (differs.1 refl) ]

module _ {A : Type 0} where
  pub set_apart : (xs : List A) (i j : ℕ) (v : A) → j ≢ i → slice_get (slice_set xs i v) j ≡ slice_get xs j
  set_apart [] i j v apart = refl
  set_apart (x ∷ xs) zero zero v apart = absurd (apart refl)
  set_apart (x ∷ xs) zero (suc j) v apart = refl
  set_apart (x ∷ xs) (suc i) zero v apart = refl
  set_apart (x ∷ xs) (suc i) (suc j) v apart = set_apart xs i j v (λ same. apart (ap suc same))

  pub set_here : (xs : List A) (i : ℕ) (v x : A) → slice_get xs i ≡ Some x → slice_get (slice_set xs i v) i ≡ Some v
  set_here [] i v x there = absurd (cc there)
  set_here (y ∷ xs) zero v x there = refl
  set_here (y ∷ xs) (suc i) v x there = set_here xs i v x there

  pub set_long : (xs : List A) (i : ℕ) (v : A) → length (slice_set xs i v) ≡ length xs
  set_long [] i v = refl
  set_long (x ∷ xs) zero v = refl
  set_long (x ∷ xs) (suc i) v = ap suc (set_long xs i v)

  pub within : (xs : List A) (i : ℕ) (x : A) → slice_get xs i ≡ Some x → i < length xs
  within [] i x there = absurd (cc there)
  within (y ∷ xs) zero x there = omega arith
  within (y ∷ xs) (suc i) x there = (let rest = within xs i x there in omega (arith, rest))

  pub last_at : (xs : List A) (v x : A) (place : ℕ) → slice_get (xs ++ v ∷ []) place ≡ Some x → (slice_get xs place ≡ Some x) ⊎ ((place ≡ length xs) × (x ≡ v))
  last_at [] v x zero there = inr (refl, cc there)
  last_at [] v x (suc place) there = absurd (cc there)
  last_at (y ∷ xs) v x zero there = inl there
  last_at (y ∷ xs) v x (suc place) there = elim (last_at xs v x place there) [ inl before ↦ inl before | inr last ↦ inr (ap suc last.0, last.1) ]

  pub taken_at : (xs : List A) (n place : ℕ) (x : A) → slice_get (take n xs) place ≡ Some x → slice_get xs place ≡ Some x
  taken_at [] zero place x there = absurd (cc there)
  taken_at [] (suc n) place x there = absurd (cc there)
  taken_at (y ∷ xs) zero place x there = absurd (cc there)
  taken_at (y ∷ xs) (suc n) zero x there = there
  taken_at (y ∷ xs) (suc n) (suc place) x there = taken_at xs n place x there

  -- ---- by number

  pub value_apart : (channel other : ℕ) (es : List (ℕ × A)) (w : A) → other ≢ channel → lookup (nat_eq other) (set_value (nat_eq channel) es w) ≡ lookup (nat_eq other) es
  value_apart channel other [] w apart = refl
  value_apart channel other (e ∷ es) w apart = by (nat_eq channel e.0) (eqb_tells channel e.0) (value_apart channel other es w apart) where
    by : (b : Bool) → ((nat_eq channel e.0 ≡ true) × (channel ≡ e.0)) ⊎ ((nat_eq channel e.0 ≡ false) × (channel ≢ e.0)) → lookup (nat_eq other) (set_value (nat_eq channel) es w) ≡ lookup (nat_eq other) es
        → lookup (nat_eq other) (set_value (nat_eq channel) (e ∷ es) w) ≡ lookup (nat_eq other) (e ∷ es)
    by b (inl here) rest =
        let differs : nat_eq other e.0 ≡ false = other_key other e.0 (λ same. apart (same ∙ sym here.1)) in
        ap (λ (t : Bool). lookup (nat_eq other) (cond t ((e.0, w) ∷ es) (e ∷ set_value (nat_eq channel) es w))) here.0
        ∙ ap (λ (t : Bool). cond t (Some w) (lookup (nat_eq other) es)) differs ∙ sym (ap (λ (t : Bool). cond t (Some e.1) (lookup (nat_eq other) es)) differs)
    by b (inr there) rest =
        ap (λ (t : Bool). lookup (nat_eq other) (cond t ((e.0, w) ∷ es) (e ∷ set_value (nat_eq channel) es w))) there.0
        ∙ ap (λ (o : Option A). cond (nat_eq other e.0) (Some e.1) o) rest

  pub value_here : (channel : ℕ) (es : List (ℕ × A)) (w x : A) → lookup (nat_eq channel) es ≡ Some x → lookup (nat_eq channel) (set_value (nat_eq channel) es w) ≡ Some w
  value_here channel [] w x there = absurd (cc there)
  value_here channel (e ∷ es) w x there = by (eqb_tells channel e.0) (λ at. value_here channel es w x at) where
    by : ((nat_eq channel e.0 ≡ true) × (channel ≡ e.0)) ⊎ ((nat_eq channel e.0 ≡ false) × (channel ≢ e.0)) → (lookup (nat_eq channel) es ≡ Some x → lookup (nat_eq channel) (set_value (nat_eq channel) es w) ≡ Some w)
        → lookup (nat_eq channel) (set_value (nat_eq channel) (e ∷ es) w) ≡ Some w
    by (inl here) further =
        ap (λ (t : Bool). lookup (nat_eq channel) (cond t ((e.0, w) ∷ es) (e ∷ set_value (nat_eq channel) es w))) here.0 ∙ ap (λ (t : Bool). cond t (Some w) (lookup (nat_eq channel) es)) here.0
    by (inr apart) further =
        let rest = further (sym (ap (λ (t : Bool). cond t (Some e.1) (lookup (nat_eq channel) es)) apart.0) ∙ there) in
        ap (λ (t : Bool). lookup (nat_eq channel) (cond t ((e.0, w) ∷ es) (e ∷ set_value (nat_eq channel) es w))) apart.0
        ∙ ap (λ (t : Bool). cond t (Some e.1) (lookup (nat_eq channel) (set_value (nat_eq channel) es w))) apart.0 ∙ rest

  pub gone_apart : (channel other : ℕ) (es : List (ℕ × A)) → other ≢ channel → lookup (nat_eq other) (filter (λ (e : ℕ × A). not (nat_eq channel e.0)) es) ≡ lookup (nat_eq other) es
  gone_apart channel other [] apart = refl
  gone_apart channel other (e ∷ es) apart = by (eqb_tells channel e.0) (gone_apart channel other es apart) where
    gone : List (ℕ × A)
    gone = filter (λ (x : ℕ × A). not (nat_eq channel x.0)) es

    by : ((nat_eq channel e.0 ≡ true) × (channel ≡ e.0)) ⊎ ((nat_eq channel e.0 ≡ false) × (channel ≢ e.0)) → lookup (nat_eq other) gone ≡ lookup (nat_eq other) es
        → lookup (nat_eq other) (filter (λ (x : ℕ × A). not (nat_eq channel x.0)) (e ∷ es)) ≡ lookup (nat_eq other) (e ∷ es)
    by (inl here) rest =
        let differs : nat_eq other e.0 ≡ false = other_key other e.0 (λ same. apart (same ∙ sym here.1)) in
        ap (λ (t : Bool). lookup (nat_eq other) (cond (not t) (e ∷ gone) gone)) here.0 ∙ rest ∙ sym (ap (λ (t : Bool). cond t (Some e.1) (lookup (nat_eq other) es)) differs)
    by (inr there) rest = ap (λ (t : Bool). lookup (nat_eq other) (cond (not t) (e ∷ gone) gone)) there.0 ∙ ap (λ (o : Option A). cond (nat_eq other e.0) (Some e.1) o) rest

  pub gone_here : (channel : ℕ) (es : List (ℕ × A)) → lookup (nat_eq channel) (filter (λ (e : ℕ × A). not (nat_eq channel e.0)) es) ≡ None
  gone_here channel [] = refl
  gone_here channel (e ∷ es) = by (nat_eq channel e.0) refl (gone_here channel es) where
    gone : List (ℕ × A)
    gone = filter (λ (x : ℕ × A). not (nat_eq channel x.0)) es

    by : (b : Bool) → nat_eq channel e.0 ≡ b → lookup (nat_eq channel) gone ≡ None → lookup (nat_eq channel) (filter (λ (x : ℕ × A). not (nat_eq channel x.0)) (e ∷ es)) ≡ None
    by true is rest = ap (λ (t : Bool). lookup (nat_eq channel) (cond (not t) (e ∷ gone) gone)) is ∙ rest
    by false is rest = ap (λ (t : Bool). lookup (nat_eq channel) (cond (not t) (e ∷ gone) gone)) is ∙ ap (λ (t : Bool). cond t (Some e.1) (lookup (nat_eq channel) gone)) is ∙ rest

  pub added_apart : (channel other : ℕ) (es : List (ℕ × A)) (w : A) → other ≢ channel → lookup (nat_eq other) (es ++ (channel, w) ∷ []) ≡ lookup (nat_eq other) es
  added_apart channel other [] w apart = ap (λ (t : Bool). cond t (Some w) None) (other_key other channel apart)
  added_apart channel other (e ∷ es) w apart = ap (λ (o : Option A). cond (nat_eq other e.0) (Some e.1) o) (added_apart channel other es w apart)

  pub added_here : (channel : ℕ) (es : List (ℕ × A)) (w : A) → lookup (nat_eq channel) es ≡ None → lookup (nat_eq channel) (es ++ (channel, w) ∷ []) ≡ Some w
  added_here channel [] w none = ap (λ (t : Bool). cond t (Some w) None) (own_key channel)
  added_here channel (e ∷ es) w none = by (eqb_tells channel e.0) (λ none_left. added_here channel es w none_left) where
    by : ((nat_eq channel e.0 ≡ true) × (channel ≡ e.0)) ⊎ ((nat_eq channel e.0 ≡ false) × (channel ≢ e.0)) → (lookup (nat_eq channel) es ≡ None → lookup (nat_eq channel) (es ++ (channel, w) ∷ []) ≡ Some w)
        → lookup (nat_eq channel) (e ∷ es ++ (channel, w) ∷ []) ≡ Some w
    by (inl here) further = absurd (let bad : Some e.1 ≡ None = sym (ap (λ (t : Bool). cond t (Some e.1) (lookup (nat_eq channel) es)) here.0) ∙ none in cc bad)
    by (inr apart) further =
        ap (λ (t : Bool). cond t (Some e.1) (lookup (nat_eq channel) (es ++ (channel, w) ∷ []))) apart.0
        ∙ further (sym (ap (λ (t : Bool). cond t (Some e.1) (lookup (nat_eq channel) es)) apart.0) ∙ none)

  pub added_some : (channel : ℕ) (es : List (ℕ × A)) (w : A) → IsSome (lookup (nat_eq channel) (es ++ (channel, w) ∷ []))
  added_some channel [] w = ap (λ (t : Bool). is_some (cond t (Some w) None)) (own_key channel)
  added_some channel (e ∷ es) w = by (nat_eq channel e.0) (added_some channel es w) where
    by : (b : Bool) → IsSome (lookup (nat_eq channel) (es ++ (channel, w) ∷ [])) → IsSome (cond b (Some e.1) (lookup (nat_eq channel) (es ++ (channel, w) ∷ [])))
    by true rest = refl
    by false rest = rest

  -- where no key is left nothing is found
  pub none_found : (key : ℕ) (es : List (ℕ × A)) → keys_of es ≡ [] → lookup (nat_eq key) es ≡ None
  none_found key [] none = refl
  none_found key (e ∷ es) none = absurd (cc none)
