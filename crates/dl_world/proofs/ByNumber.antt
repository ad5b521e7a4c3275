-- Entries of a list by their numbers from 1, where one of them has changed or came.
use Rattle.std.proofs.Common.{◌≡◌, ◌≢◌, inl, inr, ℕ, zero, suc, ◌+◌, ◌-◌, ◌<◌, ◌≤◌, Bool, true, false, cond, eqb, List, [], ◌∷◌, ◌++◌, length, Option, Some, None, refl, sym, ap, ◌∙◌, arith}
use Rattle.std.specs.Prelude.{slice_get, slice_set}
use Rattle.std.specs.Option.{option_map_or, option_and_then}
use Rattle.std.proofs.lemmas.Bool.Decides.{eqb_tells}
use Rattle.std.proofs.lemmas.Bool.{ne_eqb}
use Rattle.std.proofs.lemmas.List.{length-set}
use Rattle.std.proofs.lemmas.Option.{slice_get_past}
use Rattle.dl_hub.specs.State as hub
use Rattle.dl_hub.specs.State.{Hub, client_of, outbox_of, changed}
use Rattle.dl_world.specs.State.{Client, client_at, with_client}

-- ---- any list, by places

module _ {A : Type 0} where
  slice_get-set_same : (xs : List A) (i : ℕ) (y : A) → i < length xs → slice_get (slice_set xs i y) i ≡ Some y
  slice_get-set_same [] i y h = absurd (omega (arith, h))
  slice_get-set_same (x ∷ xs) zero y h = refl
  slice_get-set_same (x ∷ xs) (suc i) y h = slice_get-set_same xs i y (omega (arith, h))

  slice_get-set_other : (xs : List A) (i j : ℕ) (y : A) → j ≢ i → slice_get (slice_set xs i y) j ≡ slice_get xs j
  slice_get-set_other [] i j y h = refl
  slice_get-set_other (x ∷ xs) zero zero y h = absurd (h refl)
  slice_get-set_other (x ∷ xs) zero (suc j) y h = refl
  slice_get-set_other (x ∷ xs) (suc i) zero y h = refl
  slice_get-set_other (x ∷ xs) (suc i) (suc j) y h = slice_get-set_other xs i j y (λ e. h (ap suc e))

  slice_get-some : (xs : List A) (i : ℕ) → i < length xs → (x : A) × (slice_get xs i ≡ Some x)
  slice_get-some [] i h = absurd (omega (arith, h))
  slice_get-some (x ∷ xs) zero h = (x, refl)
  slice_get-some (x ∷ xs) (suc i) h = slice_get-some xs i (omega (arith, h))

  slice_get-append_left : (xs ys : List A) (i : ℕ) → i < length xs → slice_get (xs ++ ys) i ≡ slice_get xs i
  slice_get-append_left [] ys i h = absurd (omega (arith, h))
  slice_get-append_left (x ∷ xs) ys zero h = refl
  slice_get-append_left (x ∷ xs) ys (suc i) h = slice_get-append_left xs ys i (omega (arith, h))

  slice_get-append_right : (xs ys : List A) (i k : ℕ) → i ≡ length xs + k → slice_get (xs ++ ys) i ≡ slice_get ys k
  slice_get-append_right [] ys i k e = let same : i ≡ k = omega (arith, e) in ap (slice_get ys) same
  slice_get-append_right (x ∷ xs) ys zero k e = absurd (omega (arith, e))
  slice_get-append_right (x ∷ xs) ys (suc i) k e = slice_get-append_right xs ys i k (omega (arith, e))

-- ---- any list, by numbers

abbrev pub at_number : {A : Type 0} → List A → ℕ → Option A
at_number xs number = cond (eqb number 0) None (slice_get xs (number - 1))

pub at_zero : {A : Type 0} (xs : List A) (number : ℕ) → eqb number 0 ≡ true → at_number xs number ≡ None
at_zero xs number nobody = ap (λ (b : Bool). cond b None (slice_get xs (number - 1))) nobody

pub at_place : {A : Type 0} (xs : List A) (number : ℕ) → 1 ≤ number → at_number xs number ≡ slice_get xs (number - 1)
at_place xs number some = let not_zero : eqb number 0 ≡ false = ne_eqb number 0 (λ e. omega (arith, some, e)) in ap (λ (b : Bool). cond b None (slice_get xs (number - 1))) not_zero

pub at_there : {A : Type 0} (xs : List A) (number : ℕ) → 1 ≤ number → number ≤ length xs → (x : A) × (at_number xs number ≡ Some x) × (slice_get xs (number - 1) ≡ Some x)
at_there xs number some within =
    let it = slice_get-some xs (number - 1) (omega (arith, some, within)) in
    (it.0, at_place xs number some ∙ it.1, it.1)

pub at-set_same : {A : Type 0} (xs : List A) (number : ℕ) (y : A) → 1 ≤ number → number ≤ length xs → at_number (slice_set xs (number - 1) y) number ≡ Some y
at-set_same xs number y some within = at_place (slice_set xs (number - 1) y) number some ∙ slice_get-set_same xs (number - 1) y (omega (arith, some, within))

pub at-set_other : {A : Type 0} (xs : List A) (number other : ℕ) (y : A) → 1 ≤ number → other ≢ number → at_number (slice_set xs (number - 1) y) other ≡ at_number xs other
at-set_other xs number other y some apart = elim (eqb_tells other 0) as (λ _. at_number (slice_set xs (number - 1) y) other ≡ at_number xs other) [
  | inl nobody ↦ at_zero (slice_set xs (number - 1) y) other nobody.0 ∙ sym (at_zero xs other nobody.0)
  | inr somebody ↦
      let one : 1 ≤ other = omega (arith, somebody.1) in
      at_place (slice_set xs (number - 1) y) other one
      ∙ slice_get-set_other xs (number - 1) (other - 1) y (λ e. apart (omega (arith, e, one, some)))
      ∙ sym (at_place xs other one)
]

-- above all
pub at_past : {A : Type 0} (xs : List A) (number : ℕ) → length xs < number → at_number xs number ≡ None
at_past xs number above = at_place xs number (omega (arith, above)) ∙ slice_get_past xs (number - 1) (omega (arith, above))

-- one more at the end
pub at-more : {A : Type 0} (xs : List A) (y : A) (number : ℕ) → number ≤ length xs → at_number (xs ++ y ∷ []) number ≡ at_number xs number
at-more xs y number within = elim (eqb_tells number 0) as (λ _. at_number (xs ++ y ∷ []) number ≡ at_number xs number) [
  | inl nobody ↦ at_zero (xs ++ y ∷ []) number nobody.0 ∙ sym (at_zero xs number nobody.0)
  | inr somebody ↦
      let one : 1 ≤ number = omega (arith, somebody.1) in
      at_place (xs ++ y ∷ []) number one ∙ slice_get-append_left xs (y ∷ []) (number - 1) (omega (arith, one, within)) ∙ sym (at_place xs number one)
]

pub at-last : {A : Type 0} (xs : List A) (y : A) → at_number (xs ++ y ∷ []) (length xs + 1) ≡ Some y
at-last xs y = at_place (xs ++ y ∷ []) (length xs + 1) (omega arith) ∙ slice_get-append_right xs (y ∷ []) (length xs + 1 - 1) 0 (omega arith)

-- ---- clients of a world

pub with_there : (xs : List Client) (number : ℕ) (change : Client → Client) (x : Client) → client_at xs number ≡ Some x → with_client number change xs ≡ slice_set xs (number - 1) (change x)
with_there xs number change x is = ap (λ (o : Option Client). option_map_or (λ client. slice_set xs (number - 1) (change client)) o xs) is

pub with_same : (xs : List Client) (number : ℕ) (change : Client → Client) (x : Client) → 1 ≤ number → number ≤ length xs → client_at xs number ≡ Some x
    → client_at (with_client number change xs) number ≡ Some (change x)
with_same xs number change x some within is = ap (λ (cs : List Client). client_at cs number) (with_there xs number change x is) ∙ at-set_same xs number (change x) some within

pub with_other : (xs : List Client) (number other : ℕ) (change : Client → Client) (x : Client) → 1 ≤ number → client_at xs number ≡ Some x → other ≢ number
    → client_at (with_client number change xs) other ≡ client_at xs other
with_other xs number other change x some is apart = ap (λ (cs : List Client). client_at cs other) (with_there xs number change x is) ∙ at-set_other xs number other (change x) some apart

pub with_long : (xs : List Client) (number : ℕ) (change : Client → Client) (x : Client) → client_at xs number ≡ Some x → length (with_client number change xs) ≡ length xs
with_long xs number change x is = ap length (with_there xs number change x is) ∙ length-set xs (number - 1) (change x)

-- ---- clients of a hub

pub outbox_other : (h : Hub) (number other : ℕ) (change : hub.Client → hub.Client) (c : hub.Client) → 1 ≤ number → client_of h number ≡ Some c → other ≢ number
    → outbox_of (changed number change h) other ≡ outbox_of h other
outbox_other h number other change c some is apart =
    ap (λ (cs : List hub.Client). option_and_then (λ (k : hub.Client). k.outbox) (at_number cs other))
    (ap (λ (o : Option hub.Client). option_map_or (λ client. slice_set h.clients (number - 1) (change client)) o h.clients) is)
    ∙ ap (option_and_then (λ (k : hub.Client). k.outbox)) (at-set_other h.clients number other (change c) some apart)
