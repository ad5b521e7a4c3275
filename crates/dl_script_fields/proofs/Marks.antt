-- The first place at which a test holds, and what the first quote or backslash says of a text in quotes.
use Rattle.std.proofs.Common.{◌≡◌, ◌≢◌, ℕ, zero, suc, ◌+◌, ◌<◌, ◌≤◌, Bool, true, false, eqb, List, [], ◌∷◌, length, take, drop, get_or, Option, Some, None, refl, sym, ap, ◌∙◌, inl, inr, arith}
use Rattle.std.specs.Prelude.{option_map}
use Rattle.std.specs.List.{list_any, position, position_or_len}
use Rattle.std.proofs.lemmas.Bool.{cases_Bool, cases_lt, eqb-true, eqb-false, or_cases, lt-ltb, le-ltb}
use Rattle.std.proofs.lemmas.List.Quantifiers.{position-Some}
use Rattle.dl_script_fields.specs.Argument.{is_escapable, unescaped}
use Rattle.dl_script_fields.specs.Fields.{quoted_len}
use Rattle.dl_script_fields.proofs.Quotes.{or_parts, one_byte}

position_next : (p : ℕ → Bool) (x : ℕ) (xs : List ℕ) → p x ≡ false → position p (x ∷ xs) ≡ option_map (λ n. 1 + n) (position p xs)
position_next p x xs other = elim (cases_lt (position_or_len p xs) (length xs)) [
  | inl below ↦ rw (other, lt-ltb (position_or_len p xs) (length xs) below, lt-ltb (1 + position_or_len p xs) (suc (length xs)) (omega arith)) refl
  | inr above ↦ rw (other, le-ltb (position_or_len p xs) (length xs) above, le-ltb (1 + position_or_len p xs) (suc (length xs)) (omega arith)) refl
]

from_zero : (o : Option ℕ) → o ≡ option_map (λ n. 0 + n) o
from_zero None = refl
from_zero (Some n) = ap Some (omega arith)

farther : (n : ℕ) (o : Option ℕ) → option_map (λ k. 1 + k) (option_map (λ k. n + k) o) ≡ option_map (λ k. suc n + k) o
farther n None = refl
farther n (Some k) = ap Some (omega arith)

joined : (m n : ℕ) (o : Option ℕ) → option_map (λ k. (m + n) + k) o ≡ option_map (λ k. m + k) (option_map (λ k. n + k) o)
joined m n None = refl
joined m n (Some k) = ap Some (omega arith)

-- it stands behind those at which the test fails
behind_them : (p : ℕ → Bool) (n : ℕ) (xs : List ℕ) → n ≤ length xs → list_any p (take n xs) ≡ false → position p xs ≡ option_map (λ k. n + k) (position p (drop n xs))
behind_them p zero xs within none = from_zero (position p xs)
behind_them p (suc n) [] within none = absurd (omega arith)
behind_them p (suc n) (x ∷ xs) within none =
    let parts = or_parts (p x) (list_any p (take n xs)) none in
    position_next p x xs parts.0 ∙ ap (option_map (λ k. 1 + k)) (behind_them p n xs (omega arith) parts.1) ∙ farther n (position p (drop n xs))

pub goes_on : (p : ℕ → Bool) (text rest behind : List ℕ) (passed n : ℕ) → option_map (λ k. passed + k) (position p rest) ≡ position p text
    → n ≤ length rest → list_any p (take n rest) ≡ false → behind ≡ drop n rest → option_map (λ k. (passed + n) + k) (position p behind) ≡ position p text
goes_on p text rest behind passed n so_far within none is =
    rw is (joined passed n (position p (drop n rest)) ∙ ap (option_map (λ k. passed + k)) (sym (behind_them p n rest within none)) ∙ so_far)

-- ---- a text in quotes, from behind its first quote on

none_in : (f : ℕ → ℕ) (o : Option ℕ) → option_map f o ≡ None → o ≡ None
none_in f None e = refl
none_in f (Some n) e = absurd cc

pub unmarked : (text : List ℕ) → position is_escapable text ≡ None → quoted_len false text ≡ None
unmarked [] none = refl
unmarked (b ∷ rest) none = elim (cases_Bool (is_escapable b)) [
  | inl mark ↦ let some : position is_escapable (b ∷ rest) ≡ Some 0 = rw (mark, lt-ltb 0 (suc (length rest)) (omega arith)) refl in absurd cc
  | inr other ↦
      let parts = or_parts (eqb b 34) (eqb b 92) other in
      rw (parts.0, parts.1) (ap (option_map (λ n. 1 + n)) (unmarked rest (none_in (λ n. 1 + n) (position is_escapable rest) (sym (position_next is_escapable b rest other) ∙ none))))
]

closes_there : (text : List ℕ) (n : ℕ) → n < length text → ((k : ℕ) → k < n → is_escapable (get_or text k 0) ≡ false) → get_or text n 0 ≡ 34 → Some (n + 1) ≡ quoted_len false text
closes_there [] n lt before quote = absurd (omega arith)
closes_there (b ∷ rest) zero lt before quote = let is : b ≡ 34 = quote in rw is refl
closes_there (b ∷ rest) (suc n) lt before quote =
    let parts = or_parts (eqb b 34) (eqb b 92) (before 0 (omega arith)) in
    let longer : suc n + 1 ≡ 1 + (n + 1) = omega arith in
    rw (parts.0, parts.1, longer) (ap (option_map (λ n. 1 + n)) (closes_there rest n (omega arith) (λ k lt. before (suc k) (omega arith)) quote))

-- a mark that is no backslash is a quote
quote_at : (b : ℕ) → is_escapable b ≡ true → b ≢ 92 → b ≡ 34
quote_at b mark no_backslash = elim (or_cases (eqb b 34) (eqb b 92) mark) [
  | inl quote ↦ eqb-true b 34 quote
  | inr backslash ↦ absurd (no_backslash (eqb-true b 92 backslash))
]

pub closed_at : (text : List ℕ) (n : ℕ) → position is_escapable text ≡ Some n → get_or text n 0 ≢ 92 → Some (n + 1) ≡ quoted_len false text
closed_at text n first no_backslash =
    let there = position-Some is_escapable text n 0 first in
    closes_there text n there.0 there.2 (quote_at _ there.1 no_backslash)

says_all : (text : List ℕ) (n : ℕ) → n + 1 ≡ length text → ((k : ℕ) → k < n → is_escapable (get_or text k 0) ≡ false) → get_or text n 0 ≡ 34 → unescaped text ≡ Some (take n text)
says_all [] n last before quote = absurd (omega (arith, last))
says_all (b ∷ []) zero last before quote = let is : b ≡ 34 = quote in rw is refl
says_all (b ∷ c ∷ rest) zero last before quote = absurd (omega (arith, last))
says_all (b ∷ rest) (suc n) last before quote =
    let parts = or_parts (eqb b 34) (eqb b 92) (before 0 (omega arith)) in
    one_byte b rest (eqb-false b 34 parts.0) (eqb-false b 92 parts.1)
    ∙ ap (option_map (λ text. b ∷ text)) (says_all rest n (omega (arith, last)) (λ k lt. before (suc k) (omega arith)) quote)

pub says_itself : (text : List ℕ) (n : ℕ) → position is_escapable text ≡ Some n → n + 1 ≡ length text → get_or text n 0 ≡ 34 → unescaped text ≡ Some (take n text)
says_itself text n first last quote = says_all text n last (position-Some is_escapable text n 0 first).2 quote
