-- Where a line may be cut: at blanks, behind blanks, and at its end.
use Rattle.std.proofs.Common.{◌≡◌, ℕ, zero, suc, ◌+◌, ◌<◌, ◌≤◌, Bool, true, not, eqb, List, [], ◌∷◌, length, drop, get_or, Some, refl, sym, ap, ◌∙◌, subst, inl, inr, arith, length-drop, drop-cons, add-one}
use Rattle.std.specs.Prelude.{unwrap_or, position}
use Rattle.std.specs.List.{position_or_len}
use Rattle.std.specs.Str.{IsUtf8, IsCharBoundary}
use Rattle.std.proofs.lemmas.Bool.{cases_Bool, or_cases, eqb-true, cases_lt, not-false, lt-ltb, le-ltb}
use Rattle.std.proofs.lemmas.List.{drop_all}
use Rattle.std.proofs.lemmas.List.Quantifiers.{position-Some}
use Rattle.std.proofs.lemmas.List.Sums.{prefix_len-le-length, fails_before_first, passes_at_first}
use Rattle.std.proofs.lemmas.Str.{IsCharBoundary-start, IsCharBoundary-end, IsCharBoundary-before_ascii, IsCharBoundary-after_ascii}
use Rattle.dl_text.specs.Lines.{is_blank, without_blanks_before}
use Rattle.dl_script_fields.specs.Argument.{is_colon}
use Rattle.dl_script_fields.specs.Fields.{is_end}

blank_is_ascii : (b : ℕ) → is_blank b ≡ true → b < 128
blank_is_ascii b h = elim (or_cases (eqb b 32) (eqb b 9) h) [
  | inl e ↦ let is = eqb-true b 32 e in omega arith
  | inr e ↦ let is = eqb-true b 9 e in omega arith
]

-- the first place, or the length, as the code has it
pub first_or_len : (p : ℕ → Bool) (xs : List ℕ) → unwrap_or (position p xs) (length xs) ≡ position_or_len p xs
first_or_len p xs =
    let within : position_or_len p xs ≤ length xs = prefix_len-le-length (λ x. not (p x)) xs in
    elim (cases_lt (position_or_len p xs) (length xs)) [
      | inl below ↦ rw (lt-ltb _ _ below) refl
      | inr above ↦ rw (le-ltb _ _ above) (omega arith)
    ]

pub first_within : (p : ℕ → Bool) (xs : List ℕ) → unwrap_or (position p xs) (length xs) ≤ length xs
first_within p xs = rw (first_or_len p xs) (prefix_len-le-length (λ x. not (p x)) xs)

behind_blanks : (text : List ℕ) (n : ℕ) → IsUtf8 text → n ≡ position_or_len (λ b. not (is_blank b)) text → n ≤ length text → IsCharBoundary text n
behind_blanks text zero utf8 e within = IsCharBoundary-start text utf8
behind_blanks text (suc m) utf8 e within =
    let blank : is_blank (get_or text m 0) ≡ true = not-false _ (fails_before_first (λ b. not (is_blank b)) text m 0 (omega arith)) in
    subst (IsCharBoundary text) (omega arith) (IsCharBoundary-after_ascii text m utf8 (omega arith) (blank_is_ascii _ blank))

pub past_blanks : (text : List ℕ) → IsUtf8 text → IsCharBoundary text (unwrap_or (position (λ b. not (is_blank b)) text) (length text))
past_blanks text utf8 =
    let e = first_or_len (λ b. not (is_blank b)) text in
    rw e (behind_blanks text _ utf8 refl (prefix_len-le-length (λ b. not (not (is_blank b))) text))

-- a field ends at the end of the text, or at a blank
at_end : (text : List ℕ) (i : ℕ) → i ≤ length text → is_end (drop i text) ≡ true → IsCharBoundary text i
at_end text i within ends = elim (cases_lt i (length text)) [
  | inl below ↦ IsCharBoundary-before_ascii text i below (blank_is_ascii _ (rw (drop-cons text i 0 below) at ends))
  | inr above ↦ subst (IsCharBoundary text) (omega arith) (IsCharBoundary-end text)
]

-- the same behind the first byte
pub at_end_of_rest : (text rest : List ℕ) (n : ℕ) → rest ≡ drop 1 text → 1 ≤ length text → n ≤ length rest → is_end (drop n rest) ≡ true → IsCharBoundary text (n + 1)
at_end_of_rest [] rest n is some within ends = absurd (omega arith)
at_end_of_rest (b ∷ text) rest n is some within ends =
    at_end (b ∷ text) (n + 1) (omega (arith, ap length is, length-drop 1 (b ∷ text))) (rw add-one (rw is at ends))

pub ends_at_blank : (xs : List ℕ) → is_end (drop (unwrap_or (position is_blank xs) (length xs)) xs) ≡ true
ends_at_blank xs =
    let within : position_or_len is_blank xs ≤ length xs = prefix_len-le-length (λ x. not (is_blank x)) xs in
    rw (first_or_len is_blank xs) (elim (cases_lt (position_or_len is_blank xs) (length xs)) [
      | inl below ↦ rw (drop-cons xs (position_or_len is_blank xs) 0 below) (passes_at_first is_blank xs 0 below)
      | inr above ↦ rw (drop_all (position_or_len is_blank xs) xs above) refl
    ])

-- the first word of a text ends at a blank, or at the end
pub word_end : (text : List ℕ) → IsCharBoundary text (unwrap_or (position is_blank text) (length text))
word_end text = at_end text _ (first_within is_blank text) (ends_at_blank text)

-- what stands behind the blanks at the front
drop_one_more : (n b : ℕ) (xs : List ℕ) → drop (1 + n) (b ∷ xs) ≡ drop n xs
drop_one_more n b xs = let e : 1 + n ≡ suc n = omega arith in rw e refl

behind_letters : (xs : List ℕ) → drop (position_or_len (λ b. not (is_blank b)) xs) xs ≡ without_blanks_before xs
behind_letters [] = refl
behind_letters (b ∷ xs) = elim (cases_Bool (is_blank b)) [
  | inr letter ↦ rw letter refl
  | inl blank ↦ rw blank (drop_one_more (position_or_len (λ b. not (is_blank b)) xs) b xs ∙ behind_letters xs)
]

pub behind_them : (text : List ℕ) → drop (unwrap_or (position (λ b. not (is_blank b)) text) (length text)) text ≡ without_blanks_before text
behind_them text = rw (first_or_len (λ b. not (is_blank b)) text) (behind_letters text)

-- what begins with a colon is cut before it and behind it
colon_is_ascii : (text : List ℕ) (n : ℕ) → Some n ≡ position is_colon text → get_or text n 0 < 128
colon_is_ascii text n first =
    let is = eqb-true (get_or text n 0) 58 (position-Some is_colon text n 0 (sym first)).1 in omega arith

pub before_colon : (text : List ℕ) (n : ℕ) → Some n ≡ position is_colon text → n < length text → IsCharBoundary text n
before_colon text n first within = IsCharBoundary-before_ascii text n within (colon_is_ascii text n first)

pub behind_colon : (text : List ℕ) (n : ℕ) → IsUtf8 text → Some n ≡ position is_colon text → n < length text → IsCharBoundary text (n + 1)
behind_colon text n utf8 first within = IsCharBoundary-after_ascii text n utf8 within (colon_is_ascii text n first)
