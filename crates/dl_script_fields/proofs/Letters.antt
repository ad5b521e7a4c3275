-- What stands in a field of a line, whatever it says.
use Rattle.std.proofs.Common.{◌≡◌, ◌≢◌, ℕ, zero, suc, ◌<◌, ◌≤◌, Bool, true, false, not, ◌&&◌, ◌||◌, eqb, leb, List, [], ◌∷◌, ◌++◌, length, append-nil, refl, ◌∙◌, inl, inr, arith}
use Rattle.std.specs.List.{list_all, list_any}
use Rattle.std.specs.Char.{is_ascii_digit, is_ascii_alphanumeric}
use Rattle.std.specs.Str.{IsUtf8, IsAscii, all_ascii_digits}
use Rattle.std.proofs.lemmas.Bool.{and_parts, and_from, or_parts, or_from, not-true, not_from_false, leb-true, eqb-true, ne_eqb, le-leb, cases_Bool, or_cases}
use Rattle.std.proofs.lemmas.List.Folds.{list_all-append}
use Rattle.std.proofs.lemmas.Str.{IsUtf8-from_ascii}
use Rattle.hex.specs.Hex.{is_hex_digit}
use Rattle.dl_text.specs.Lines.{is_blank}
use Rattle.dl_script_fields.specs.Argument.{is_label}
use Rattle.dl_script_fields.specs.Joined.{is_field}
use Rattle.dl_script_fields.specs.Spells.{is_letter}

-- ---- letters

pub letter_range : (b : ℕ) → is_letter b ≡ true → (33 ≤ b) × (b ≤ 126) × (eqb b 34 ≡ false)
letter_range b is =
    let parts = and_parts (leb 33 b && leb b 126) (not (eqb b 34)) is in
    let range = and_parts (leb 33 b) (leb b 126) parts.0 in
    (leb-true 33 b range.0, leb-true b 126 range.1, not-true _ parts.1)

pub is_letter-from : (b : ℕ) → 33 ≤ b → b ≤ 126 → b ≢ 34 → is_letter b ≡ true
is_letter-from b above below other = rw (le-leb 33 b above, le-leb b 126 below, ne_eqb b 34 other) refl

-- no letter is a byte below 33
pub is_other : (b c : ℕ) → is_letter b ≡ true → c < 33 → eqb b c ≡ false
is_other b c is low = let range = letter_range b is in ne_eqb b c (λ e. omega arith)

no_blank : (b : ℕ) → is_letter b ≡ true → is_blank b ≡ false
no_blank b is = or_from (eqb b 32) (eqb b 9) (is_other b 32 is (omega arith)) (is_other b 9 is (omega arith))

pub no_blanks : (xs : List ℕ) → list_all is_letter xs ≡ true → list_any is_blank xs ≡ false
no_blanks [] are = refl
no_blanks (b ∷ xs) are =
    let parts = and_parts (is_letter b) (list_all is_letter xs) are in
    or_from (is_blank b) (list_any is_blank xs) (no_blank b parts.0) (no_blanks xs parts.1)

pub ascii : (xs : List ℕ) → list_all is_letter xs ≡ true → IsAscii xs
ascii [] are i = omega arith
ascii (b ∷ xs) are zero = let range = letter_range b (and_parts (is_letter b) (list_all is_letter xs) are).0 in omega arith
ascii (b ∷ xs) are (suc i) = ascii xs (and_parts (is_letter b) (list_all is_letter xs) are).1 i

-- ---- what a line can hold

abbrev pub is_feed : ℕ → Bool
is_feed b = eqb b 10

-- no line feed, and no carriage return at the end
abbrev pub is_whole : List ℕ → Bool
is_whole [] = true
is_whole (b ∷ []) = not (is_feed b) && not (eqb b 13)
is_whole (b ∷ c ∷ rest) = not (is_feed b) && is_whole (c ∷ rest)

pub whole_holds_none : (xs : List ℕ) → is_whole xs ≡ true → list_any is_feed xs ≡ false
whole_holds_none [] is = refl
whole_holds_none (b ∷ []) is = or_from (is_feed b) false (not-true _ (and_parts (not (is_feed b)) (not (eqb b 13)) is).0) refl
whole_holds_none (b ∷ c ∷ rest) is =
    let parts = and_parts (not (is_feed b)) (is_whole (c ∷ rest)) is in
    or_from (is_feed b) (list_any is_feed (c ∷ rest)) (not-true _ parts.0) (whole_holds_none (c ∷ rest) parts.1)

-- what has no line feed, before what is whole
pub whole_behind : (xs : List ℕ) (y : ℕ) (ys : List ℕ) → list_any is_feed xs ≡ false → is_whole (y ∷ ys) ≡ true → is_whole (xs ++ (y ∷ ys)) ≡ true
whole_behind [] y ys none is = is
whole_behind (b ∷ []) y ys none is = and_from _ _ (not_from_false _ (or_parts (is_feed b) false none).0) is
whole_behind (b ∷ c ∷ xs) y ys none is =
    let parts = or_parts (is_feed b) (list_any is_feed (c ∷ xs)) none in
    and_from _ _ (not_from_false _ parts.0) (whole_behind (c ∷ xs) y ys parts.1 is)

pub whole-append : (xs ys : List ℕ) → is_whole xs ≡ true → is_whole ys ≡ true → is_whole (xs ++ ys) ≡ true
whole-append xs [] first second = rw append-nil first
whole-append xs (y ∷ ys) first second = whole_behind xs y ys (whole_holds_none xs first) second

pub letters_whole : (xs : List ℕ) → list_all is_letter xs ≡ true → is_whole xs ≡ true
letters_whole [] are = refl
letters_whole (b ∷ []) are =
    let parts = and_parts (is_letter b) true are in
    and_from _ _ (not_from_false _ (is_other b 10 parts.0 (omega arith))) (not_from_false _ (is_other b 13 parts.0 (omega arith)))
letters_whole (b ∷ c ∷ rest) are =
    let parts = and_parts (is_letter b) (list_all is_letter (c ∷ rest)) are in
    and_from _ _ (not_from_false _ (is_other b 10 parts.0 (omega arith))) (letters_whole (c ∷ rest) parts.1)

-- ---- a field

-- a field of a line that is text, and that stays what it is where it ends a line
pub record IsGood (field : List ℕ) : Type 0 where
  pub is : is_field field ≡ true
  pub utf8 : IsUtf8 field
  pub whole : is_whole field ≡ true

-- bytes with no blank, of which the first is a letter
pub unquoted : (b : ℕ) (rest : List ℕ) → is_letter b ≡ true → list_any is_blank rest ≡ false → is_field (b ∷ rest) ≡ true
unquoted b rest letter none = rw ((letter_range b letter).2, no_blank b letter, none) refl

pub letters_good : (field : List ℕ) → list_all is_letter field ≡ true → 1 ≤ length field → IsGood field
letters_good [] are some = absurd (omega arith)
letters_good (b ∷ rest) are some =
    let parts = and_parts (is_letter b) (list_all is_letter rest) are in
    record {
      is = unquoted b rest parts.0 (no_blanks rest parts.1);
      utf8 = IsUtf8-from_ascii (b ∷ rest) (ascii (b ∷ rest) are);
      whole = letters_whole (b ∷ rest) are;
    }

-- ---- digits

digit_letter : (b : ℕ) → (leb 48 b && leb b 57) ≡ true → is_letter b ≡ true
digit_letter b is =
    let parts = and_parts (leb 48 b) (leb b 57) is in
    let low = leb-true 48 b parts.0 in
    let high = leb-true b 57 parts.1 in
    is_letter-from b (omega arith) (omega arith) (λ e. omega arith)

pub digits_are : (xs : List ℕ) → all_ascii_digits xs ≡ true → list_all is_letter xs ≡ true
digits_are [] are = refl
digits_are (b ∷ xs) are =
    let parts = and_parts (is_ascii_digit b) (all_ascii_digits xs) are in
    and_from _ _ (digit_letter b parts.0) (digits_are xs parts.1)

hex_letter : (b : ℕ) → is_hex_digit b ≡ true → is_letter b ≡ true
hex_letter b is = elim (cases_Bool (leb 65 b && leb b 70)) [
  | inl upper ↦
      let parts = and_parts (leb 65 b) (leb b 70) upper in
      let low = leb-true 65 b parts.0 in let high = leb-true b 70 parts.1 in
      is_letter-from b (omega arith) (omega arith) (λ e. omega arith)
  | inr no_upper ↦ elim (cases_Bool (leb 97 b && leb b 102)) [
    | inl lower ↦
        let parts = and_parts (leb 97 b) (leb b 102) lower in
        let low = leb-true 97 b parts.0 in let high = leb-true b 102 parts.1 in
        is_letter-from b (omega arith) (omega arith) (λ e. omega arith)
    | inr no_lower ↦ elim (cases_Bool (leb 48 b && leb b 57)) [
      | inl digit ↦ digit_letter b digit
      | inr none ↦ let never = rw (no_upper, no_lower, none) at is in absurd cc
    ]
  ]
]

pub hex_are : (xs : List ℕ) → list_all is_hex_digit xs ≡ true → list_all is_letter xs ≡ true
hex_are [] are = refl
hex_are (b ∷ xs) are =
    let parts = and_parts (is_hex_digit b) (list_all is_hex_digit xs) are in
    and_from _ _ (hex_letter b parts.0) (hex_are xs parts.1)

-- a letter, a digit or `_`
label_letter : (b : ℕ) → (is_ascii_alphanumeric b || eqb b 95) ≡ true → is_letter b ≡ true
label_letter b is = elim (or_cases (is_ascii_alphanumeric b) (eqb b 95) is) [
  | inr under ↦ let same = eqb-true b 95 under in is_letter-from b (omega arith) (omega arith) (λ e. omega arith)
  | inl alphanumeric ↦ elim (or_cases ((leb 48 b && leb b 57) || (leb 65 b && leb b 90)) (leb 97 b && leb b 122) alphanumeric) [
    | inr lower ↦
        let parts = and_parts (leb 97 b) (leb b 122) lower in
        let low = leb-true 97 b parts.0 in let high = leb-true b 122 parts.1 in
        is_letter-from b (omega arith) (omega arith) (λ e. omega arith)
    | inl others ↦ elim (or_cases (leb 48 b && leb b 57) (leb 65 b && leb b 90) others) [
      | inl digit ↦ digit_letter b digit
      | inr upper ↦
          let parts = and_parts (leb 65 b) (leb b 90) upper in
          let low = leb-true 65 b parts.0 in let high = leb-true b 90 parts.1 in
          is_letter-from b (omega arith) (omega arith) (λ e. omega arith)
    ]
  ]
]

pub label_are : (xs : List ℕ) → is_label xs ≡ true → list_all is_letter xs ≡ true
label_are [] are = refl
label_are (b ∷ xs) are =
    let parts = and_parts (is_ascii_alphanumeric b || eqb b 95) (is_label xs) are in
    and_from _ _ (label_letter b parts.0) (label_are xs parts.1)

pub letters-append : (xs ys : List ℕ) → list_all is_letter xs ≡ true → list_all is_letter ys ≡ true → list_all is_letter (xs ++ ys) ≡ true
letters-append xs ys first second = list_all-append is_letter xs ys ∙ and_from _ _ first second
