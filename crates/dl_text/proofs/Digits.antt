-- Decimal digits: they are ASCII, and what std's `parse` gives of them.
use Rattle.std.proofs.Common.{◌≡◌, ℕ, zero, suc, ◌^◌, ◌<◌, Bool, true, false, ltb, List, [], ◌∷◌, length, None, Result, Ok, Err, refl, sym, inl, inr, arith, ap, ◌∙◌, ◌&&◌}
use Rattle.std.specs.Char.{is_ascii_digit}
use Rattle.std.specs.List.{list_all}
use Rattle.std.specs.Result.{OkIff, result_ok}
use Rattle.std.specs.Str.{all_ascii_digits, IsAscii, IsUtf8}
use Rattle.std.specs.Str.Parse.{digits_value, ParsesUnsigned}
use Rattle.std.proofs.lemmas.Bool.{lt-ltb, cases_Bool, ltb-true}
use Rattle.std.proofs.lemmas.Grind.{common_steps}
use Rattle.std.proofs.lemmas.Str.{IsUtf8-from_ascii}
use Rattle.std.proofs.lemmas.Str.Parse.{IsNumeralModel, numerals_by_value, tells_all_ascii_digits, parse_digits}
use Rattle.dl_text.specs.Decimal.{number_of}

-- a test of digits and their value, as lemmas on `parse` take them
pub own : IsNumeralModel (λ ds. all_ascii_digits ds ≡ true) (digits_value 10)
own = numerals_by_value _ tells_all_ascii_digits

pub all_digits : (text : List ℕ) → list_all is_ascii_digit text ≡ all_ascii_digits text
all_digits [] = refl
all_digits (b ∷ rest) = ap (λ t. is_ascii_digit b && t) (all_digits rest)

-- a digit is ASCII, and the others are digits too
small : (b : ℕ) (t : Bool) → (is_ascii_digit b && t) ≡ true → (b < 128) × (t ≡ true)
small b t e = grind (arith, common_steps)

digits_ascii : (text : List ℕ) → all_ascii_digits text ≡ true → IsAscii text
digits_ascii [] e i = omega arith
digits_ascii (b ∷ rest) e zero = (small b (all_ascii_digits rest) e).0
digits_ascii (b ∷ rest) e (suc i) = digits_ascii rest (small b (all_ascii_digits rest) e).1 i

pub digits_utf8 : (text : List ℕ) → list_all is_ascii_digit text ≡ true → IsUtf8 text
digits_utf8 text e = IsUtf8-from_ascii text (digits_ascii text (sym (all_digits text) ∙ e))

told_by : {E : Type 0} (text : List ℕ) (r : Result ℕ E) → ParsesUnsigned 64 10 text r → all_ascii_digits text ≡ true
    → OkIff r ((0 < length text) × (digits_value 10 text < 2 ^ 64)) (digits_value 10 text)
told_by text r h all = parse_digits own 64 text r h all

-- what `parse` gives of digits
pub parsed : {E : Type 0} (text : List ℕ) (r : Result ℕ E) → ParsesUnsigned 64 10 text r → list_all is_ascii_digit text ≡ true → result_ok r ≡ number_of text
unfolding number_of
parsed {E} text (Ok n) h e =
    let all : all_ascii_digits text ≡ true = sym (all_digits text) ∙ e in
    let told = told_by {E = E} text (Ok n) h all in
    rw (told.1, all, lt-ltb 0 (length text) told.0.0, lt-ltb (digits_value 10 text) (2 ^ 64) told.0.1) refl
parsed {E} text (Err x) h e =
    let all : all_ascii_digits text ≡ true = sym (all_digits text) ∙ e in
    let told = told_by {E = E} text (Err x) h all in
    elim (cases_Bool (ltb 0 (length text))) [
      | inr short ↦ rw short refl
      | inl long ↦ elim (cases_Bool (ltb (digits_value 10 text) (2 ^ 64))) [
        | inr fails ↦ rw (long, all, fails) refl
        | inl holds ↦ absurd (told (ltb-true 0 (length text) long, ltb-true (digits_value 10 text) (2 ^ 64) holds))
      ]
    ]

-- a text with another byte is no number
pub not_digits : (text : List ℕ) → list_all is_ascii_digit text ≡ false → number_of text ≡ None
unfolding number_of
not_digits text e =
    let some : all_ascii_digits text ≡ false = sym (all_digits text) ∙ e in
    elim (cases_Bool (ltb 0 (length text))) [ inl long ↦ rw (long, some) refl | inr short ↦ rw short refl ]
