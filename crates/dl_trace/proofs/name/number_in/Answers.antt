use Rattle.std.proofs.Common.{◌≡◌, ℕ, ◌+◌, ◌/◌, ◌≤◌, List, [], ◌∷◌, get_or, length, sym, ap, ◌∙◌, arith}
use Rattle.std.proofs.lemmas.Slice.Eq.{text_from_reads}
use Rattle.dl_trace.proofs.Names.{no_digit, value, digits_of_value}
use Rattle.dl_trace.proofs.name.number_in.Goals as goal

pub returns-in_err-digit_value-clause-only : goal.returns-in_err-digit_value-clause-only
returns-in_err-digit_value-clause-only c = λ number most is. absurd (no_digit _ c.digit_value.result c.digit_value.ensures.only c.in_err-digit_value.was (number / 100000) (ap (λ (xs : List ℕ). get_or xs 0 0) is))

pub returns-in_err-digit_value-2-clause-only : goal.returns-in_err-digit_value-2-clause-only
returns-in_err-digit_value-2-clause-only c = λ number most is. absurd (no_digit _ c.digit_value-2.result c.digit_value-2.ensures.only c.in_err-digit_value-2.was (number / 10000) (ap (λ (xs : List ℕ). get_or xs 1 0) is))

pub returns-in_err-high-clause-only : goal.returns-in_err-high-clause-only
returns-in_err-high-clause-only c = λ number most is. absurd (no_digit _ c.digit_value-3.result c.digit_value-3.ensures.only c.in_err-high.was (number / 1000) (ap (λ (xs : List ℕ). get_or xs 2 0) is))

pub returns-in_err-digit_value-3-clause-only : goal.returns-in_err-digit_value-3-clause-only
returns-in_err-digit_value-3-clause-only c = λ number most is. absurd (no_digit _ c.digit_value-4.result c.digit_value-4.ensures.only c.in_err-digit_value-3.was (number / 100) (ap (λ (xs : List ℕ). get_or xs 3 0) is))

pub returns-in_err-digit_value-4-clause-only : goal.returns-in_err-digit_value-4-clause-only
returns-in_err-digit_value-4-clause-only c = λ number most is. absurd (no_digit _ c.digit_value-5.result c.digit_value-5.ensures.only c.in_err-digit_value-4.was (number / 10) (ap (λ (xs : List ℕ). get_or xs 4 0) is))

pub returns-in_err-low-clause-only : goal.returns-in_err-low-clause-only
returns-in_err-low-clause-only c = λ number most is. absurd (no_digit _ c.digit_value-6.result c.digit_value-6.ensures.only c.in_err-low.was (number / 1) (ap (λ (xs : List ℕ). get_or xs 5 0) is))

pub returns-clause-found : goal.returns-clause-found
returns-clause-found c =
    let most : value c.in_ok-digit_value.field-0 c.in_ok-digit_value-2.field-0 c.in_ok-high.field-0 c.in_ok-digit_value-3.field-0 c.in_ok-digit_value-4.field-0 c.in_ok-low.field-0 ≤ 999999 = omega (arith, c.in_ok-digit_value.ensures.found.0, c.in_ok-digit_value-2.ensures.found.0, c.in_ok-high.ensures.found.0, c.in_ok-digit_value-3.ensures.found.0, c.in_ok-digit_value-4.ensures.found.0, c.in_ok-low.ensures.found.0) in
    let spelled = digits_of_value c.in_ok-digit_value.field-0 c.in_ok-digit_value-2.field-0 c.in_ok-high.field-0 c.in_ok-digit_value-3.field-0 c.in_ok-digit_value-4.field-0 c.in_ok-low.field-0 c.in_ok-digit_value.ensures.found.0 c.in_ok-digit_value-2.ensures.found.0 c.in_ok-high.ensures.found.0 c.in_ok-digit_value-3.ensures.found.0 c.in_ok-digit_value-4.ensures.found.0 c.in_ok-low.ensures.found.0 in
    let len : length c.args.digits.now ≡ 6 = omega arith in
    (most, text_from_reads c.args.digits.now ((48 + c.in_ok-digit_value.field-0) ∷ (48 + c.in_ok-digit_value-2.field-0) ∷ (48 + c.in_ok-high.field-0) ∷ (48 + c.in_ok-digit_value-3.field-0) ∷ (48 + c.in_ok-digit_value-4.field-0) ∷ (48 + c.in_ok-low.field-0) ∷ []) len (c.in_ok-digit_value.ensures.found.1, (c.in_ok-digit_value-2.ensures.found.1, (c.in_ok-high.ensures.found.1, (c.in_ok-digit_value-3.ensures.found.1, (c.in_ok-digit_value-4.ensures.found.1, (c.in_ok-low.ensures.found.1, tt)))))) ∙ sym spelled)
