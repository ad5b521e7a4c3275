use Rattle.std.proofs.Common.{◌≡◌, ◌∙◌, sym, true, false, arith, subst}
use Rattle.std.specs.Char.{is_ascii_digit}
use Rattle.std.specs.List.{list_all}
use Rattle.std.specs.Str.Parse.{ParsesUnsigned}
use Rattle.std.proofs.lemmas.Grind.{common_steps}
use Rattle.dl_text.proofs.Digits.{digits_utf8, parsed, not_digits}
use Rattle.dl_text.proofs.decimal.number.Goals as goal

pub returns-then-not-are_digits : goal.returns-then-not-are_digits
returns-then-not-are_digits c =
    let other : list_all is_ascii_digit c.args.text.now ≡ false = grind (arith, common_steps) in
    sym (not_digits c.args.text.now other)

pub returns-in_default : goal.returns-in_default
returns-in_default c =
    let digits : list_all is_ascii_digit c.args.text.now ≡ true = grind (arith, common_steps) in
    absurd (c.in_default.ensures.cases.0 (digits_utf8 c.args.text.now digits))

pub returns : goal.returns
returns c =
    let digits : list_all is_ascii_digit c.args.text.now ≡ true = grind (arith, common_steps) in
    c.ok.ensures.value
    ∙ parsed c.args.text.now c.parse.result (subst (λ t. ParsesUnsigned 64 10 t c.parse.result) c.in-Ok.ensures.cases.0 c.parse.ensures.value.0) digits
