use Rattle.std.proofs.Common.{◌≡◌, ℕ, List, ◌++◌, Some, None, sym, ap, ◌∙◌, append_assoc, arith}
use Rattle.std.specs.Prelude.{codes}
use Rattle.std.proofs.lemmas.Slice.Eq.{strip_prefix_is, strip_suffix_is}
use Rattle.std.proofs.lemmas.Bool.Decides.{Decides-eqb}
use Rattle.dl_model.specs.TraceFiles.{six_digits}
use Rattle.dl_trace.proofs.name.number_of.Goals as goal

pub returns-in_err-strip_prefix-clause-only : goal.returns-in_err-strip_prefix-clause-only
returns-in_err-strip_prefix-clause-only c = λ number least most is.
    let never = strip_prefix_is Decides-eqb c.args.name.now c.args.front.now None c.in_err-strip_prefix.ensures.cases in
    absurd (never (six_digits number ++ codes ".dlt") (is ∙ append_assoc c.args.front.now (six_digits number) (codes ".dlt")))

pub returns-clause-found : goal.returns-clause-found
returns-clause-found c =
    let n = c.in_ok-number.number in
    let whole = strip_prefix_is Decides-eqb c.args.name.now c.args.front.now (Some c.in_ok-strip_prefix.field-0) c.in_ok-strip_prefix.ensures.cases in
    let rest = strip_suffix_is Decides-eqb c.in_ok-strip_prefix.field-0.now (codes ".dlt") (Some c.in_ok-spelled.spelled) c.in_ok-spelled.ensures.cases in
    let digits : c.in_ok-spelled.spelled.now ≡ six_digits n = c.in_ok-number.ensures.found.1 in (
      omega (arith, c.if-number-eq0.false),
      c.in_ok-number.ensures.found.0,
      whole ∙ ap (λ (r : List ℕ). c.args.front.now ++ r) (rest ∙ ap (λ (d : List ℕ). d ++ codes ".dlt") digits)
          ∙ sym (append_assoc c.args.front.now (six_digits n) (codes ".dlt")),
    )
