use Rattle.std.proofs.Common.{sym, ◌∙◌}
use Rattle.dl_script_fields.proofs.Marks.{unmarked, closed_at}
use Rattle.dl_script_fields.proofs.cut.closing_quote.Goals as goal

pub returns-in_err-place-clause-value : goal.returns-in_err-place-clause-value
returns-in_err-place-clause-value c =
    c.from_residual.ensures ∙ sym (unmarked c.args.quoted.now (sym (rw c.as_bytes-bytes.ensures.value at c.in_err-place.ensures.value)))

pub returns-clause-value : goal.returns-clause-value
returns-clause-value c =
    closed_at c.args.quoted.now c.in_ok-place.place (sym (rw c.as_bytes-bytes.ensures.value at c.in_ok-place.ensures.value))
    (rw c.as_bytes-bytes.ensures.value at c.if-bytes-place-eq92.false)
