use Rattle.std.proofs.Common.{◌+◌, option_map, ap, ◌∙◌}
use Rattle.dl_script_fields.proofs.cut.first_mark.Goals as goal

pub returns-in_err-place-clause-value : goal.returns-in_err-place-clause-value
returns-in_err-place-clause-value c =
    c.from_residual.ensures ∙ ap (option_map (λ n. c.loop-piece.passed + n)) c.in_err-place.ensures.value ∙ c.loop-piece.invariant.behind

pub returns-clause-value : goal.returns-clause-value
returns-clause-value c =
    ap (option_map (λ n. c.loop-piece.passed + n)) c.in_ok-place.ensures.value ∙ c.loop-piece.invariant.behind
