use Rattle.std.proofs.Common.{sym, ◌∙◌}
use Rattle.std.proofs.lemmas.Bool.{eqb-false}
use Rattle.dl_script_fields.proofs.Numbers.{signed_read}
use Rattle.dl_script_fields.proofs.value.integer.Goals as goal

pub returns : goal.returns
returns c =
    c.ok.ensures.value ∙ signed_read c.args.field.now c.parse.result c.parse.ensures.value.0 (eqb-false _ _ (sym c.if-has_plus.ensures))
