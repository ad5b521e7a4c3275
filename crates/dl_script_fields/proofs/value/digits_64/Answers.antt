use Rattle.std.proofs.Common.{sym, ◌∙◌}
use Rattle.std.proofs.lemmas.Bool.{eqb-false}
use Rattle.dl_script_fields.proofs.Numbers.{unsigned_read}
use Rattle.dl_script_fields.proofs.value.digits_64.Goals as goal

pub returns : goal.returns
returns c =
    c.ok.ensures.value ∙ unsigned_read 64 c.args.field.now c.parse.result c.parse.ensures.value.0 (eqb-false _ _ (sym c.if-has_plus.ensures))
