use Rattle.dl_script_fields.proofs.SpelledArguments.{argument_good}
use Rattle.dl_script_fields.proofs.laws.an_argument_is_a_field.Goals as goal

pub returns : goal.returns
returns c a is = (argument_good a is).is
