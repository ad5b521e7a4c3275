use Rattle.dl_script_fields.proofs.Spellings.{said}
use Rattle.dl_script_fields.proofs.laws.each_argument_can_be_said.Goals as goal

pub returns : goal.returns
returns c = said
