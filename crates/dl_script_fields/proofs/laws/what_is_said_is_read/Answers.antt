use Rattle.dl_script_fields.proofs.Values.{read_again}
use Rattle.dl_script_fields.proofs.laws.what_is_said_is_read.Goals as goal

pub returns : goal.returns
returns c = read_again
