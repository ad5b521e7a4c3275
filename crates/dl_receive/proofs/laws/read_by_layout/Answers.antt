use Rattle.dl_receive.proofs.Fields.{kind_read}
use Rattle.dl_receive.proofs.laws.read_by_layout.Goals as goal

pub returns : goal.returns
returns c = kind_read
