use Rattle.dl_conf.proofs.Written.{read_again}
use Rattle.dl_conf.proofs.laws.what_is_written_is_read.Goals as goal

pub returns : goal.returns
returns c = read_again
