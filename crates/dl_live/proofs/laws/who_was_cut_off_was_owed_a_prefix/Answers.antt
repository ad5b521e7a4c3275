use Rattle.dl_live.proofs.CutOff.{owed_first}
use Rattle.dl_live.proofs.laws.who_was_cut_off_was_owed_a_prefix.Goals as goal

pub returns : goal.returns
returns c = owed_first
