use Rattle.dl_replay.proofs.OneText.{prints}
use Rattle.dl_replay.proofs.laws.what_is_written_is_printed.Goals as goal

pub returns : goal.returns
returns c = prints
