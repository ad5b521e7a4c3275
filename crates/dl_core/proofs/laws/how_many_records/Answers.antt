use Rattle.dl_core.proofs.Sizes.{lost_count}
use Rattle.dl_core.proofs.laws.how_many_records.Goals as goal

pub returns : goal.returns
returns c = lost_count
