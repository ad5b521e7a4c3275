use Rattle.dl_text.proofs.LineParts.{parted}
use Rattle.dl_text.proofs.laws.first_mark_parts.Goals as goal

pub returns : goal.returns
returns c = parted
