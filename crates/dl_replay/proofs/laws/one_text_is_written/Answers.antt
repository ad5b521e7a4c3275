use Rattle.dl_replay.proofs.OneText.{one_text}
use Rattle.dl_replay.proofs.laws.one_text_is_written.Goals as goal

pub returns : goal.returns
returns c = one_text
