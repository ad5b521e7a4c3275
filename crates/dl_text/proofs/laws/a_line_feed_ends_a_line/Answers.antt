use Rattle.dl_text.proofs.LineEnds.{first_line}
use Rattle.dl_text.proofs.laws.a_line_feed_ends_a_line.Goals as goal

pub returns : goal.returns
returns c = λ line rest inside. first_line line inside rest
