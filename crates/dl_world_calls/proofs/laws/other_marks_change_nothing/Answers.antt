use Rattle.dl_world_calls.proofs.Changing.{no-call-stays}
use Rattle.dl_world_calls.proofs.laws.other_marks_change_nothing.Goals as goal

pub returns : goal.returns
returns c = no-call-stays
