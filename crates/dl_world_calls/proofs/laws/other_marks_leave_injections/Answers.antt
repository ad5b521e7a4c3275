use Rattle.dl_world_calls.proofs.InjectionCounts.{no-injection-stays}
use Rattle.dl_world_calls.proofs.laws.other_marks_leave_injections.Goals as goal

pub returns : goal.returns
returns c = no-injection-stays
