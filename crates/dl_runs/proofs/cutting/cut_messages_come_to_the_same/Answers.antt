use Rattle.dl_runs.proofs.CutRuns.{same_messages}
use Rattle.dl_runs.proofs.cutting.cut_messages_come_to_the_same.Goals as goal

pub returns : goal.returns
returns c = λ setting answers channel cut. same_messages setting answers cut.before cut.after channel cut.first cut.others
