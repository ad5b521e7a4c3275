use Rattle.dl_runs.proofs.CutRuns.{same_requests}
use Rattle.dl_runs.proofs.cutting.cut_requests_come_to_the_same.Goals as goal

pub returns : goal.returns
returns c = λ setting answers client cut. same_requests setting answers cut.before cut.after client cut.first cut.others
