use Rattle.dl_live.proofs.EndedRuns.{ended}
use Rattle.dl_live.proofs.laws.a_status_says_how_a_run_ended.Goals as goal

pub returns : goal.returns
returns g c = λ begun account ends old new failures status unfilled known finishes. ended begun account ends old new failures status unfilled known finishes
