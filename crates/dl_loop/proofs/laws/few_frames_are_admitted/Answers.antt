use Rattle.dl_loop.proofs.AdmittedBounds.{bounds_few, bounds_logs, bounds_lost}
use Rattle.dl_loop.proofs.laws.few_frames_are_admitted.Goals as goal

pub returns-clause-few : goal.returns-clause-few
returns-clause-few c = bounds_few

pub returns-clause-logs : goal.returns-clause-logs
returns-clause-logs c = bounds_logs

pub returns-clause-lost : goal.returns-clause-lost
returns-clause-lost c = bounds_lost
