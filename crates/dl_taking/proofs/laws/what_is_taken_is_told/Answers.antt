use Rattle.dl_taking.proofs.DrainedEvents.{report_drain, step_drain}
use Rattle.dl_taking.proofs.laws.what_is_taken_is_told.Goals as goal

pub returns-clause-calls : goal.returns-clause-calls
returns-clause-calls c = step_drain

pub returns-clause-losses : goal.returns-clause-losses
returns-clause-losses c = report_drain
