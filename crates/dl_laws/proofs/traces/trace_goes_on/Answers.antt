use Rattle.dl_model.proofs.Rotation.{begins, goes_on, newest_stands}
use Rattle.dl_laws.proofs.traces.trace_goes_on.Goals as goal

pub returns-clause-first : goal.returns-clause-first
returns-clause-first c = begins

pub returns-clause-later : goal.returns-clause-later
returns-clause-later c = goes_on

pub returns-clause-newest : goal.returns-clause-newest
returns-clause-newest c = newest_stands
