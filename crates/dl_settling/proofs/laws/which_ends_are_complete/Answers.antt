use Rattle.dl_settling.proofs.EndedClients.{slow_ends, stopped_ends, stuck_ends}
use Rattle.dl_settling.proofs.laws.which_ends_are_complete.Goals as goal

pub returns-clause-stopped : goal.returns-clause-stopped
returns-clause-stopped g c = stopped_ends

pub returns-clause-stuck : goal.returns-clause-stuck
returns-clause-stuck g c = stuck_ends

pub returns-clause-slow : goal.returns-clause-slow
returns-clause-slow g c = slow_ends
