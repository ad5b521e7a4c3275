use Rattle.dl_runs.proofs.CallCauses.{lines_have, run_has, lines_met, run_met, lines_told, run_told}
use Rattle.dl_runs.proofs.causes.every_call_of_a_run_has_one_cause.Goals as goal

pub returns-clause-lines : goal.returns-clause-lines
returns-clause-lines c = lines_have

pub returns-clause-whole : goal.returns-clause-whole
returns-clause-whole c = run_has

pub returns-clause-full_so_far : goal.returns-clause-full_so_far
returns-clause-full_so_far c = lines_met

pub returns-clause-full : goal.returns-clause-full
returns-clause-full c = run_met

pub returns-clause-told_so_far : goal.returns-clause-told_so_far
returns-clause-told_so_far c = lines_told

pub returns-clause-told : goal.returns-clause-told
returns-clause-told c = run_told
