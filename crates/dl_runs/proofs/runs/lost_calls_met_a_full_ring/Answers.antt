use Rattle.dl_script_model.specs.Steps.{after_lines, run}
use Rattle.dl_runs.proofs.RightRuns.{lines_right, run_right}
use Rattle.dl_runs.proofs.FullRings.{rooms, lost_met}
use Rattle.dl_runs.proofs.LostQueued.{lost_queued}
use Rattle.dl_runs.proofs.runs.lost_calls_met_a_full_ring.Goals as goal

pub returns-clause-room : goal.returns-clause-room
returns-clause-room c = λ setting answers steps. rooms setting (after_lines setting answers steps) (lines_right setting answers steps)

pub returns-clause-full : goal.returns-clause-full
returns-clause-full c = λ setting answers steps writer. lost_met setting writer (run setting answers steps) (run_right setting answers steps)

pub returns-clause-queued : goal.returns-clause-queued
returns-clause-queued c = lost_queued
