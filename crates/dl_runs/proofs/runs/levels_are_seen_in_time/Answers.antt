use Rattle.dl_script_model.specs.Steps.{after_lines, run}
use Rattle.dl_runs.proofs.WriterLaws.{never_falling, seen_records}
use Rattle.dl_runs.proofs.RightRuns.{lines_right, run_right}
use Rattle.dl_runs.proofs.runs.levels_are_seen_in_time.Goals as goal

pub returns-clause-lines : goal.returns-clause-lines
returns-clause-lines c = λ setting answers steps writer. seen_records setting writer (after_lines setting answers steps) (lines_right setting answers steps)

pub returns-clause-whole : goal.returns-clause-whole
returns-clause-whole c = λ setting answers steps writer. seen_records setting writer (run setting answers steps) (run_right setting answers steps)

pub returns-clause-no_older : goal.returns-clause-no_older
returns-clause-no_older c = λ setting answers steps writer. never_falling setting writer (run setting answers steps) (run_right setting answers steps)
