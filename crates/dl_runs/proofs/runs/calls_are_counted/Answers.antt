use Rattle.dl_script_model.specs.Steps.{after_lines, run}
use Rattle.dl_runs.proofs.WriterLaws.{counted_records}
use Rattle.dl_runs.proofs.RightRuns.{lines_right, run_right}
use Rattle.dl_runs.proofs.runs.calls_are_counted.Goals as goal

pub returns-clause-lines : goal.returns-clause-lines
returns-clause-lines c = λ setting answers steps writer. counted_records setting writer (after_lines setting answers steps) (lines_right setting answers steps)

pub returns-clause-whole : goal.returns-clause-whole
returns-clause-whole c = λ setting answers steps writer. counted_records setting writer (run setting answers steps) (run_right setting answers steps)
