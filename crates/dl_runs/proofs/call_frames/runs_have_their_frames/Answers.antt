use Rattle.dl_script_model.specs.Steps.{after_lines, run}
use Rattle.dl_runs.proofs.Founded.{lines_founded, run_founded}
use Rattle.dl_runs.proofs.OneCall.{frames_now}
use Rattle.dl_runs.proofs.call_frames.runs_have_their_frames.Goals as goal

pub returns-clause-lines : goal.returns-clause-lines
returns-clause-lines c = λ setting answers steps. frames_now setting (after_lines setting answers steps) (lines_founded setting answers steps)

pub returns-clause-whole : goal.returns-clause-whole
returns-clause-whole c = λ setting answers steps. frames_now setting (run setting answers steps) (run_founded setting answers steps)
