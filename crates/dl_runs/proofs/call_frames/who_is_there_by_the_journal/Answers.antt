use Rattle.dl_script_model.specs.Marks.{journal}
use Rattle.dl_laws.proofs.Quiet.{open_in_journal, came_in_journal}
use Rattle.dl_runs.proofs.call_frames.who_is_there_by_the_journal.Goals as goal

pub returns-clause-there : goal.returns-clause-there
returns-clause-there c = λ source client done. open_in_journal source client (journal done)

pub returns-clause-came : goal.returns-clause-came
returns-clause-came c = came_in_journal
