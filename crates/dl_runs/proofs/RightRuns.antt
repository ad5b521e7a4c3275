-- All marks of a run rest on those before them, and each load is of its writer's application.
use Rattle.std.proofs.Common.{List, [], inl, inr}
use Rattle.dl_bytes.specs.declared.outcome.Done.{Done}
use Rattle.dl_script_model.specs.declared.step.Step.{Step}
use Rattle.dl_model.specs.Setting.{Setting}
use Rattle.dl_script_model.specs.Marks.{Mark, Filtered, Passed}
use Rattle.dl_script_model.specs.Runs.{AreFounded}
use Rattle.dl_script_model.specs.Steps.{after_lines, run}
use Rattle.dl_runs.proofs.Founded.{lines_founded, run_founded}
use Rattle.dl_runs.proofs.Relations.{AreAll, weaker, with_founded}
use Rattle.dl_runs.proofs.WriterRuns.{LoadsOwn, Right}
use Rattle.dl_runs.proofs.WellFormed.{Stands, lines_stand, run_stands}

loads_own : (setting : Setting) (done : List Mark) (mark : Mark) → Stands setting done mark → LoadsOwn done mark
loads_own setting done (Filtered c) (inl is) = is.0
loads_own setting done (Filtered c) (inr is) = is
loads_own setting done (Passed c) (inl is) = is.0
loads_own setting done (Passed c) (inr is) = is
loads_own setting done _ is = tt

right : (setting : Setting) (marks : List Mark) → AreFounded setting [] marks → AreAll (Stands setting) [] marks → AreAll (Right setting) [] marks
right setting marks founded stands = with_founded setting LoadsOwn [] marks founded (weaker (Stands setting) LoadsOwn (loads_own setting) [] marks stands)

pub lines_right : (setting : Setting) (answers : List Done) (steps : List Step) → AreAll (Right setting) [] (after_lines setting answers steps)
lines_right setting answers steps = right setting (after_lines setting answers steps) (lines_founded setting answers steps) (lines_stand setting answers steps)

pub run_right : (setting : Setting) (answers : List Done) (steps : List Step) → AreAll (Right setting) [] (run setting answers steps)
run_right setting answers steps = right setting (run setting answers steps) (run_founded setting answers steps) (run_stands setting answers steps)
