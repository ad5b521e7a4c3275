use Rattle.std.proofs.Common.{arith}
use Rattle.dl_script_model.specs.Marks.{claims, journal, records}
use Rattle.dl_model.specs.Report.{records_of_app}
use Rattle.dl_script_model.specs.Steps.{run}
use Rattle.dl_runs.specs.RunRecords.{refusals_of}
use Rattle.dl_runs.proofs.AccountWhole.{run_accounted}
use Rattle.dl_runs.proofs.LostUnsaid.{three_answers, admitted_are_queued}
use Rattle.dl_runs.proofs.runs.reports_add_up.Goals as goal

pub returns-clause-calls : goal.returns-clause-calls
returns-clause-calls c = λ setting answers steps app. three_answers (records_of_app app (records (run setting answers steps)))

pub returns-clause-admitted : goal.returns-clause-admitted
returns-clause-admitted c = λ setting answers steps app.
    let marks = run setting answers steps in
    admitted_are_queued setting.first (journal marks) (λ app. 0) (refusals_of marks) (claims marks) (records marks) (run_accounted setting answers steps) app

pub returns-clause-told : goal.returns-clause-told
returns-clause-told c = λ setting answers steps app. let told = (run_accounted setting answers steps).told app in omega (arith, told)
