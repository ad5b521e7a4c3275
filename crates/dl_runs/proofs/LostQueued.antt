-- An application that lost a call had as many queued ones and claims as its ring holds.
use Rattle.std.proofs.Common.{ℕ, ◌+◌, ◌<◌, ◌≤◌, List, length, arith}
use Rattle.dl_bytes.specs.declared.outcome.Done.{Done}
use Rattle.dl_events.specs.declared.record.Answer.TheVariants as answer
use Rattle.dl_script_model.specs.declared.step.Step.{Step}
use Rattle.dl_model.specs.Setting.{Setting}
use Rattle.dl_script_model.specs.Marks.{capacity_of, claims, journal, records}
use Rattle.dl_model.specs.Accounts.{claims as claims_noted}
use Rattle.dl_model.specs.Report.{answered, records_of_app}
use Rattle.dl_script_model.specs.Steps.{run}
use Rattle.dl_runs.specs.RunRecords.{refusals_of}
use Rattle.dl_runs.proofs.AccountRuns.{lost_of_app}
use Rattle.dl_runs.proofs.AccountWhole.{run_accounted}
use Rattle.dl_runs.proofs.Drained.{run_empties}
use Rattle.dl_runs.proofs.FullRings.{had_pushed}
use Rattle.dl_runs.proofs.LostUnsaid.{admitted_are_queued, takes_are}
use Rattle.dl_runs.proofs.RightRuns.{run_right}

pub lost_queued : (setting : Setting) (answers : List Done) (steps : List Step) (app : ℕ) → 0 < answered answer.Lost (records_of_app app (records (run setting answers steps))) →
    capacity_of (run setting answers steps) app ≤ answered answer.Queued (records_of_app app (records (run setting answers steps))) + length (claims_noted app (journal (run setting answers steps)))
lost_queued setting answers steps app some =
    let marks = run setting answers steps in
    let right = run_right setting answers steps in
    let same = lost_of_app setting marks right app in
    let had = had_pushed setting marks right app (omega (arith, some, same)) in
    let empty = run_empties setting answers steps app had.0 in
    let admitted = admitted_are_queued setting.first (journal marks) (λ app. 0) (refusals_of marks) (claims marks) (records marks) (run_accounted setting answers steps) app in
    omega (arith, had.1, empty.all_taken, admitted, takes_are app (journal marks))
