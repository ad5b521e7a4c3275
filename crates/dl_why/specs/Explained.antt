-- What is printed of a run of steps, and what its picture shows.
use Rattle.std.specs.Prelude.{ℕ, false, List, [], ◌++◌, None}
use Rattle.dl_bytes.specs.declared.outcome.TraceState.{TraceState}
use Rattle.dl_script_model.specs.declared.step.Step.{Step}
use Rattle.dl_fates.specs.Calls.{calls_in}
use Rattle.dl_fates.specs.ClaimLines.{claims_in}
use Rattle.dl_fates.specs.Told.{owners_in}
use Rattle.dl_call_timeline.specs.Timeline.{timeline}
use Rattle.dl_script_model.specs.Marks.{Mark, journal, records}
use Rattle.dl_script_model.specs.Replay.{report_of, specs_of}
use Rattle.dl_model.specs.Setting.{Setting}
use Rattle.dl_script_model.specs.Steps.{run}
use Rattle.dl_model.specs.TraceFiles.{StoredFile}
use Rattle.dl_model.specs.WholeAccounts.{source_of_records}
use Rattle.dl_picture.specs.Picture.{picture}
use Rattle.dl_fates.specs.Cases.{cases_of}
use Rattle.dl_fates.specs.Rows.{rows_of_run}

-- the run stores nothing itself, so its report tells nothing of a trace
abbrev pub no_trace : TraceState
no_trace = record { files = []; end = None }

-- the rows of the calls of a run, where its script is this text and these trace files stood before, and the report of the run
abbrev pub explained_of : Setting → List StoredFile → List ℕ → List Step → List Mark → List ℕ
explained_of setting stood text steps done =
    rows_of_run setting stood setting.buffer (records done) (journal done) (specs_of done) (claims_in text steps) (calls_in text steps)
    ++ report_of setting done no_trace false

-- the same of the run of these steps, in which each Store and each Reset is served
abbrev pub explained : Setting → List StoredFile → List ℕ → List Step → List ℕ
explained setting stood text steps = explained_of setting stood text steps (run setting [] steps)

-- the picture of a run whose script is this text: a row for each writer that these steps declare
abbrev pub drawn_of : Setting → List ℕ → List Step → List Mark → List ℕ
drawn_of setting text steps done =
    let source = source_of_records setting (records done) (specs_of done) in
    picture (timeline setting.ecu (owners_in steps) (cases_of source setting.buffer (records done) (journal done) (calls_in text steps)))

-- the same of the run of these steps, in which each Store and each Reset is served
abbrev pub drawn : Setting → List ℕ → List Step → List ℕ
drawn setting text steps = drawn_of setting text steps (run setting [] steps)
