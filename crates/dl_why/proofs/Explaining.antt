-- What was played is the run that is explained.
use Rattle.std.proofs.Common.{◌≡◌, ℕ, ◌+◌, ◌-◌, ◌≤◌, min, false, List, [], ◌++◌, None, sym, ap, ◌∙◌, arith}
use Rattle.std.specs.Prelude.{◌^◌, count_by}
use Rattle.dl_bytes.specs.declared.conf.AppSpec.{AppSpec}
use Rattle.dl_bytes.specs.declared.outcome.Backlog.{Backlog}
use Rattle.dl_bytes.specs.declared.outcome.Ends.{Ends}
use Rattle.dl_fates.specs.Calls.{calls_in}
use Rattle.dl_fates.specs.ClaimLines.{claims_in}
use Rattle.dl_fates.specs.Told.{owners_in}
use Rattle.dl_call_timeline.specs.Timeline.{timeline}
use Rattle.dl_events.specs.declared.event.Event.{Event}
use Rattle.dl_events.specs.declared.record.Record.{Record}
use Rattle.dl_script_model.specs.declared.step.Step.{Step}
use Rattle.dl_script_model.specs.Marks.{journal, records}
use Rattle.dl_script_model.specs.Replay.{ends_of, specs_of}
use Rattle.dl_model.specs.Report.{report}
use Rattle.dl_model.specs.Setting.{Setting}
use Rattle.dl_script_model.specs.Steps.{run}
use Rattle.dl_model.specs.TraceFiles.{StoredFile}
use Rattle.dl_model.specs.WholeAccounts.{source_of_records}
use Rattle.dl_outside.specs.Told.{FolderTold}
use Rattle.dl_startup.specs.Failures.{unserved}
use Rattle.dl_world.specs.Played.{IsPlayed, failures, is_failed}
use Rattle.dl_world.specs.declared.played.Played.{Played}
use Rattle.dl_replay.proofs.Answering.{said_yes}
use Rattle.dl_picture.specs.Picture.{picture}
use Rattle.dl_fates.specs.Cases.{cases_of}
use Rattle.dl_why.specs.Explained.{drawn, drawn_of, explained, explained_of, no_trace}
use Rattle.dl_fates.specs.Rows.{more_words, rows_of}

-- the text of what a run left
abbrev pub text_by : Setting → List StoredFile → List ℕ → List Step → List (List Record) → List Event → List AppSpec → Ends → Backlog → List ℕ
text_by setting stood text steps records events specs ends backlog =
    let source = source_of_records setting records specs in
    rows_of source setting.buffer records events specs (more_words setting stood source events (claims_in text steps)) (calls_in text steps) ++ report records events specs ends backlog None

-- the picture of what a run left
abbrev pub picture_by : Setting → List ℕ → List Step → List (List Record) → List Event → List AppSpec → List ℕ
picture_by setting text steps records events specs =
    picture (timeline setting.ecu (owners_in steps) (cases_of (source_of_records setting records specs) setting.buffer records events (calls_in text steps)))

module _ (setting : Setting) (stood : List StoredFile) (text : List ℕ) (steps : List Step) (played : Played) (told told_now : FolderTold) (is : IsPlayed setting [] steps None played told told_now) where
  of_marks : text_by setting stood text steps played.records played.events.events played.specs played.ends played.backlog ≡ explained_of setting stood text steps is.done
  of_marks =
      let trace : played.ends.trace ≡ no_trace = is.trace_is in
      let ends : played.ends ≡ ends_of setting is.done no_trace = is.ends_are ∙ ap (ends_of setting is.done) trace in
      ap (λ (rs : List (List Record)). text_by setting stood text steps rs played.events.events played.specs played.ends played.backlog) is.records_are
      ∙ ap (λ (es : List Event). text_by setting stood text steps (records is.done) es played.specs played.ends played.backlog) is.events_are
      ∙ ap (λ (ss : List AppSpec). text_by setting stood text steps (records is.done) (journal is.done) ss played.ends played.backlog) is.specs_are
      ∙ ap (λ (e : Ends). text_by setting stood text steps (records is.done) (journal is.done) (specs_of is.done) e played.backlog) ends
      ∙ ap (text_by setting stood text steps (records is.done) (journal is.done) (specs_of is.done) (ends_of setting is.done no_trace)) is.backlog_is

  drawn_of_marks : picture_by setting text steps played.records played.events.events played.specs ≡ drawn_of setting text steps is.done
  drawn_of_marks =
      ap (λ (rs : List (List Record)). picture_by setting text steps rs played.events.events played.specs) is.records_are
      ∙ ap (λ (es : List Event). picture_by setting text steps (records is.done) es played.specs) is.events_are
      ∙ ap (λ (ss : List AppSpec). picture_by setting text steps (records is.done) (journal is.done) ss) is.specs_are

  -- where the folder never fails, and each Store and each Reset had memory, the marks are those of the run in which each is served
  same_run : told.faults ≡ 0 → told_now.faults ≡ 0 → unserved played.events.events ≡ false → is.done ≡ run setting [] steps
  same_run first last served =
      let rises : min (told.faults + failures is.done played.ends.trace) (2 ^ 64 - 1) ≤ told_now.faults = is.faults_rose in
      let none : count_by is_failed is.done ≡ 0 = omega (arith, rises, first, last) in
      let done : is.done ≡ run setting is.answers steps = is.run_is in
      let fine : unserved (journal (run setting is.answers steps)) ≡ false = sym (ap unserved (is.events_are ∙ ap journal done)) ∙ served in
      done ∙ said_yes setting is.answers steps (sym (ap (count_by is_failed) done) ∙ none) fine

  pub is_explained : told.faults ≡ 0 → told_now.faults ≡ 0 → unserved played.events.events ≡ false →
      text_by setting stood text steps played.records played.events.events played.specs played.ends played.backlog ≡ explained setting stood text steps
  is_explained first last served = of_marks ∙ ap (explained_of setting stood text steps) (same_run first last served)

  pub is_drawn : told.faults ≡ 0 → told_now.faults ≡ 0 → unserved played.events.events ≡ false → picture_by setting text steps played.records played.events.events played.specs ≡ drawn setting text steps
  is_drawn first last served = drawn_of_marks ∙ ap (drawn_of setting text steps) (same_run first last served)
