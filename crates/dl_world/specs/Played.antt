-- What a run of steps leaves: its records, claims and journal, what each client was sent, the backlog, and the trace files.
use Rattle.std.specs.Prelude.{◌≡◌, ℕ, ◌+◌, ◌-◌, ◌^◌, ◌<◌, ◌≤◌, min, Bool, true, false, List, [], ◌++◌, length, map, count_by, Option, Some, None, IfSome, IsSomeAnd, IfOk, Result}
use Rattle.std.specs.FinMap as files
use Rattle.dl_bytes.specs.declared.conf.Conf.{Conf}
use Rattle.dl_bytes.specs.declared.conf.Stored.{Stored}
use Rattle.dl_bytes.specs.declared.outcome.Done.{Done}
use Rattle.dl_bytes.specs.declared.outcome.Done.TheVariants as did
use Rattle.dl_bytes.specs.declared.outcome.TraceEnd.TheVariants.{Spent}
use Rattle.dl_bytes.specs.declared.outcome.TraceState.{TraceState}
use Rattle.dl_script_model.specs.declared.step.Step.{Step}
use Rattle.dl_model.specs.Setting.{Setting}
use Rattle.dl_script_model.specs.Marks.{Mark, Answered, claims, journal, records}
use Rattle.dl_model.specs.Frames.{stored_frames}
use Rattle.dl_model.specs.ClientStream.{traffic}
use Rattle.dl_model.specs.Backlog.{left}
use Rattle.dl_model.specs.TraceFiles.{StoredFile, is_spent}
use Rattle.dl_script_model.specs.Replay.{source_of, stream_of, clients, specs_of, ends_of}
use Rattle.dl_script_model.specs.Steps.{run}
use Rattle.dl_outside.specs.Folder.{Files}
use Rattle.dl_outside.specs.Told.{FolderTold}
use Rattle.dl_trace.specs.State.{IsAfter, Trace, listed}
use Rattle.dl_trace.specs.InFolder.{HasFiles}
use Rattle.dl_core.specs.Serving.{stored_name}
use Rattle.dl_core.specs.Settings.{setting_of}
use Rattle.dl_core.specs.Later.{trace_failures}
use Rattle.dl_core.specs.Standing.{Stands, files_with}
use Rattle.dl_world.specs.Stored.{HoldsStored}
use Rattle.dl_world.specs.declared.played.Played.{Played}

-- ---- trace files

-- the frames that a run stores, in order
abbrev pub frames_in : Setting → List Mark → List (List ℕ)
frames_in setting done = stored_frames (source_of setting done) (journal done)

-- What a trace tells at the end of a run: the trace files, with their names and sizes, of all frames that the run stores; or, where it
-- ended before, of some first ones of them. It ended as spent only where a frame needed a number that no file can have. And where the
-- folder held just the files that stood before, it holds what stands of these frames: their files, and what the end of the trace left.
pub record IsTraced (setting : Setting) (stood : List StoredFile) (done : List Mark) (state : TraceState) (told told_now : Option Files) : Type 0 where
  pub stored : List (List ℕ)
  pub later : List (List ℕ)
  pub all : frames_in setting done ≡ stored ++ later
  pub files_are : state.files ≡ map (listed setting.directory) (files_with setting stood stored)
  pub whole : state.end ≡ None → later ≡ []
  pub unspent : state.end ≡ None → 0 < length (frames_in setting done) → is_spent setting.file_size stood (frames_in setting done) ≡ false
  pub spent : state.end ≡ Some Spent → is_spent setting.file_size stood (frames_in setting done) ≡ true
  pub stands : IsSomeAnd told (λ folder. HasFiles setting.directory folder stood) → IsSomeAnd told_now (Stands state.end setting stood stored later)

-- where no trace was handed in, no file is told of
abbrev pub TellsOf : Setting → List StoredFile → List Mark → Option Trace → TraceState → Option Files → Option Files → Type 0
TellsOf setting stood done None state told told_now = state ≡ record { files = []; end = None }
TellsOf setting stood done (Some trace) state told told_now = IsTraced setting stood done state told told_now

-- ---- the folder

-- a request to store or to reset that the folder failed at
abbrev pub is_failed : Mark → Bool
is_failed (Answered did.Failed) = true
is_failed _ = false

-- how often the folder failed: at a request, or at the trace, which ends by it
abbrev pub failures : List Mark → TraceState → ℕ
failures done state = count_by is_failed done + trace_failures state.end

-- ---- the whole

-- A run was played: for some answers of the folder to the requests that asked it, records, claims, journal, streams, backlog and trace files
-- are those of the run of the steps. Where the folder failed at none of these requests, the stored configuration is what the journal made of
-- the file that stood there. The folder's count of faults rose by as many as it failed, at least.
pub record IsPlayed (setting : Setting) (stood : List StoredFile) (steps : List Step) (trace : Option Trace) (played : Played) (told told_now : FolderTold) : Type 0 where
  pub answers : List Done
  pub done : List Mark
  pub run_is : done ≡ run setting answers steps
  pub records_are : played.records ≡ records done
  pub claims_are : played.claims ≡ claims done
  pub events_are : played.events.events ≡ journal done
  pub streams_are : played.streams ≡ map (stream_of setting done) (clients done)
  pub specs_are : played.specs ≡ specs_of done
  pub ends_are : played.ends ≡ ends_of setting done played.ends.trace
  pub backlog_is : played.backlog ≡ left setting.buffer (traffic (source_of setting done) (journal done))
  pub trace_is : TellsOf setting stood done trace played.ends.trace told.files told_now.files
  pub stored : count_by is_failed done ≡ 0 → IfSome told.files (λ folder. HoldsStored setting (files.get folder stored_name) (journal done) told_now.files)
  pub faults_rose : min (told.faults + failures done played.ends.trace) (2 ^ 64 - 1) ≤ told_now.faults

-- what playing comes to, where it had memory, of a configuration, a stored one and a trace that was made of them
abbrev pub Plays : {E : Type 0} → Conf → Stored → Option Trace → List Step → FolderTold → FolderTold → Result Played E → Type 0
Plays conf stored trace steps told told_now result =
    IfOk result (λ played. (stood : List StoredFile) → IfSome trace (IsAfter stood [])
    → IsPlayed (setting_of conf stored 0) stood steps trace played told told_now)
