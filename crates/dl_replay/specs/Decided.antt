-- What the words, the folder and the script decide: the text that a run prints with status 0.
use Rattle.std.specs.Prelude.{◌≡◌, ℕ, ◌-◌, ◌^◌, ◌<◌, List, [], Some, IfSome}
use Rattle.dl_script_model.specs.Replay.{printed}
use Rattle.dl_model.specs.TraceFiles.{StoredFile}
use Rattle.dl_outside.specs.Folder.{Files}
use Rattle.dl_outside.specs.Told.{SinkTold}
use Rattle.dl_outside.specs.Written.{WroteAll}
use Rattle.dl_trace.specs.InFolder.{HasFiles}
use Rattle.dl_replay.specs.declared.begin.Start.{Start}
use Rattle.dl_startup.specs.declared.status.Status.TheVariants.{Ok}
use Rattle.dl_replay.specs.declared.task.Task.{Task}
use Rattle.dl_replay.specs.Begin.{IsSaid}
use Rattle.dl_replay.specs.Program.{IsRun}
use Rattle.dl_replay.specs.Run.{IsTracing, setting}
use Rattle.dl_replay.specs.Task.{shows_frames, task_of}
use Rattle.dl_replay.specs.Told.{Told}

-- A task was played, and what was written is what `dl_model` prints for its steps: where these trace files stood, which are the folder's,
-- and the folder says Yes to each Store and each Reset.
pub record Prints (task : Task) (old new : Told) : Type 0 where
  pub start : Start
  pub said : IsSaid task old.input.left old.folder.files start
  pub stood : List StoredFile
  pub stood_are : IsTracing start → IfSome old.folder.files (λ files. HasFiles start.conf.directory files stood)
  pub wrote : WroteAll old.out new.out (printed (setting start) [] stood (shows_frames task) start.steps)

-- the same of the task that the words name
abbrev pub PrintsFor : List (List ℕ) → Told → Told → Type 0
PrintsFor words old new = (task : Task) × (task_of words ≡ Some task) × Prints task old new

-- a run ended with status 0, and the folder's count of faults had room to rise
pub record EndsWell (words : List (List ℕ)) (old new : Told) : Type 0 where
  pub err : SinkTold
  pub err_now : SinkTold
  pub run : IsRun words old new err err_now Ok
  pub counts : old.folder.faults < 2 ^ 64 - 1

-- a run over these words, this input and these files ended so
pub record EndsWellOver (words : List (List ℕ)) (script : List ℕ) (files : Files) (old new : Told) : Type 0 where
  pub well : EndsWell words old new
  pub script_is : old.input.left ≡ Some script
  pub files_are : old.folder.files ≡ Some files

-- two runs wrote one text
abbrev pub WriteOneText : (first first_now second second_now : Told) → Type 0
WriteOneText first first_now second second_now = (text : List ℕ) × WroteAll first.out first_now.out text × WroteAll second.out second_now.out text
