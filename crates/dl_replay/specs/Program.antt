-- What the program promises.
use Rattle.std.specs.Prelude.{◌≡◌, ◌≢◌, ◌↔◌, ℕ, ◌<◌, ◌⊎◌, List, length, map, Option, Some, None, IfSome, IsSomeAnd, IsOk, IsOkAnd, String, string_bytes}
use Rattle.std.specs.FinMap as files
use Rattle.dl_outside.specs.Folder.{Files}
use Rattle.dl_outside.specs.Outside.{HasRisen}
use Rattle.dl_startup.specs.Input.{GaveAtMost}
use Rattle.dl_startup.specs.Configuration.{AreSetUp}
use Rattle.dl_startup.specs.Setup.{conf_in, conf_name, stored_name}
use Rattle.dl_startup.specs.Status.{number}
use Rattle.dl_script.specs.Script.{steps_of}
use Rattle.dl_trace.specs.InFolder.{IsTraceName}
use Rattle.dl_replay.specs.declared.begin.Start.{Start}
use Rattle.dl_startup.specs.declared.status.Status.{Status}
use Rattle.dl_startup.specs.declared.status.Status.TheVariants.{Ok, WordsRefused, OutOfMemory, NamesSpent}
use Rattle.dl_replay.specs.declared.task.Task.{Task}
use Rattle.dl_replay.specs.declared.task.Task.TheVariants.{Steps, Generate}
use Rattle.dl_replay.specs.Begin.{IsReadUp, IsSaid, Refuses}
use Rattle.dl_replay.specs.Finish.{Ends}
use Rattle.dl_replay.specs.Run.{Run, text_of}
use Rattle.dl_replay.specs.Status.{line_of}
use Rattle.dl_replay.specs.Task.{task_of}
use Rattle.dl_outside.specs.Told.{FolderTold, SinkTold, SourceTold}
use Rattle.dl_outside.specs.Written.{Wrote, WroteNothing}
use Rattle.dl_startup.specs.Unchanged.{IsUnchanged}
use Rattle.dl_replay.specs.Told.{Told, told}

-- ---- the two halves of a run

-- What a run began with: what folder and input say; the input was read to its end.
pub record Started (task : Task) (old new : Told) : Type 0 where
  pub start : Start
  pub said : IsSaid task old.input.left old.folder.files start
  pub read : IsReadUp task old.input new.input

-- a task ended with this status: the run did not begin, or it began and ended so
abbrev pub Outcome : Task → Told → Told → Status → Type 0
Outcome task old new status =
    (Refuses task old.input new.input old.folder new.folder status × WroteNothing old.out new.out)
    ⊎ ((it : Started task old new) × Ends task it.start old.folder new.folder old.out new.out status)

-- Without a task all is left as it was.
abbrev pub Asked : Option Task → Told → Told → Status → Type 0
Asked None old new status = (status ≡ WordsRefused) × (new ≡ old)
Asked (Some task) old new status = Outcome task old new status

-- ---- what is written

-- nothing was written and no file was to change
pub record IsUntouched (old new : Told) : Type 0 where
  pub out : WroteNothing old.out new.out
  pub folder : IsUnchanged old.folder new.folder

-- a run's report was written, whole or its front
pub record HasReported (task : Task) (old new : Told) : Type 0 where
  pub it : Started task old new
  pub run : Run it.start old.folder new.folder
  pub wrote : Wrote old.out new.out (text_of task run)

-- ---- the folder

-- the name of a trace file: of the configuration that the files say, where that names a directory
abbrev pub IsTraceFile : Files → List ℕ → Type 0
IsTraceFile all name = IsOkAnd (conf_in conf_name all) (λ values. (0 < length values.directory) × IsTraceName values.directory name)

-- every file is as it was, but the trace files and the stored configuration
abbrev pub ChangesOwnFiles : Option Files → Option Files → Type 0
ChangesOwnFiles old new =
    IfSome old (λ was. (now : Files) × (new ≡ Some now)
    × ((name : List ℕ) → name ≢ stored_name → ¬ (IsTraceFile was name) → files.get now name ≡ files.get was name))

-- ---- completeness

-- the steps of a task are there
abbrev pub HasSteps : Task → Option (List ℕ) → Type 0
HasSteps Steps left = IsSomeAnd left (λ script. IsOk (steps_of script))
HasSteps (Generate number calls) left = Unit {0}

-- what folder and input have is of the form, and nothing failed
pub record IsLawful (task : Task) (old new : Told) : Type 0 where
  pub confs : IsSomeAnd old.folder.files (AreSetUp conf_name)
  pub steps : HasSteps task old.input.left
  pub reads : ¬ (HasRisen old.input.faults new.input.faults)
  pub keeps : ¬ (HasRisen old.folder.faults new.folder.faults)
  pub writes : ¬ (HasRisen old.out.faults new.out.faults)

-- ---- the whole

-- What a run of the program comes to: the words, what input, folder and output told before and after, what standard error told before
-- and after, and the status.
pub record IsRun (words : List (List ℕ)) (old new : Told) (said said_now : SinkTold) (status : Status) : Type 0 where
  -- the words decide first
  pub words_decide : (status ≡ WordsRefused) ↔ (task_of words ≡ None)
  -- what the status says
  pub outcome : Asked (task_of words) old new status
  -- what is written is the report of a run of the task, or its front; or nothing is written
  pub written : WroteNothing old.out new.out ⊎ ((task : Task) × (task_of words ≡ Some task) × HasReported task old new)
  -- the input was read to its end, or nothing was written and no file was to change
  pub read_up : IsUntouched old new ⊎ ((task : Task) × (task_of words ≡ Some task) × IsReadUp task old.input new.input)
  -- no more is read than a script may have, and one byte
  pub at_most : GaveAtMost old.input.left new.input.left
  -- no other file changes
  pub others : ChangesOwnFiles old.folder.files new.folder.files
  -- where all is of the form and nothing fails, the report was written whole, or a frame had no name for its file, or memory was wanted
  pub complete : (task : Task) → task_of words ≡ Some task → IsLawful task old new
      → (status ≡ Ok) ⊎ (status ≡ NamesSpent) ⊎ (status ≡ OutOfMemory)
  -- nothing is said where all went well
  pub silent : status ≡ Ok → WroteNothing said said_now
  -- else the status's line, whole; or its front, where standard error failed
  pub told : status ≢ Ok → Wrote said said_now (line_of status)

-- ---- the calls, over what the outside tells

-- what a task comes to
abbrev pub Serves : Task → (input input_now : SourceTold) → (folder folder_now : FolderTold) → (out out_now : SinkTold) → Status → Type 0
Serves task input input_now folder folder_now out out_now status = Outcome task (told input folder out) (told input_now folder_now out_now) status

-- what the words come to, before anything is said
abbrev pub Asks : {Z : Type 0} → List (String Z) → (input input_now : SourceTold) → (folder folder_now : FolderTold) → (out out_now : SinkTold) → Status → Type 0
Asks words input input_now folder folder_now out out_now status =
    Asked (task_of (map string_bytes words)) (told input folder out) (told input_now folder_now out_now) status

-- what a run comes to, with its status by its name
abbrev pub Runs : {Z : Type 0} → List (String Z) → (input input_now : SourceTold) → (folder folder_now : FolderTold) → (out out_now err err_now : SinkTold) → Status → Type 0
Runs words input input_now folder folder_now out out_now err err_now status =
    IsRun (map string_bytes words) (told input folder out) (told input_now folder_now out_now) err err_now status

-- What a replay comes to: the words, what input, folder, output and standard error told before and after, and the exit status.
abbrev pub Replays : {Z : Type 0} → List (String Z) → (input input_now : SourceTold) → (folder folder_now : FolderTold) → (out out_now err err_now : SinkTold) → ℕ → Type 0
Replays words input input_now folder folder_now out out_now err err_now result =
    (status : Status) × (result ≡ number status) × Runs words input input_now folder folder_now out out_now err err_now status
