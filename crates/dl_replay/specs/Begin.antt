-- What must be there before a run: its configurations and its steps, as folder and input say them; and why it is not there.
use Rattle.std.specs.Prelude.{◌≡◌, ℕ, List, [], Option, Some, IfSome, IsOk, Result, Ok, Err}
use Rattle.dl_script_model.specs.declared.step.Step.{Step}
use Rattle.dl_outside.specs.Folder.{Files}
use Rattle.dl_outside.specs.Outside.{HasRisen}
use Rattle.dl_startup.specs.Setup.{conf_in, conf_name, stored_in}
use Rattle.dl_script.specs.Generated.{generated}
use Rattle.dl_script.specs.Script.{steps_of}
use Rattle.dl_script.specs.declared.error.ScriptError.TheVariants as bad
use Rattle.dl_replay.specs.declared.begin.Start.{Start}
use Rattle.dl_startup.specs.declared.status.Status.{Status}
use Rattle.dl_startup.specs.declared.status.Status.TheVariants.{ConfRefused, StoredRefused, ScriptRefused, FolderFault, OutOfMemory, ReadFault}
use Rattle.dl_replay.specs.declared.task.Task.{Task}
use Rattle.dl_replay.specs.declared.task.Task.TheVariants.{Steps, Generate}
use Rattle.dl_outside.specs.Told.{FolderTold, SourceTold}
use Rattle.dl_startup.specs.Configuration.{AreSetUp, SayConfs}
use Rattle.dl_startup.specs.Unchanged.{IsQuiet, IsUnchanged}

-- ---- steps

-- the steps of a task: those of the script that the input has, or those that a number makes
abbrev pub SaySteps : Task → Option (List ℕ) → List Step → Type 0
SaySteps Steps left steps = IfSome left (λ script. steps_of script ≡ Ok steps)
SaySteps (Generate number calls) left steps = steps ≡ generated number calls

-- the input was read to its end, where it has the script; else it was left alone
abbrev pub IsReadUp : Task → SourceTold → SourceTold → Type 0
IsReadUp Steps old new = IfSome old.left (λ script. new.left ≡ Some []) × (new.faults ≡ old.faults)
IsReadUp (Generate number calls) old new = new ≡ old

-- why there are no steps
abbrev pub HasNoSteps : Task → SourceTold → SourceTold → Status → Type 0
HasNoSteps task old new (ScriptRefused line kind) =
    (task ≡ Steps) × IfSome old.left (λ script. steps_of script ≡ Err (bad.Fault line kind)) × (new.faults ≡ old.faults)
HasNoSteps task old new ReadFault = (task ≡ Steps) × HasRisen old.faults new.faults
HasNoSteps task old new OutOfMemory = new.faults ≡ old.faults
HasNoSteps task old new _ = ⊥

-- ---- a run

-- what a run begins with is what folder and input say
pub record IsSaid (task : Task) (left : Option (List ℕ)) (files : Option Files) (start : Start) : Type 0 where
  pub confs : IfSome files (λ all. SayConfs conf_name all (record { conf = start.conf; stored = start.stored }))
  pub steps : SaySteps task left start.steps

-- Why a run does not begin: one line a status. Nothing is written then, and no file is to change.
abbrev pub Refuses : Task → SourceTold → SourceTold → FolderTold → FolderTold → Status → Type 0
Refuses task input input_now folder folder_now (ConfRefused line kind) =
    IfSome folder.files (λ files. conf_in conf_name files ≡ Err (line, kind)) × IsQuiet folder folder_now × (input_now ≡ input)
Refuses task input input_now folder folder_now (StoredRefused line kind) =
    IfSome folder.files (λ files. IsOk (conf_in conf_name files) × (stored_in files ≡ Err (line, kind))) × IsQuiet folder folder_now × (input_now ≡ input)
Refuses task input input_now folder folder_now (ScriptRefused line kind) =
    IfSome folder.files (AreSetUp conf_name) × IsQuiet folder folder_now × HasNoSteps task input input_now (ScriptRefused line kind)
Refuses task input input_now folder folder_now ReadFault =
    IfSome folder.files (AreSetUp conf_name) × IsQuiet folder folder_now × HasNoSteps task input input_now ReadFault
Refuses task input input_now folder folder_now FolderFault = HasRisen folder.faults folder_now.faults × IsUnchanged folder folder_now × (input_now ≡ input)
Refuses task input input_now folder folder_now OutOfMemory = IsQuiet folder folder_now × (input_now.faults ≡ input.faults)
Refuses task input input_now folder folder_now _ = ⊥

-- ---- for inner functions

-- what a run begins with, or why it does not
abbrev pub Begins : Task → SourceTold → SourceTold → FolderTold → FolderTold → Result Start Status → Type 0
Begins task input input_now folder folder_now (Ok start) =
    IsSaid task input.left folder.files start × IsReadUp task input input_now × IsQuiet folder folder_now
Begins task input input_now folder folder_now (Err status) = Refuses task input input_now folder folder_now status

-- the steps of a task, or why they are not there
abbrev pub TakesSteps : Task → SourceTold → SourceTold → Result (List Step) Status → Type 0
TakesSteps task old new (Ok steps) = SaySteps task old.left steps × IsReadUp task old new
TakesSteps task old new (Err status) = HasNoSteps task old new status

-- the same where a number makes them: the input is left alone
abbrev pub MakesSteps : ℕ → ℕ → Result (List Step) Status → Type 0
MakesSteps number calls (Ok steps) = steps ≡ generated number calls
MakesSteps number calls (Err status) = status ≡ OutOfMemory
