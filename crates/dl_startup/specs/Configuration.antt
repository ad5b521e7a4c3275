-- Both configurations of a run, as the folder's files say them; and why they are not there.
use Rattle.std.specs.Prelude.{◌≡◌, ℕ, List, IfSome, IsOk, Result, Ok, Err}
use Rattle.dl_conf.specs.Outcome.{values_of}
use Rattle.dl_outside.specs.Folder.{Files}
use Rattle.dl_outside.specs.Outside.{HasRisen}
use Rattle.dl_outside.specs.Told.{FolderTold}
use Rattle.dl_startup.specs.Setup.{conf_in, stored_in}
use Rattle.dl_startup.specs.Unchanged.{IsQuiet, IsUnchanged}
use Rattle.dl_startup.specs.declared.configuration.Setup.{Setup}
use Rattle.dl_startup.specs.declared.status.Status.{Status}
use Rattle.dl_startup.specs.declared.status.Status.TheVariants.{ConfRefused, StoredRefused, FolderFault, OutOfMemory}

-- the files say these configurations, the first one under this name
pub record SayConfs (name : List ℕ) (files : Files) (setup : Setup) : Type 0 where
  pub conf : conf_in name files ≡ Ok (values_of setup.conf)
  pub stored : stored_in files ≡ Ok setup.stored

-- both configurations of these files are of the form
pub record AreSetUp (name : List ℕ) (files : Files) : Type 0 where
  pub conf : IsOk (conf_in name files)
  pub stored : IsOk (stored_in files)

-- Why there are no configurations: one line a status. No file is to change.
abbrev pub Unset : List ℕ → FolderTold → FolderTold → Status → Type 0
Unset name old new (ConfRefused line kind) = IfSome old.files (λ files. conf_in name files ≡ Err (line, kind)) × IsQuiet old new
Unset name old new (StoredRefused line kind) =
    IfSome old.files (λ files. IsOk (conf_in name files) × (stored_in files ≡ Err (line, kind))) × IsQuiet old new
Unset name old new FolderFault = HasRisen old.faults new.faults × IsUnchanged old new
Unset name old new OutOfMemory = IsQuiet old new
Unset name old new _ = ⊥

-- the configurations that the folder says, or why there are none
abbrev pub SetsUp : List ℕ → FolderTold → FolderTold → Result Setup Status → Type 0
SetsUp name old new (Ok setup) = IfSome old.files (λ files. SayConfs name files setup) × IsQuiet old new
SetsUp name old new (Err status) = Unset name old new status
