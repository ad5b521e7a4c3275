-- What a run begins with, as a folder's files say it.
use Rattle.std.specs.Prelude.{◌≡◌, ℕ, ◌<◌, List, [], length, codes, Option, Some, None, IfSome, Result, Ok, Err}
use Rattle.std.specs.Option.{option_map_or}
use Rattle.std.specs.FinMap as map
use Rattle.dl_bytes.specs.declared.conf.Conf.{Conf}
use Rattle.dl_bytes.specs.declared.conf.Stored.{Stored}
use Rattle.dl_conf.specs.Conf.{Values, conf_said, defaults}
use Rattle.dl_conf.specs.Stored.{stored_said}
use Rattle.dl_conf.specs.declared.conf.ConfKind.{ConfKind}
use Rattle.dl_conf.specs.declared.stored.StoredKind.{StoredKind}
use Rattle.dl_model.specs.TraceFiles.{StoredFile}
use Rattle.dl_outside.specs.Folder.{Files}
use Rattle.dl_outside.specs.Outside.{HasRisen}
use Rattle.dl_trace.specs.Made.{IsMade}
use Rattle.dl_trace.specs.InFolder.{HasFiles}
use Rattle.dl_trace.specs.State.{Trace, IsAfter}
use Rattle.dl_startup.specs.declared.setup.SetupError.{SetupError}
use Rattle.dl_startup.specs.declared.setup.SetupError.TheVariants.{Fault, Folder, OutOfMemory}

-- what the configuration of this name says, or its first fault; where there is none, the defaults
abbrev pub conf_in : List ℕ → Files → Result Values (ℕ × ConfKind)
conf_in name files = option_map_or conf_said (map.get files name) (Ok defaults)

-- the name of the configuration, where no other is asked for
abbrev pub conf_name : List ℕ
conf_name = codes "dlt.conf"

-- the name of the stored configuration
abbrev pub stored_name : List ℕ
stored_name = codes "dlt_stored.cfg"

-- where nothing is stored
abbrev pub none_stored : Stored
none_stored = record { level = None; own = [] }

-- what the stored configuration says, or its first fault; where there is none, nothing is stored
abbrev pub stored_in : Files → Result Stored (ℕ × StoredKind)
stored_in files = option_map_or stored_said (map.get files stored_name) (Ok none_stored)

-- What was read, seen by view, is what the files say, and a fault is theirs, where the folder tells them.
abbrev pub Says : {A B K : Type 0} → (A → B) → Option Files → (Files → Result B (ℕ × K)) → Result A (SetupError K) → Type 0
Says view told said (Ok read) = IfSome told (λ files. said files ≡ Ok (view read))
Says view told said (Err (Fault line kind)) = IfSome told (λ files. said files ≡ Err (line, kind))
Says view told said (Err Folder) = Unit {0}
Says view told said (Err OutOfMemory) = Unit {0}

-- the folder's count of faults rose where it failed, and stands with every other answer
abbrev pub HasCause : {A K : Type 0} → ℕ → ℕ → Result A (SetupError K) → Type 0
HasCause before now (Ok read) = now ≡ before
HasCause before now (Err (Fault line kind)) = now ≡ before
HasCause before now (Err Folder) = HasRisen before now
HasCause before now (Err OutOfMemory) = now ≡ before

-- No trace where no directory is named; else one of the configuration, which stored nothing yet, over the trace files
-- that stand.
abbrev pub IsBegun : Conf → Option Files → Option Trace → Type 0
IsBegun conf told None = conf.directory ≡ []
IsBegun conf told (Some trace) =
    (0 < length conf.directory) × IsMade conf trace
    × ((stood : List StoredFile) × IsAfter stood [] trace × IfSome told (λ files. HasFiles conf.directory files stood))
