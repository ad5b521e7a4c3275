-- What it means that a folder holds trace files.
use Rattle.std.specs.Prelude.{◌≡◌, ◌≢◌, ℕ, ◌<◌, ◌≤◌, ◌==◌, List, [], ◌∷◌, Option, Some, None, IfSome, if◌then◌else◌}
use Rattle.std.specs.FinMap as map
use Rattle.dl_outside.specs.Folder.{Files}
use Rattle.dl_model.specs.TraceFiles.{StoredFile, number_limit, trace_name}

-- the bytes of the file with this number
abbrev pub bytes_of : ℕ → List StoredFile → Option (List ℕ)
bytes_of number [] = None
bytes_of number (file ∷ files) = if file.number == number then Some file.bytes else bytes_of number files

-- the numbers rise, from above the least on, and each has six digits
abbrev pub AreRising : ℕ → List StoredFile → Type 0
AreRising least [] = Unit {0}
AreRising least (file ∷ files) = (least < file.number) × (file.number ≤ number_limit) × AreRising file.number files

-- The trace files of a directory are just these: of each number from 1 on the folder has the file that is listed, and
-- none where none is.
pub record HasFiles (directory : List ℕ) (folder : Files) (files : List StoredFile) : Type 0 where
  pub rising : AreRising 0 files
  pub each : (number : ℕ) → 1 ≤ number → number ≤ number_limit → map.get folder (trace_name directory number) ≡ bytes_of number files

-- the same, but that the file of one number is not known
pub record HasFilesBut (directory : List ℕ) (unknown : ℕ) (folder : Files) (files : List StoredFile) : Type 0 where
  pub rising : AreRising 0 files
  pub each : (number : ℕ) → 1 ≤ number → number ≤ number_limit → number ≢ unknown → map.get folder (trace_name directory number) ≡ bytes_of number files

-- a name of a trace file of the directory
abbrev pub IsTraceName : List ℕ → List ℕ → Type 0
IsTraceName directory name = (number : ℕ) × (1 ≤ number) × (number ≤ number_limit) × (name ≡ trace_name directory number)

-- every file is as it was, but the trace files of the directory
abbrev pub ChangesTraceFiles : List ℕ → Option Files → Option Files → Type 0
ChangesTraceFiles directory told told_now =
    IfSome told (λ folder. (now : Files) × (told_now ≡ Some now)
    × ((name : List ℕ) → ¬ (IsTraceName directory name) → map.get now name ≡ map.get folder name))
