-- The trace files among names, as a folder's answers tell them.
use Rattle.std.specs.Prelude.{◌≡◌, ℕ, ◌≤◌, ◌⊎◌, List, [], ◌∷◌, ◌++◌, map, codes, Option, Some, None, IfSome}
use Rattle.std.specs.FinMap as map
use Rattle.dl_bytes.specs.declared.outcome.TraceFile.{TraceFile}
use Rattle.dl_outside.specs.Folder.{Files, size_in}
use Rattle.dl_model.specs.TraceFiles.{StoredFile, greatest, number_limit, six_digits, trace_name}
use Rattle.dl_trace.specs.State.{listed}
use Rattle.dl_trace.specs.InFolder.{IsTraceName}

-- the file of this name has so many bytes
abbrev pub IsSize : Option Files → List ℕ → ℕ → Type 0
IsSize told name bytes = IfSome told (λ folder. Some bytes ≡ size_in folder name)

-- the name is that of no trace file, or there is no file of it
abbrev pub IsNoFile : Option Files → List ℕ → List ℕ → Type 0
IsNoFile told front name =
    ((number : ℕ) → 1 ≤ number → number ≤ number_limit → ¬ (name ≡ front ++ six_digits number ++ codes ".dlt"))
    ⊎ IfSome told (λ folder. map.get folder name ≡ None)

-- these files are those of the names that are trace files and are there, in the order of the names
abbrev pub Found : List ℕ → Option Files → List (List ℕ) → List StoredFile → Type 0
Found directory told [] stood = stood ≡ []
Found directory told (name ∷ names) stood =
    ((file : StoredFile) × (rest : List StoredFile) × (stood ≡ file ∷ rest) × (1 ≤ file.number) × (file.number ≤ number_limit) × (name ≡ trace_name directory file.number)
    × IfSome told (λ folder. map.get folder name ≡ Some file.bytes) × Found directory told names rest)
    ⊎ (((¬ (IsTraceName directory name)) ⊎ IfSome told (λ folder. map.get folder name ≡ None)) × Found directory told names stood)

-- what is told of them, and the greatest number
pub record AreFound (directory : List ℕ) (told : Option Files) (names : List (List ℕ)) (files : List TraceFile) (last : ℕ) : Type 0 where
  pub stood : List StoredFile
  pub found : Found directory told names stood
  pub files_are : files ≡ map (listed directory) stood
  pub last_is : last ≡ greatest stood
  pub within : last ≤ number_limit
