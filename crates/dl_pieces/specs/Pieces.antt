-- What is read of a file from a place on.
use Rattle.std.specs.Prelude.{◌≡◌, ℕ, ◌≤◌, ◌-◌, List, length, take, drop, Option, Some, None, IfSome, Result, Ok, Err}
use Rattle.std.specs.FinMap as map
use Rattle.dl_outside.specs.Folder.{Files}
use Rattle.dl_outside.specs.declared.folder.FolderFault.{FolderFault}

-- so many bytes were read from this place on into the front of a buffer: none only where no more are there
abbrev pub AreReadAt : (bytes : List ℕ) → (place count : ℕ) → (into : List ℕ) → Type 0
AreReadAt bytes place count into = (take count into ≡ take count (drop place bytes)) × (count ≤ length bytes - place) × (count ≡ 0 → length bytes ≤ place)

-- the file of this name was read from this place on; or there is none; or the read failed
abbrev pub ReadsAt : Option Files → (name : List ℕ) → (place : ℕ) → (into : List ℕ) → Result (Option ℕ) FolderFault → Type 0
ReadsAt told name place into (Ok (Some count)) =
    (count ≤ length into) × IfSome told (λ files. (bytes : List ℕ) × (map.get files name ≡ Some bytes) × AreReadAt bytes place count into)
ReadsAt told name place into (Ok None) = IfSome told (λ files. map.get files name ≡ None)
ReadsAt told name place into (Err fault) = Unit {0}
