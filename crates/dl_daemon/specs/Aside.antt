-- A stored configuration that isn't of the form, put under another name.
use Rattle.std.specs.Prelude.{◌≡◌, ◌≢◌, ◌⊎◌, ℕ, List, codes, Option, Some, None, IfSome, IsOk, Result, Ok, Err}
use Rattle.std.specs.FinMap as map
use Rattle.dl_conf.specs.Stored.{stored_said}
use Rattle.dl_outside.specs.Folder.{Files}
use Rattle.dl_outside.specs.Told.{FolderTold}
use Rattle.dl_outside.specs.declared.folder.FolderFault.{FolderFault}
use Rattle.dl_outside.specs.declared.folder.FolderFault.TheVariants.{Failed, OutOfMemory}
use Rattle.dl_startup.specs.Setup.{stored_in, stored_name}
use Rattle.dl_startup.specs.Unchanged.{IsQuiet}
use Rattle.dl_daemon.specs.declared.aside.BadStored.{BadStored}

-- the name under which it is kept
abbrev pub bad_name : List ℕ
bad_name = codes "dlt_stored.cfg.bad"

-- what is wrong with a text, if something is: memory is wanted only for a text of the form
abbrev pub SaysFault : List ℕ → Result (Option BadStored) FolderFault → Type 0
SaysFault text (Ok None) = IsOk (stored_said text)
SaysFault text (Ok (Some bad)) = stored_said text ≡ Err (bad.line, bad.kind)
SaysFault text (Err Failed) = ⊥
SaysFault text (Err OutOfMemory) = IsOk (stored_said text)

-- the files with this text under the bad name, and none under that of the stored configuration
abbrev pub renamed : List ℕ → Files → Files
renamed text files = map.remove (map.insert files bad_name text) stored_name

-- the files but these two are as they were, and one of the two names has this text
pub record IsKept (found : Option (List ℕ)) (files now : Files) : Type 0 where
  pub others : (name : List ℕ) → name ≢ stored_name → name ≢ bad_name → map.get now name ≡ map.get files name
  pub text : (map.get now stored_name ≡ found) ⊎ (map.get now bad_name ≡ found)

-- the text of a stored configuration is put under the bad name; after a fault one of the two names has it
abbrev pub Renames : List ℕ → Option Files → Option Files → Result (Unit {0}) FolderFault → Type 0
Renames text old new (Ok done) = IfSome old (λ files. new ≡ Some (renamed text files))
Renames text old new (Err fault) =
    IfSome old (λ files. map.get files stored_name ≡ Some text → (now : Files) × (new ≡ Some now) × IsKept (Some text) files now)

-- a text was stored that isn't of the form, and it alone has another name now
abbrev pub IsAside : BadStored → Files → Option Files → Type 0
IsAside bad files new =
    (stored_in files ≡ Err (bad.line, bad.kind))
    × ((text : List ℕ) × (map.get files stored_name ≡ Some text) × (new ≡ Some (renamed text files)))

-- What becomes of the stored configuration. One of the form stays, and so does a folder without one; after a fault no byte is lost.
abbrev pub SetsAside : FolderTold → FolderTold → Result (Option BadStored) FolderFault → Type 0
SetsAside old new (Ok None) = IfSome old.files (λ files. IsOk (stored_in files)) × IsQuiet old new
SetsAside old new (Ok (Some bad)) = IfSome old.files (λ files. IsAside bad files new.files)
SetsAside old new (Err fault) = IfSome old.files (λ files. (now : Files) × (new.files ≡ Some now) × IsKept (map.get files stored_name) files now)
