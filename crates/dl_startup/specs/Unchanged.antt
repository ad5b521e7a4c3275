-- A folder that is left as it was.
use Rattle.std.specs.Prelude.{◌≡◌}
use Rattle.dl_outside.specs.Outside.{Stays}
use Rattle.dl_outside.specs.Told.{FolderTold}

-- it did not fail
abbrev pub FolderWell : FolderTold → FolderTold → Type 0
FolderWell old new = new.faults ≡ old.faults

-- its files are as they were, and none was to change
pub record IsUnchanged (old new : FolderTold) : Type 0 where
  pub files : Stays old.files new.files
  pub changes : new.changes ≡ old.changes

-- the folder was left alone, and it did not fail
pub record IsQuiet (old new : FolderTold) : Type 0 where
  pub unchanged : IsUnchanged old new
  pub well : FolderWell old new
