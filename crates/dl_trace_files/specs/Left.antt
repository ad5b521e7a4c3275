-- A folder that is looked into.
use Rattle.std.specs.Prelude.{◌≡◌, Result}
use Rattle.dl_outside.specs.Folder.{HasCause}
use Rattle.dl_outside.specs.Outside.{Stays}
use Rattle.dl_outside.specs.Told.{FolderTold}
use Rattle.dl_outside.specs.declared.folder.FolderFault.{FolderFault}

-- its files are as they were, and none was to change
pub record IsLeft (old new : FolderTold) : Type 0 where
  pub files : Stays old.files new.files
  pub changes : new.changes ≡ old.changes

-- It was looked into: it is left as it was, and its count of faults rose where the look failed, and only there.
pub record ReadsFolder {T : Type 0} (old new : FolderTold) (result : Result T FolderFault) : Type 0 where
  pub left : IsLeft old new
  pub cause : HasCause old.faults new.faults result
