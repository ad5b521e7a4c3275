-- Files that did not change.
use Rattle.std.proofs.Common.{◌≡◌, ℕ, List, Option, Some, None, Err, refl, inl}
use Rattle.dl_outside.specs.Folder.{AllBut, Files, IsOldOrNew}
use Rattle.dl_outside.specs.declared.folder.FolderFault.TheVariants.{Failed}

pub all_stay : (name : List ℕ) (old new : Option Files) → new ≡ old → AllBut name old new
all_stay name None new is = tt
all_stay name (Some files) new is = (files, is, refl)

pub old_stays : (name bytes : List ℕ) (old new : Option Files) → new ≡ old → IsOldOrNew old new (Err Failed) name bytes
old_stays name bytes None new is = tt
old_stays name bytes (Some files) new is = inl is
