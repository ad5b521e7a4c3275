-- Which files change.
use Rattle.std.proofs.Common.{List, ℕ, Option, Some, None, refl}
use Rattle.dl_outside.specs.Folder.{Files}
use Rattle.dl_outside.specs.Outside.{Stays}
use Rattle.dl_trace.specs.InFolder.{ChangesTraceFiles}

pub stayed : (directory : List ℕ) (told now : Option Files) → Stays told now → ChangesTraceFiles directory told now
stayed directory None now stays = tt
stayed directory (Some folder) now stays = (folder, stays, λ other not. refl)
