-- The files of the daemon's folder that its calls change: trace files, and the stored configuration.
use Rattle.std.specs.Prelude.{◌≡◌, ◌≢◌, ℕ, ◌≤◌, List, Option, Some, None, IfSome, IsSomeAnd}
use Rattle.std.specs.Option.{option_map}
use Rattle.std.specs.FinMap as map
use Rattle.dl_outside.specs.Folder.{Files}
use Rattle.dl_outside.specs.Told.{FolderTold}
use Rattle.dl_trace.specs.InFolder.{IsTraceName}
use Rattle.dl_trace.specs.State.{Trace}
use Rattle.dl_core.specs.Serving.{stored_name}
use Rattle.dl_core.specs.State.{Core}

-- no file changes but the trace files, where a trace is kept, and the stored configuration
abbrev pub ChangesOwnFiles : Option Trace → Option Files → Option Files → Type 0
ChangesOwnFiles None told told_now =
    IfSome told (λ folder. (now : Files) × (told_now ≡ Some now)
    × ((name : List ℕ) → name ≢ stored_name → map.get now name ≡ map.get folder name))
ChangesOwnFiles (Some trace) told told_now =
    IfSome told (λ folder. (now : Files) × (told_now ≡ Some now)
    × ((name : List ℕ) → ¬ (IsTraceName trace.directory name) → name ≢ stored_name → map.get now name ≡ map.get folder name))

-- where trace files are stored, if they are
abbrev pub directory_of : Core → Option (List ℕ)
directory_of core = option_map (λ (trace : Trace). trace.directory) core.trace

-- A call leaves every file of others, whatever it answers; a trace that is kept stays in its directory, and none comes or goes; and the folder's
-- count of faults doesn't fall.
pub record Leaves (old new : Core) (told told_now : FolderTold) : Type 0 where
  pub others : ChangesOwnFiles old.trace told.files told_now.files
  pub same : directory_of new ≡ directory_of old
  pub later : told.faults ≤ told_now.faults

-- the stored configuration stands as it was: the same file, or none
abbrev pub KeepsStored : Option Files → Option Files → Type 0
KeepsStored told told_now = IfSome told (λ was. IsSomeAnd told_now (λ now. map.get now stored_name ≡ map.get was stored_name))
