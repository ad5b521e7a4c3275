-- What becomes of the folder where the picture of a script is put into a file.
use Rattle.std.specs.Prelude.{◌≡◌, ℕ, List, Option, Some, None, if◌then◌else◌, is_some, IfSome, Result, Ok, Err}
use Rattle.std.specs.FinMap as map
use Rattle.dl_outside.specs.Outside.{HasRisen, Stays, one_more}
use Rattle.dl_outside.specs.Told.{FolderTold}
use Rattle.dl_startup.specs.Unchanged.{IsUnchanged}
use Rattle.dl_startup.specs.declared.status.Status.TheVariants.{OutOfMemory}
use Rattle.dl_trace_why.specs.Account.{Spares}
use Rattle.dl_why.specs.declared.steps_status.StepsStatus.{StepsStatus}
use Rattle.dl_why.specs.declared.steps_status.StepsStatus.TheVariants.{Plain, PictureFault}

-- This picture was put into the file of this name, and nothing else changed. Where there is no name, no file was to change.
abbrev pub Draws : Option (List ℕ) → List ℕ → FolderTold → FolderTold → Type 0
Draws None text old new = IsUnchanged old new
Draws (Some name) text old new = (new.changes ≡ one_more old.changes) × IfSome old.files (λ files. new.files ≡ Some (map.insert files name text))

-- no file changed, and none was to change where no picture is wanted
abbrev pub Keeps : Option (List ℕ) → FolderTold → FolderTold → Type 0
Keeps None old new = IsUnchanged old new
Keeps (Some name) old new = Stays old.files new.files

-- what is drawn: a text where a file is wanted for it, and nothing else
abbrev pub drawn_for : {A : Type 0} → Option A → List ℕ → Option (List ℕ)
drawn_for name text = if is_some name then Some text else None

-- the picture was drawn, where one is wanted; or why not (of the code alone)
abbrev pub TriesToDraw : Option (List ℕ) → List ℕ → FolderTold → FolderTold → Result (Unit {0}) StepsStatus → Type 0
TriesToDraw drawn text old new (Ok done) = Draws drawn text old new
TriesToDraw drawn text old new (Err PictureFault) = HasRisen old.faults new.faults × Spares drawn old new
TriesToDraw drawn text old new (Err (Plain OutOfMemory)) = Keeps drawn old new
TriesToDraw drawn text old new (Err (Plain _)) = ⊥
