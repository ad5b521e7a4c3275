-- What the writing of an account leaves. (Of the code alone.)
use Rattle.std.specs.Prelude.{◌≡◌, ℕ, List, Option, IfSome, Some, Result, Ok, Err}
use Rattle.std.specs.FinMap as map
use Rattle.dl_outside.specs.Folder.{AllBut}
use Rattle.dl_outside.specs.Outside.{HasRisen, Stays, one_more}
use Rattle.dl_outside.specs.Told.{FolderTold, SinkTold}
use Rattle.dl_outside.specs.Written.{WroteAll, WroteFront, WroteNothing}
use Rattle.dl_sessions.specs.declared.session.Told.{Told}
use Rattle.dl_trace_why.specs.Account.{Draws, Keeps, Sides, Spares, text_of}
use Rattle.dl_trace_why.specs.declared.status.Status.{Status}
use Rattle.dl_trace_why.specs.declared.status.Status.TheVariants as end

-- a text was put into the file of this name; or why not
abbrev pub PutsPicture : List ℕ → List ℕ → FolderTold → FolderTold → Result (Unit {0}) Status → Type 0
PutsPicture name text old new (Ok done) = (new.changes ≡ one_more old.changes) × IfSome old.files (λ files. new.files ≡ Some (map.insert files name text))
PutsPicture name text old new (Err end.PictureFault) = HasRisen old.faults new.faults × AllBut name old.files new.files
PutsPicture name text old new (Err end.OutOfMemory) = Stays old.files new.files
PutsPicture name text old new (Err _) = ⊥

-- a stream was drawn, where a picture is wanted; or why not
abbrev pub TriesToDraw : Option (List ℕ) → List Told → FolderTold → FolderTold → Result (Unit {0}) Status → Type 0
TriesToDraw drawn stream old new (Ok done) = Draws drawn stream old new
TriesToDraw drawn stream old new (Err end.PictureFault) = HasRisen old.faults new.faults × Spares drawn old new
TriesToDraw drawn stream old new (Err end.OutOfMemory) = Keeps drawn old new
TriesToDraw drawn stream old new (Err _) = ⊥

-- a text was written, or its front
abbrev pub Prints : List ℕ → SinkTold → SinkTold → Status → Type 0
Prints text old new end.Ok = WroteAll old new text
Prints text old new end.WriteFault = WroteFront old new text
Prints text old new _ = ⊥

-- the account of what was read was written, and drawn where a picture is wanted; or why not
abbrev pub Writes : Option (List ℕ) → List Told → List ℕ → Sides → Sides → Status → Type 0
Writes drawn stream ends old new end.Ok = WroteAll old.out new.out (text_of stream ends) × Draws drawn stream old.folder new.folder
Writes drawn stream ends old new end.WriteFault = WroteFront old.out new.out (text_of stream ends) × Draws drawn stream old.folder new.folder
Writes drawn stream ends old new end.PictureFault = HasRisen old.folder.faults new.folder.faults × WroteNothing old.out new.out × Spares drawn old.folder new.folder
Writes drawn stream ends old new end.OutOfMemory = WroteNothing old.out new.out × Keeps drawn old.folder new.folder
Writes drawn stream ends old new _ = ⊥
