-- What an account of traces comes to.
use Rattle.std.specs.Prelude.{◌≡◌, ℕ, List, [], ◌++◌, Option, Some, None, IfSome}
use Rattle.std.specs.FinMap as map
use Rattle.dl_outside.specs.Folder.{AllBut, Files}
use Rattle.dl_outside.specs.Outside.{HasRisen, Stays, one_more}
use Rattle.dl_outside.specs.Told.{FolderTold, SinkTold}
use Rattle.dl_outside.specs.Written.{WroteAll, WroteFront, WroteNothing}
use Rattle.dl_picture.specs.Picture.{picture}
use Rattle.dl_sessions.specs.Ledger.{accounts_text}
use Rattle.dl_sessions.specs.Text.{printed}
use Rattle.dl_sessions.specs.declared.session.Told.{Told}
use Rattle.dl_timeline.specs.Timeline.{timeline}
use Rattle.dl_trace_files.specs.Left.{IsLeft}
use Rattle.dl_trace_why.specs.Reading.{AreRead, IsBadAt, IsMissing}
use Rattle.dl_trace_why.specs.Says.{Says}
use Rattle.dl_trace_why.specs.Status.{number}
use Rattle.dl_trace_why.specs.declared.status.Status.{Status}
use Rattle.dl_trace_why.specs.declared.status.Status.TheVariants as end

-- what the folder and the output tell
pub record Sides : Type 0 where
  pub folder : FolderTold
  pub out : SinkTold

abbrev pub sides : FolderTold → SinkTold → Sides
sides folder out = record { folder = folder; out = out }

-- the same of a folder and an output, by what these tell
abbrev pub seen : {F O : Type 0} → (F → FolderTold) → (O → SinkTold) → F → O → Sides
seen folder_told out_told folder out = sides (folder_told folder) (out_told out)

-- what is written of what files tell: the account, the accounts that programs give of themselves, and what is said of the files' ends
abbrev pub text_of : List Told → List ℕ → List ℕ
text_of stream ends = printed stream ++ accounts_text stream ++ ends

-- ---- files

-- The picture of a stream was put into the file of this name, and nothing else changed. Where there is no name, no file was to change.
abbrev pub Draws : Option (List ℕ) → List Told → FolderTold → FolderTold → Type 0
Draws None stream old new = IsLeft old new
Draws (Some name) stream old new = (new.changes ≡ one_more old.changes) × IfSome old.files (λ files. new.files ≡ Some (map.insert files name (picture (timeline stream))))

-- no file but the picture's changed, and one was to be drawn
abbrev pub Spares : Option (List ℕ) → FolderTold → FolderTold → Type 0
Spares None old new = ⊥
Spares (Some name) old new = AllBut name old.files new.files

-- no file changed, and none was to change where no picture is wanted
abbrev pub Keeps : Option (List ℕ) → FolderTold → FolderTold → Type 0
Keeps None old new = IsLeft old new
Keeps (Some name) old new = Stays old.files new.files

-- nothing was written, and no file was to change
abbrev pub IsQuiet : Sides → Sides → Type 0
IsQuiet old new = WroteNothing old.out new.out × IsLeft old.folder new.folder

-- ---- the statuses

-- These files were read, and this is so of what they tell and of what is said of their ends.
abbrev pub HasRead : (Files → List (List ℕ)) → FolderTold → (List Told → List ℕ → Type 0) → Type 0
HasRead names old P = (stream : List Told) × (ends : List ℕ) × IfSome old.files (λ files. AreRead files (names files) stream ends) × P stream ends

-- What each status says, where the account of these files is wanted, and a picture of it in a file of this name.
abbrev pub Ends : (Files → List (List ℕ)) → Option (List ℕ) → Sides → Sides → Status → Type 0
Ends names drawn old new end.Ok = HasRead names old.folder (λ stream ends. WroteAll old.out new.out (text_of stream ends) × Draws drawn stream old.folder new.folder)
Ends names drawn old new end.WriteFault = HasRead names old.folder (λ stream ends. WroteFront old.out new.out (text_of stream ends) × Draws drawn stream old.folder new.folder)
Ends names drawn old new (end.BadMessage file place) = IfSome old.folder.files (λ files. IsBadAt files (names files) file place) × IsQuiet old new
Ends names drawn old new (end.NoFile file) = IfSome old.folder.files (λ files. IsMissing files (names files) file) × IsQuiet old new
Ends names drawn old new end.NoTrace = IfSome old.folder.files (λ files. names files ≡ []) × IsQuiet old new
Ends names drawn old new end.ReadFault = HasRisen old.folder.faults new.folder.faults × IsQuiet old new
Ends names drawn old new end.PictureFault = HasRisen old.folder.faults new.folder.faults × WroteNothing old.out new.out × Spares drawn old.folder new.folder
Ends names drawn old new end.OutOfMemory = WroteNothing old.out new.out × Keeps drawn old.folder new.folder

-- What an account comes to: how it ended, and that this was said on standard error.
pub record Runs (names : Files → List (List ℕ)) (drawn : Option (List ℕ)) (old new : Sides) (err err_now : SinkTold) (answer : ℕ) : Type 0 where
  pub status : Status
  pub number_is : answer ≡ number status
  pub ends : Ends names drawn old new status
  pub said : Says status err err_now
