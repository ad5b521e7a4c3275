-- What a search for a message comes to.
use Rattle.std.specs.Prelude.{◌≡◌, ℕ, List, [], IfSome, Result, Ok, Err}
use Rattle.dl_outside.specs.Folder.{Files}
use Rattle.dl_outside.specs.Outside.{HasRisen}
use Rattle.dl_outside.specs.Told.{FolderTold, SinkTold}
use Rattle.dl_outside.specs.Written.{WroteAll, WroteFront}
use Rattle.dl_trace_files.specs.Left.{IsLeft}
use Rattle.dl_trace_why.specs.Account.{IsQuiet, Sides}
use Rattle.dl_trace_why.specs.Says.{Says}
use Rattle.dl_trace_why.specs.Status.{number}
use Rattle.dl_trace_why.specs.declared.status.Status.{Status}
use Rattle.dl_trace_why.specs.declared.status.Status.TheVariants as end
use Rattle.dl_find.specs.Answer.{answer_text}
use Rattle.dl_find.specs.Finds.{Met}
use Rattle.dl_find.specs.Meets.{AllMeet, IsBadAt, IsMissing, IsSearch}
use Rattle.dl_find_words.specs.declared.question.Question.{Question}
use Rattle.dl_find.specs.declared.search.Search.{Search}

-- These files were read, and this is so of their names and of their messages.
abbrev pub HasFound : (Files → List (List ℕ)) → FolderTold → (List (List ℕ) → List Met → Type 0) → Type 0
HasFound names old P = (all : List (List ℕ)) × (mets : List Met) × IfSome old.files (λ files. (all ≡ names files) × AllMeet files 0 all mets) × P all mets

-- What each status says, where a message is asked for in these files.
abbrev pub Ends : (Files → List (List ℕ)) → Question → Sides → Sides → Status → Type 0
Ends names q old new end.Ok = HasFound names old.folder (λ all mets. WroteAll old.out new.out (answer_text all q mets)) × IsLeft old.folder new.folder
Ends names q old new end.WriteFault = HasFound names old.folder (λ all mets. WroteFront old.out new.out (answer_text all q mets)) × IsLeft old.folder new.folder
Ends names q old new (end.BadMessage file place) = IfSome old.folder.files (λ files. IsBadAt files (names files) file place) × IsQuiet old new
Ends names q old new (end.NoFile file) = IfSome old.folder.files (λ files. IsMissing files (names files) file) × IsQuiet old new
Ends names q old new end.NoTrace = IfSome old.folder.files (λ files. names files ≡ []) × IsQuiet old new
Ends names q old new end.ReadFault = HasRisen old.folder.faults new.folder.faults × IsQuiet old new
Ends names q old new end.PictureFault = ⊥
Ends names q old new end.OutOfMemory = IsQuiet old new

-- What a search comes to: how it ended, and that this was said on standard error.
pub record Finds (names : Files → List (List ℕ)) (q : Question) (old new : Sides) (err err_now : SinkTold) (answer : ℕ) : Type 0 where
  pub status : Status
  pub number_is : answer ≡ number status
  pub ends : Ends names q old new status
  pub said : Says status err err_now

-- ---- for inner functions

-- why files of these names can't be searched
abbrev pub Stops : List (List ℕ) → FolderTold → FolderTold → Status → Type 0
Stops names old new (end.BadMessage file place) = IfSome old.files (λ files. IsBadAt files names file place)
Stops names old new (end.NoFile file) = IfSome old.files (λ files. IsMissing files names file)
Stops names old new end.ReadFault = HasRisen old.faults new.faults
Stops names old new end.OutOfMemory = Unit {0}
Stops names old new _ = ⊥

-- the files of these names were searched; or why not
abbrev pub Searches : Question → List (List ℕ) → FolderTold → FolderTold → Result Search Status → Type 0
Searches q names old new (Ok search) = (new.faults ≡ old.faults) × ((mets : List Met) × IsSearch q mets search × IfSome old.files (λ files. AllMeet files 0 names mets))
Searches q names old new (Err status) = Stops names old new status

-- an answer was written, or its front; or there was no memory for it
abbrev pub Answers : Question → List (List ℕ) → List Met → SinkTold → SinkTold → Status → Type 0
Answers q names mets old new end.Ok = WroteAll old new (answer_text names q mets)
Answers q names mets old new end.WriteFault = WroteFront old new (answer_text names q mets)
Answers q names mets old new end.OutOfMemory = new ≡ old
Answers q names mets old new _ = ⊥
