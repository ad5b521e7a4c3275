-- What a search in files leaves. (Of the code alone.)
use Rattle.std.specs.Prelude.{◌≡◌, ℕ, List, [], ◌∷◌, ◌++◌, Option, Some, None, IfSome, Result, Ok, Err}
use Rattle.std.specs.FinMap as map
use Rattle.dl_outside.specs.Folder.{Files}
use Rattle.dl_outside.specs.Outside.{HasRisen}
use Rattle.dl_outside.specs.Told.{FolderTold}
use Rattle.dl_outside.specs.declared.folder.FolderFault.{FolderFault}
use Rattle.dl_outside.specs.declared.folder.FolderFault.TheVariants as fault
use Rattle.dl_trace_why.specs.declared.status.Status.{Status}
use Rattle.dl_trace_why.specs.declared.status.Status.TheVariants as end
use Rattle.dl_find.specs.Finds.{Met}
use Rattle.dl_find.specs.Meets.{AllMeet, AreBadAt, FileMeets, IsBadAt, IsMissing, IsSearch}
use Rattle.dl_find_words.specs.declared.question.Question.{Question}
use Rattle.dl_find.specs.declared.search.Search.{Search}
use Rattle.dl_find.specs.declared.search.Stop.{Stop}
use Rattle.dl_find.specs.declared.search.Stop.TheVariants as stop

-- why a file can't be searched
abbrev pub StopsAt : List ℕ → ℕ → FolderTold → FolderTold → Stop → Type 0
StopsAt name file old new (stop.Bad offset) = IfSome old.files (λ files. (bytes : List ℕ) × (map.get files name ≡ Some bytes) × AreBadAt file bytes offset)
StopsAt name file old new stop.Missing = IfSome old.files (λ files. map.get files name ≡ None)
StopsAt name file old new stop.Failed = HasRisen old.faults new.faults
StopsAt name file old new stop.OutOfMemory = Unit {0}

-- a file's messages were searched
pub record HasSearched (q : Question) (before : List Met) (name : List ℕ) (file : ℕ) (old new : FolderTold) (search : Search) : Type 0 where
  pub mets : List Met
  pub is : IsSearch q (before ++ mets) search
  pub meets : IfSome old.files (λ files. FileMeets files file name mets)
  pub well : new.faults ≡ old.faults

abbrev pub SearchesFile : Question → List Met → List ℕ → ℕ → FolderTold → FolderTold → Search → Result (Unit {0}) Stop → Type 0
SearchesFile q before name file old new search (Ok done) = HasSearched q before name file old new search
SearchesFile q before name file old new search (Err why) = StopsAt name file old new why

-- the stop of a folder that could not be read
abbrev pub fault_stop : FolderFault → Stop
fault_stop fault.Failed = stop.Failed
fault_stop fault.OutOfMemory = stop.OutOfMemory

-- the status that says of a file of this name why it can't be searched; or there was no memory for its name
abbrev pub StopsFirst : Stop → List ℕ → Status → Type 0
StopsFirst (stop.Bad offset) name (end.BadMessage file place) = (file ≡ name) × (place ≡ offset)
StopsFirst stop.Missing name (end.NoFile file) = file ≡ name
StopsFirst stop.Failed name end.ReadFault = Unit {0}
StopsFirst why name end.OutOfMemory = Unit {0}
StopsFirst why name status = ⊥
