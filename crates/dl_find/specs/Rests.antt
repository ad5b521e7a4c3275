-- A file that is read in pieces: what is left of it, and what stands at its front.
use Rattle.std.specs.Prelude.{◌≡◌, ◌≢◌, ℕ, ◌+◌, ◌⊎◌, List, [], ◌++◌, length, drop, Option, Some, None, IfSome, Result, Ok, Err}
use Rattle.std.specs.FinMap as map
use Rattle.dl_outside.specs.Folder.{Files}
use Rattle.dl_outside.specs.declared.folder.FolderFault.{FolderFault}
use Rattle.dl_sessions.specs.Follows.{EndsBad}
use Rattle.dl_sessions.specs.Gaps.{counted}
use Rattle.dl_sessions.specs.Stream.{end_of, first_place, rest_behind}
use Rattle.dl_sessions.specs.declared.stream.End.{End}
use Rattle.dl_sessions.specs.declared.stream.End.TheVariants as end
use Rattle.dl_sessions.specs.declared.stream.Place.{Place}
use Rattle.dl_find.specs.declared.reader.Front.{Front}
use Rattle.dl_find.specs.declared.reader.Front.TheVariants as front
use Rattle.dl_find.specs.declared.reader.Reader.{Reader}

-- what was read and not given
abbrev pub rest_of : Reader → List ℕ
rest_of reader = drop reader.given reader.held.items

-- what is left of a file
abbrev pub left_of : List ℕ → Reader → List ℕ
left_of file reader = rest_of reader ++ drop reader.read file

-- a file is there under this name, and this is so of its bytes, where the folder tells its files
abbrev pub IsThere : Option Files → List ℕ → (List ℕ → Type 0) → Type 0
IsThere told name P = IfSome told (λ files. (file : List ℕ) × (map.get files name ≡ Some file) × P file)

-- the same where it is there
abbrev pub WhereThere : Option Files → List ℕ → (List ℕ → Type 0) → Type 0
WhereThere told name P = IfSome told (λ files. (file : List ℕ) → map.get files name ≡ Some file → P file)

-- what is left of the file of this name is what was left
abbrev pub SameLeft : Option Files → List ℕ → Reader → Reader → Type 0
SameLeft told name old new = WhereThere told name (λ file. left_of file new ≡ left_of file old)

-- nothing was read yet, and all is left
pub record IsNew (reader : Reader) : Type 0 where
  pub rest_is : rest_of reader ≡ []
  pub read_is : reader.read ≡ 0
  pub offset_is : reader.offset ≡ 0

-- the next bytes of a file were taken
pub record HasMore (old : Reader) (piece : List ℕ) (new : Reader) : Type 0 where
  pub rest_is : rest_of new ≡ rest_of old ++ piece
  pub read_is : new.read ≡ old.read + length piece
  pub offset_is : new.offset ≡ old.offset

-- a message was given
pub record HasGiven (old : Reader) (place : Place) (new : Reader) : Type 0 where
  pub rest_is : rest_of new ≡ rest_behind place (rest_of old)
  pub read_is : new.read ≡ old.read
  pub offset_is : new.offset ≡ counted (counted (old.offset + place.before) + place.len)

-- so many bytes more were read, none only at the end of the file
pub record HasRead (name : List ℕ) (told : Option Files) (old new : Reader) (count : ℕ) : Type 0 where
  pub same : SameLeft told name old new
  pub read_is : new.read ≡ old.read + count
  pub offset_is : new.offset ≡ old.offset
  pub there : IsThere told name (λ file. count ≡ 0 → drop new.read file ≡ [])
  pub none : count ≡ 0 → rest_of new ≡ rest_of old

abbrev pub ReadsMore : List ℕ → Option Files → Reader → Reader → Result (Option ℕ) FolderFault → Type 0
ReadsMore name told old new (Ok (Some count)) = HasRead name told old new count
ReadsMore name told old new (Ok None) = IfSome told (λ files. map.get files name ≡ None)
ReadsMore name told old new (Err fault) = Unit {0}

-- ---- the front

-- what stands at the front of bytes, whatever stands behind them
abbrev pub StandsHere : List ℕ → Option Front → Type 0
StandsHere rest (Some (front.Message place)) = first_place rest ≡ Some place
StandsHere rest (Some front.Bad) = EndsBad rest
StandsHere rest (Some _) = ⊥
StandsHere rest None = first_place rest ≡ None

abbrev pub at_end : End → Front
at_end end.Bad = front.Bad
at_end _ = front.End

-- What stands at the front of a file's bytes from here on: a whole message; no whole one, and they are the beginning of one or nothing; or what none begins with.
abbrev pub IsFront : List ℕ → Front → Type 0
IsFront left (front.Message place) = first_place left ≡ Some place
IsFront left front.End = (first_place left ≡ None) × (end_of left ≢ end.Bad)
IsFront left front.Bad = (first_place left ≡ None) × (end_of left ≡ end.Bad)
IsFront left front.Missing = ⊥

-- where something of it was read, it is there
abbrev pub IsKnown : List ℕ → Option Files → Reader → Type 0
IsKnown name told reader = (rest_of reader ≡ []) ⊎ IsThere told name (λ file. Unit {0})

-- what is at the front of what was read, too
abbrev pub HoldsFront : Reader → Front → Type 0
HoldsFront reader (front.Message place) = first_place (rest_of reader) ≡ Some place
HoldsFront reader _ = Unit {0}

pub record HasFront (name : List ℕ) (told : Option Files) (old new : Reader) (at : Front) : Type 0 where
  pub same : SameLeft told name old new
  pub offset_is : new.offset ≡ old.offset
  pub holds : HoldsFront new at
  pub known : IsKnown name told old → IsThere told name (λ file. IsFront (left_of file new) at)

-- what stands at the front of what is left of the file of this name; or there is no such file
abbrev pub Fronts : List ℕ → Option Files → Reader → Reader → Result Front FolderFault → Type 0
Fronts name told old new (Ok front.Missing) = IfSome told (λ files. map.get files name ≡ None)
Fronts name told old new (Ok at) = HasFront name told old new at
Fronts name told old new (Err fault) = Unit {0}
