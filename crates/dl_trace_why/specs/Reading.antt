-- What files tell, one behind the other, or the first that can't be read.
use Rattle.std.specs.Prelude.{◌≡◌, ℕ, ◌-◌, ◌==◌, Bool, List, [], ◌∷◌, ◌++◌, codes, length, Some, None, if◌then◌else◌}
use Rattle.std.specs.Fmt.{decimal}
use Rattle.std.specs.FinMap as map
use Rattle.dl_outside.specs.Folder.{Files}
use Rattle.dl_sessions.specs.Stream.{Tells, end_of}
use Rattle.dl_sessions.specs.declared.session.Told.{Told}
use Rattle.dl_sessions.specs.declared.stream.End.{End}
use Rattle.dl_sessions.specs.declared.stream.End.TheVariants.{Whole, Within, Bad}

-- ---- the bytes of one file

-- how a file is called where it ends within a message: the stream, where it is the only file
abbrev pub called : Bool → List ℕ → List ℕ
called is_alone name = if is_alone then codes "the stream" else name

-- what is said of it, where so many bytes of that message are there
abbrev pub within_words : List ℕ → ℕ → List ℕ
within_words label left = label ++ codes " ends within a message: bytes left " ++ decimal left ++ codes "\n"

-- what is said of the end of a file that is called so, with a rest of so many bytes; a bad end is refused
abbrev pub EndSays : List ℕ → ℕ → End → List ℕ → Type 0
EndSays label left Whole said = said ≡ []
EndSays label left Within said = said ≡ within_words label left
EndSays label left Bad said = ⊥

-- bytes tell this, message by message, up to a rest that is nothing or the beginning of a message, of which this is said
pub record BytesTell (label bytes : List ℕ) (stream : List Told) (said : List ℕ) : Type 0 where
  pub rest : List ℕ
  pub tells : Tells bytes stream rest
  pub ends : EndSays label (length rest) (end_of rest) said

-- no message begins with the bytes at this place, behind the messages that are there
pub record AreBadAt (bytes : List ℕ) (place : ℕ) : Type 0 where
  pub stream : List Told
  pub rest : List ℕ
  pub tells : Tells bytes stream rest
  pub bad : end_of rest ≡ Bad
  pub place_is : place ≡ length bytes - length rest

-- ---- files

-- a file of this name is there, and this is so of its bytes
abbrev pub IsThere : Files → List ℕ → (List ℕ → Type 0) → Type 0
IsThere files name P = (bytes : List ℕ) × (map.get files name ≡ Some bytes) × P bytes

-- a file is there and tells this, and this is said of its end
abbrev pub FileTells : Bool → Files → List ℕ → List Told → List ℕ → Type 0
FileTells is_alone files name stream said = IsThere files name (λ bytes. BytesTell (called is_alone name) bytes stream said)

-- these files are there and tell this, one behind the other, and this is said of their ends
abbrev pub Tell : Bool → Files → List (List ℕ) → List Told → List ℕ → Type 0
Tell is_alone files [] stream ends = (stream ≡ []) × (ends ≡ [])
Tell is_alone files (name ∷ names) stream ends =
    (first : List Told) × (said : List ℕ) × (more : List Told) × (later : List ℕ) × FileTells is_alone files name first said
    × (stream ≡ first ++ more) × (ends ≡ said ++ later) × Tell is_alone files names more later

-- these are some files, and they tell this together
abbrev pub AreRead : Files → List (List ℕ) → List Told → List ℕ → Type 0
AreRead files [] stream ends = ⊥
AreRead files (name ∷ names) stream ends = Tell (length (name ∷ names) == 1) files (name ∷ names) stream ends

-- ---- the first that can't be read

-- The file of this name is the first of these of which this is so: those before it are there and tell something.
pub record IsFirst (files : Files) (names : List (List ℕ)) (name : List ℕ) (P : Type 0) : Type 0 where
  pub before : List (List ℕ)
  pub behind : List (List ℕ)
  pub names_are : names ≡ before ++ name ∷ behind
  pub is_alone : Bool
  pub stream : List Told
  pub ends : List ℕ
  pub tell : Tell is_alone files before stream ends
  pub so : P

-- it isn't there
abbrev pub IsMissing : Files → List (List ℕ) → List ℕ → Type 0
IsMissing files names name = IsFirst files names name (map.get files name ≡ None)

-- it is there, and no message begins with its bytes at this place
abbrev pub IsBadAt : Files → List (List ℕ) → List ℕ → ℕ → Type 0
IsBadAt files names name place = IsFirst files names name (IsThere files name (λ bytes. AreBadAt bytes place))
