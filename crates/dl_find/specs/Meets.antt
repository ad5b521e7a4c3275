-- The messages of files, one behind the other, with their places.
use Rattle.std.specs.Prelude.{◌≡◌, ◌≢◌, ℕ, ◌+◌, List, [], ◌∷◌, ◌++◌, length, take, drop, Some, None}
use Rattle.std.specs.FinMap as map
use Rattle.dl_outside.specs.Folder.{Files}
use Rattle.dl_sessions.specs.Gaps.{counted}
use Rattle.dl_sessions.specs.Stream.{end_of, first_place, rest_behind, told_at}
use Rattle.dl_sessions.specs.declared.stream.End.TheVariants.{Bad}
use Rattle.dl_sessions.specs.declared.stream.Place.{Place}
use Rattle.dl_find.specs.Finds.{Met, finding_of, met}
use Rattle.dl_find_words.specs.declared.question.Question.{Question}
use Rattle.dl_find.specs.declared.search.Search.{Search}

-- the message at the front of bytes that stand at this offset of a file
abbrev pub met_at : ℕ → ℕ → Place → List ℕ → Met
met_at file offset place bytes =
    met (record { file = file; offset = counted (offset + place.before) }) (told_at place bytes) (take place.len (drop place.before bytes))

-- the offset behind it
abbrev pub next_offset : ℕ → Place → ℕ
next_offset offset place = counted (counted (offset + place.before) + place.len)

-- Bytes of a file, from this offset on, are these messages, up to a rest that no whole message begins.
abbrev pub Meets : ℕ → ℕ → List ℕ → List Met → List ℕ → Type 0
Meets file offset bytes [] rest = (bytes ≡ rest) × (first_place bytes ≡ None)
Meets file offset bytes (m ∷ mets) rest =
    (place : Place) × (first_place bytes ≡ Some place) × (met_at file offset place bytes ≡ m) × Meets file (next_offset offset place) (rest_behind place bytes) mets rest

-- a file is there and has these messages, and at its end nothing or the beginning of one
pub record FileMeets (files : Files) (file : ℕ) (name : List ℕ) (mets : List Met) : Type 0 where
  pub bytes : List ℕ
  pub there : map.get files name ≡ Some bytes
  pub rest : List ℕ
  pub meets : Meets file 0 bytes mets rest
  pub well : end_of rest ≢ Bad

-- these files are there and have these messages, one behind the other
abbrev pub AllMeet : Files → ℕ → List (List ℕ) → List Met → Type 0
AllMeet files file [] mets = mets ≡ []
AllMeet files file (name ∷ names) mets = (first : List Met) × (more : List Met) × FileMeets files file name first × (mets ≡ first ++ more) × AllMeet files (file + 1) names more

-- no message begins with a file's bytes at this offset, behind the messages that are there
pub record AreBadAt (file : ℕ) (bytes : List ℕ) (offset : ℕ) : Type 0 where
  pub mets : List Met
  pub rest : List ℕ
  pub meets : (last : List ℕ) → Meets file offset rest [] last → Meets file 0 bytes mets last
  pub none : first_place rest ≡ None
  pub bad : end_of rest ≡ Bad

-- The file of this name is the first of these of which this is so: those before it are there.
pub record IsFirst (files : Files) (names : List (List ℕ)) (name : List ℕ) (P : ℕ → Type 0) : Type 0 where
  pub before : List (List ℕ)
  pub behind : List (List ℕ)
  pub names_are : names ≡ before ++ name ∷ behind
  pub mets : List Met
  pub meet : AllMeet files 0 before mets
  pub so : P (length before)

-- it isn't there
abbrev pub IsMissing : Files → List (List ℕ) → List ℕ → Type 0
IsMissing files names name = IsFirst files names name (λ file. map.get files name ≡ None)

-- it is there, and no message begins with its bytes at this offset
abbrev pub IsBadAt : Files → List (List ℕ) → List ℕ → ℕ → Type 0
IsBadAt files names name offset = IsFirst files names name (λ file. (bytes : List ℕ) × (map.get files name ≡ Some bytes) × AreBadAt file bytes offset)

-- what was found in messages, of a question
pub record IsSearch (q : Question) (mets : List Met) (search : Search) : Type 0 where
  pub question_is : search.question ≡ q
  pub finding_is : search.finding ≡ finding_of q mets
