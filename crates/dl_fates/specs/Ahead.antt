-- What the code has of the lines behind a place. (Of the code alone: no promise rests on these words.)
use Rattle.std.specs.Prelude.{◌≡◌, ℕ, ◌==◌, Bool, List, Option, None, unwrap_or}
use Rattle.std.specs.HashMap as hash
use Rattle.std.specs.Str.{bytes_eq}
use Rattle.dl_fates.specs.Lines.{StepAt}
use Rattle.dl_fates.specs.Told.{owner_of, told_in, told_loaded, told_refused}
use Rattle.dl_fates.specs.declared.ahead.Ahead.{Ahead}
use Rattle.dl_fates.specs.declared.ahead.WriterName.{WriterName}

abbrev pub same_writer : WriterName → WriterName → Bool
same_writer a b = a.number == b.number

-- of each application the first line that takes its losses
abbrev pub KeepsLosses : {S : Type 0} → hash.HashMap (List ℕ) ℕ S → List StepAt → Type 0
KeepsLosses losses steps = (apid : List ℕ) → hash.get bytes_eq losses apid ≡ told_in apid steps

-- what a map has of a writer
abbrev pub line_at : {S : Type 0} → hash.HashMap WriterName (Option ℕ) S → WriterName → Option ℕ
line_at lines writer = unwrap_or (hash.get same_writer lines writer) None

-- of each writer where a refused call of it is told, and where a loaded one
abbrev pub KeepsRefused : {S : Type 0} → List (List ℕ) → hash.HashMap WriterName (Option ℕ) S → List StepAt → Type 0
KeepsRefused owners lines steps = (writer : WriterName) → line_at lines writer ≡ told_refused (owner_of owners writer.number) writer.number steps

abbrev pub KeepsLoaded : {S : Type 0} → List (List ℕ) → hash.HashMap WriterName (Option ℕ) S → List StepAt → Type 0
KeepsLoaded owners lines steps = (writer : WriterName) → line_at lines writer ≡ told_loaded (owner_of owners writer.number) writer.number steps

-- what is kept of the lines from a place on
pub record Foretells (owners : List (List ℕ)) (steps : List StepAt) (ahead : Ahead) : Type 0 where
  pub losses : KeepsLosses ahead.losses steps
  pub refused : KeepsRefused owners ahead.refused steps
  pub loaded : KeepsLoaded owners ahead.loaded steps
