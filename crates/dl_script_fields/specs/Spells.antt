-- Which fields of a line spell a value, and which lists of fields spell what a line says.
use Rattle.std.specs.Prelude.{◌≡◌, ℕ, zero, suc, ◌≤◌, Bool, true, false, not, ◌==◌, ◌&&◌, List, [], ◌∷◌, ◌++◌, length, map, codes, Option, Some, None, Ok}
use Rattle.std.specs.List.{list_all, list_any, AllByRecursion}
use Rattle.std.specs.Str.{is_utf8}
use Rattle.std.specs.Str.Parse.{digits_value}
use Rattle.hex.specs.Hex.{decode_of}
use Rattle.dl_bytes.specs.Id.{is_visible, filled}
use Rattle.dl_bytes.specs.Level.{severity_number}
use Rattle.dl_bytes.specs.Payload.{Arguments}
use Rattle.dl_bytes.specs.declared.level.Severity.{Severity}
use Rattle.dl_bytes.specs.declared.level.Severity.TheVariants.{Fatal, Error, Warn, Info, Debug, Verbose}
use Rattle.dl_args.specs.declared.arg.Arg.{Arg}
use Rattle.dl_args.specs.declared.arg.Arg.TheVariants as arg
use Rattle.dl_text.specs.Lines.{is_blank}
use Rattle.dl_script_fields.specs.Argument.{payload_of}
use Rattle.dl_script_fields.specs.Spelling.{escaped, spelling, IsSayable}
use Rattle.dl_script_fields.specs.Value.{are_digits}

-- ---- one field

-- a visible letter other than a quote
abbrev pub is_letter : ℕ → Bool
is_letter b = is_visible b && not (b == 34)

-- the name of an id: one to four letters, behind which zero bytes fill the id
pub record SpellsId (field id : List ℕ) : Type 0 where
  pub letters : list_all is_letter field ≡ true
  pub some : 1 ≤ length field
  pub few : length field ≤ 4
  pub fills : filled field ≡ id

-- a number in a range: its decimal digits, behind any zeros
pub record SpellsNumber (low high : ℕ) (field : List ℕ) (n : ℕ) : Type 0 where
  pub digits : are_digits field ≡ true
  pub value : digits_value 10 field ≡ n
  pub above : low ≤ n
  pub below : n ≤ high

-- bytes, one at least: their hexadecimal digits, of either case
pub record SpellsBytes (field bytes : List ℕ) : Type 0 where
  pub digits : decode_of field ≡ Ok bytes
  pub some : 1 ≤ length bytes

-- a severity: its word
abbrev pub severity_word : Severity → List ℕ
severity_word Fatal = codes "fatal"
severity_word Error = codes "error"
severity_word Warn = codes "warn"
severity_word Info = codes "info"
severity_word Debug = codes "debug"
severity_word Verbose = codes "verbose"

-- an own level: `default` for none, `off` for 0, or the word of the severity with its number
abbrev pub SpellsLevel : List ℕ → Option ℕ → Type 0
SpellsLevel field None = field ≡ codes "default"
SpellsLevel field (Some zero) = field ≡ codes "off"
SpellsLevel field (Some (suc n)) = (s : Severity) × (severity_number s ≡ suc n) × (field ≡ severity_word s)

-- a text that a line can hold: UTF-8, with no line feed
pub record IsText (text : List ℕ) : Type 0 where
  pub utf8 : is_utf8 text ≡ true
  pub one_line : list_any (λ b. b == 10) text ≡ false

-- a text of at most 255 bytes
pub record IsShortText (text : List ℕ) : Type 0 where
  pub held : IsText text
  pub short : length text ≤ 255

-- a text in quotes
abbrev pub quoted : List ℕ → List ℕ
quoted text = 34 ∷ (escaped text ++ (34 ∷ []))

-- what a line can hold of an argument's text; one with a name has no blank, since a blank parts its field there
abbrev pub HoldsText : Arg → Type 0
HoldsText (arg.Text None text utf8) = IsText text
HoldsText (arg.Text (Some name) text utf8) = IsText text × (list_any is_blank text ≡ false)
HoldsText _ = Unit {0}

-- an argument that a line can say
pub record IsSaid (a : Arg) : Type 0 where
  pub sayable : IsSayable a
  pub held : HoldsText a
