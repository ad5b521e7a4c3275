-- The form of arguments that is read. It is larger than the written form: the byte order is either one, and other
-- writers leave out a closing zero byte or set bits of the type info that say nothing.
use Rattle.std.specs.Prelude.{◌≡◌, ◌≢◌, ◌<◌, ◌≤◌, ◌+◌, ◌*◌, ◌⊎◌, ℕ, ℤ, Bool, List, [], ◌∷◌, ◌++◌, length, Option, Some, None, is_some}
use Rattle.std.specs.Int.{cast_signed, from_bool}
use Rattle.dl_bytes.specs.declared.cursor.Order.{Order}
use Rattle.dl_bytes.specs.Number.{number_of}
use Rattle.dl_args.specs.declared.arg.Arg.{Arg}
use Rattle.dl_args.specs.declared.arg.Arg.TheVariants as arg
use Rattle.dl_args.specs.declared.type_info.Kind.{Kind}
use Rattle.dl_args.specs.declared.type_info.Kind.TheVariants as kind
use Rattle.dl_args.specs.declared.width.Width.{Width}
use Rattle.dl_args.specs.Width.{tyle_of, byte_count, int_type}

-- A form is what bytes may be. One form stands before another where the bytes are of both, one after the other.
infixr 5 ◌before◌
pub record ◌before◌ (P Q : List ℕ → Type 0) (bytes : List ℕ) : Type 0 where
  pub front : List ℕ
  pub back : List ℕ
  pub first : P front
  pub second : Q back
  pub parts : bytes ≡ front ++ back

-- these very bytes
abbrev pub Is : List ℕ → List ℕ → Type 0
Is these bytes = bytes ≡ these

-- n bytes that stand for a number
pub record IsNumber (order : Order) (n x : ℕ) (bytes : List ℕ) : Type 0 where
  pub len : length bytes ≡ n
  pub value : number_of order n bytes ≡ x

-- a signed number, in two's complement
pub record IsSigned (order : Order) (width : Width) (z : ℤ) (bytes : List ℕ) : Type 0 where
  pub bits : ℕ
  pub number : IsNumber order (byte_count width) bits bytes
  pub value : cast_signed (int_type width) bits ≡ z

-- BOOL, SINT, UINT, STRG and RAWD
abbrev pub kind_bit : Kind → ℕ
kind_bit kind.Bool = 0x10
kind_bit (kind.Sint width) = 0x20
kind_bit (kind.Uint width) = 0x40
kind_bit (kind.Text utf8) = 0x200
kind_bit kind.Raw = 0x400

-- What TYLE and SCOD may be. TYLE is the width of a number, and nothing or 8 bits at a truth value. SCOD is the coding
-- of a text, 0 for ASCII and 1 for UTF-8. Elsewhere they may be anything.
abbrev pub Allows : Kind → ℕ → ℕ → Type 0
Allows kind.Bool tyle scod = (tyle ≤ 1) × (scod < 8)
Allows (kind.Sint width) tyle scod = (tyle ≡ tyle_of width) × (scod < 8)
Allows (kind.Uint width) tyle scod = (tyle ≡ tyle_of width) × (scod < 8)
Allows (kind.Text utf8) tyle scod = (tyle < 16) × (scod ≡ from_bool utf8)
Allows kind.Raw tyle scod = (tyle < 16) × (scod < 8)

-- the type infos of a kind, with VARI where there is a name; no other bit is set
pub record Says (kind : Kind) (named : Bool) (info : ℕ) : Type 0 where
  pub tyle : ℕ
  pub scod : ℕ
  pub allowed : Allows kind tyle scod
  pub bits : info ≡ tyle + kind_bit kind + 0x800 * from_bool named + 0x8000 * scod

-- four bytes of such a type info
pub record IsInfo (order : Order) (kind : Kind) (named : Bool) (bytes : List ℕ) : Type 0 where
  pub info : ℕ
  pub says : Says kind named info
  pub number : IsNumber order 4 info bytes

-- a text, name or unit: with a closing zero byte, or whole where no zero byte closes it
abbrev pub IsText : List ℕ → List ℕ → Type 0
IsText text bytes = (bytes ≡ text ++ 0 ∷ []) ⊎ ((bytes ≡ text) × ((front : List ℕ) → bytes ≢ front ++ 0 ∷ []))

-- a length in two bytes
abbrev pub IsLength : Order → List ℕ → List ℕ → Type 0
IsLength order field bytes = IsNumber order 2 (length field) bytes

-- a name, where there is one
abbrev pub IsName : Order → Option (List ℕ) → List ℕ → Type 0
IsName order None bytes = bytes ≡ []
IsName order (Some name) bytes = (field : List ℕ) × IsText name field × (IsLength order field before Is field) bytes

-- a name and a unit, or neither
abbrev pub AreNames : Order → Option (List ℕ) → Option (List ℕ) → List ℕ → Type 0
AreNames order None None bytes = bytes ≡ []
AreNames order (Some name) (Some unit) bytes = (field : List ℕ) × (other : List ℕ) × IsText name field × IsText unit other
    × (IsLength order field before IsLength order other before Is field before Is other) bytes
AreNames order None (Some unit) bytes = ⊥
AreNames order (Some name) None bytes = ⊥

-- a spelling of an argument: its type info, and the fields of its kind
abbrev pub IsSpelling : Order → Arg → List ℕ → Type 0
IsSpelling order (arg.Bool name value) bytes =
    (IsInfo order kind.Bool (is_some name) before IsName order name before Is (from_bool value ∷ [])) bytes
IsSpelling order (arg.Sint name unit width value) bytes =
    (IsInfo order (kind.Sint width) (is_some name) before AreNames order name unit before IsSigned order width value) bytes
IsSpelling order (arg.Uint name unit width value) bytes =
    (IsInfo order (kind.Uint width) (is_some name) before AreNames order name unit before IsNumber order (byte_count width) value) bytes
IsSpelling order (arg.Text name text utf8) bytes = (field : List ℕ) × IsText text field
    × (IsInfo order (kind.Text utf8) (is_some name) before IsLength order field before IsName order name before Is field) bytes
IsSpelling order (arg.Raw name raw) bytes =
    (IsInfo order kind.Raw (is_some name) before IsLength order raw before IsName order name before Is raw) bytes

-- spellings of arguments, one after the other
abbrev pub AreSpellings : Order → List Arg → List ℕ → Type 0
AreSpellings order [] bytes = bytes ≡ []
AreSpellings order (first ∷ others) bytes = (IsSpelling order first before AreSpellings order others) bytes
