-- The values of a call as verbose arguments: AUTOSAR DLT, type info and fields.
use Rattle.std.specs.Prelude.{ℕ, ◌+◌, ◌<◌, ◌≤◌, ◌^◌, Bool, List, [], ◌∷◌, length, ◌==◌, if◌then◌else◌, ◌⊎◌}
use Rattle.std.specs.Int.{from_bool}
use Rattle.dl_args.specs.Argument.{argument, closed_size, size, z}
use Rattle.dl_client.specs.Area.{held}
use Rattle.dl_client.specs.declared.area.bytes.Area.{Area}
use Rattle.dl_client.specs.declared.values.Format.{Format}
use Rattle.dl_client.specs.declared.values.Format.TheVariants.{Plain, Hex, Binary}
use Rattle.dl_client.specs.declared.values.Kind.{Kind}
use Rattle.dl_client.specs.declared.values.Kind.TheVariants as kind
use Rattle.dl_client.specs.declared.values.Shape.{Shape}
use Rattle.dl_client.specs.declared.values.Units.{Units}

-- bits 4 to 7: BOOL, SINT, UINT, FLOA
abbrev pub kind_bit : Kind → ℕ
kind_bit kind.Bool = 0x10
kind_bit kind.Signed = 0x20
kind_bit kind.Unsigned = 0x40
kind_bit kind.Float = 0x80

-- SCOD, bits 15 to 17: of a number 2 is hexadecimal, 3 is binary
abbrev pub format_bits : Format → ℕ
format_bits Plain = 0
format_bits Hex = 0x1_0000
format_bits Binary = 0x1_8000

-- TYLE, bits 0 to 3, by the bytes of a number
abbrev pub tyle_of_len : ℕ → ℕ
tyle_of_len len = if len == 1 then 1 else if len == 2 then 2 else if len == 4 then 3 else if len == 8 then 4 else 5

abbrev pub info_of : Shape → ℕ → ℕ
info_of shape len = kind_bit shape.kind + format_bits shape.format + tyle_of_len len

-- STRG, bit 9, and SCOD of a text: 1 is UTF-8, 0 is ASCII
abbrev pub text_info : Bool → ℕ
text_info utf8 = if utf8 then 0x8200 else 0x200

abbrev pub number_argument : Shape → List ℕ → List ℕ
number_argument shape bytes = argument (info_of shape (length bytes)) (bytes ∷ [])

-- VARI, bit 11: name and unit come before the value, with their lengths; here each brings its closing zero byte
abbrev pub named_number_argument : Shape → List ℕ → List ℕ → List ℕ → List ℕ
named_number_argument shape name unit bytes = argument (info_of shape (length bytes) + 0x800) (size name ∷ size unit ∷ name ∷ unit ∷ bytes ∷ [])

abbrev pub text_argument : Bool → List ℕ → List ℕ
text_argument utf8 text = argument (text_info utf8) (closed_size text ∷ text ∷ z ∷ [])

abbrev pub named_text_argument : Bool → List ℕ → List ℕ → List ℕ
named_text_argument utf8 name text = argument (text_info utf8 + 0x800) (closed_size text ∷ size name ∷ name ∷ text ∷ z ∷ [])

-- RAWD, bit 10, with SCOD and TYLE of the units in which the bytes are to be shown
abbrev pub units_bits : Units → ℕ
units_bits units = format_bits units.format + (if units.len == 0 then 0 else tyle_of_len units.len)

abbrev pub raw_argument : Units → List ℕ → List ℕ
raw_argument units bytes = argument (0x400 + units_bits units) (size bytes ∷ bytes ∷ [])

abbrev pub named_raw_argument : Units → List ℕ → List ℕ → List ℕ
named_raw_argument units name bytes = argument (0xc00 + units_bits units) (size bytes ∷ size name ∷ name ∷ bytes ∷ [])

-- a truth value with a name, which has no unit
abbrev pub named_bool_argument : List ℕ → Bool → List ℕ
named_bool_argument name value = argument 0x811 (size name ∷ name ∷ (from_bool value ∷ []) ∷ [])

-- there is no room for these bytes, or one of their fields is too long for a length of two bytes
abbrev pub HasNoRoom : Area → ℕ → List ℕ → Type 0
HasNoRoom area fields bytes = (2 ^ 16 ≤ fields) ⊎ (length area.bytes.now < length (held area) + length bytes)
