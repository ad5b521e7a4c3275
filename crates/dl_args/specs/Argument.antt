-- The written form of arguments: one spelling of each, lowest byte first (AUTOSAR DLT, verbose mode).
use Rattle.std.specs.Prelude.{◌≡◌, ◌<◌, ◌≤◌, ◌^◌, ◌+◌, ℕ, ℤ, Bool, true, List, [], ◌∷◌, ◌++◌, length, map, Some, None, is_some, Result, Ok, Err, FitsSigned}
use Rattle.std.specs.Borrow.{Bor}
use Rattle.std.specs.List.{concat}
use Rattle.std.specs.Int.{w128, cast_unsigned, from_bool}
use Rattle.byteorder.specs.Endian.{little_bytes}
use Rattle.dl_bytes.specs.Limits.{payload_limit, args_limit}
use Rattle.dl_bytes.specs.Payload.{Arguments}
use Rattle.dl_args.specs.declared.arg.Arg.{Arg}
use Rattle.dl_args.specs.declared.arg.Arg.TheVariants.{Bool as TruthValue, Sint, Uint, Text, Raw}
use Rattle.dl_args.specs.declared.width.Width.{Width}
use Rattle.dl_args.specs.Width.{tyle_of, byte_count, int_type}

-- a type info and its fields, one after the other
abbrev pub argument : ℕ → List (List ℕ) → List ℕ
argument info fields = little_bytes 4 info ++ concat fields

-- the bytes of fields, one after the other
abbrev pub joined : List (Bor (List ℕ)) → List ℕ
joined fields = concat (map (λ f. f.now) fields)

-- the length of bytes
abbrev pub size : List ℕ → List ℕ
size bytes = little_bytes 2 (length bytes)

-- the length of a text with its closing zero byte, and that byte
abbrev pub closed_size : List ℕ → List ℕ
closed_size text = little_bytes 2 (length text + 1)

abbrev pub z : List ℕ
z = 0 ∷ []

-- a truth value: 0 or 1
abbrev pub truth : Bool → List ℕ
truth value = from_bool value ∷ []

-- a number: as many of its lowest bytes as its width has
abbrev pub number : Width → ℕ → List ℕ
number width value = little_bytes (byte_count width) value

-- a signed number is its two's complement
abbrev pub signed : Width → ℤ → List ℕ
signed width value = number width (cast_unsigned w128 value)

-- a number with a name and a unit
abbrev pub named_number : List ℕ → List ℕ → List ℕ → List (List ℕ)
named_number name unit value = closed_size name ∷ closed_size unit ∷ name ∷ z ∷ unit ∷ z ∷ value ∷ []

-- the written form of each kind, plain and with a name; a number has a unit where it has a name
abbrev pub written : Arg → List ℕ
written (TruthValue None value) = argument 0x11 (truth value ∷ [])
written (TruthValue (Some name) value) = argument 0x811 (closed_size name ∷ name ∷ z ∷ truth value ∷ [])
written (Sint (Some name) (Some unit) width value) = argument (0x820 + tyle_of width) (named_number name unit (signed width value))
written (Sint name unit width value) = argument (0x20 + tyle_of width) (signed width value ∷ [])
written (Uint (Some name) (Some unit) width value) = argument (0x840 + tyle_of width) (named_number name unit (number width value))
written (Uint name unit width value) = argument (0x40 + tyle_of width) (number width value ∷ [])
written (Text None text utf8) = argument 0x8200 (closed_size text ∷ text ∷ z ∷ [])
written (Text (Some name) text utf8) = argument 0x8a00 (closed_size text ∷ closed_size name ∷ name ∷ z ∷ text ∷ z ∷ [])
written (Raw None bytes) = argument 0x400 (size bytes ∷ bytes ∷ [])
written (Raw (Some name) bytes) = argument 0xc00 (size bytes ∷ closed_size name ∷ name ∷ z ∷ bytes ∷ [])

-- what is written: a number that fits its width, a name and a unit together, a text in UTF-8
abbrev pub IsValue : Arg → Type 0
IsValue (TruthValue name value) = Unit {0}
IsValue (Sint name unit width value) = (is_some name ≡ is_some unit) × FitsSigned (int_type width) value
IsValue (Uint name unit width value) = (is_some name ≡ is_some unit) × (value < 256 ^ byte_count width)
IsValue (Text name text utf8) = utf8 ≡ true
IsValue (Raw name bytes) = Unit {0}

-- what has a written form: such a value, whose lengths fit their two bytes
pub record IsWritable (a : Arg) : Type 0 where
  pub value : IsValue a
  pub len : length (written a) < 2 ^ 16

-- a payload has room for one more argument of these bytes
abbrev pub HasRoom : List ℕ → Arguments → Type 0
HasRoom bytes payload = (length payload.bytes + length bytes ≤ payload_limit) × (payload.args < args_limit)

-- Where there is room the bytes are added and counted as an argument. Else the payload is full, and as it was.
abbrev pub Adds : {A E : Type 0} → List ℕ → Result A E → Arguments → Arguments → Type 0
Adds bytes (Ok done) old new = HasRoom bytes old × (new ≡ record { bytes = old.bytes ++ bytes; args = old.args + 1 })
Adds bytes (Err full) old new = ¬ HasRoom bytes old × (new ≡ old)
