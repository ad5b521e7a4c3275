-- What an argument of a log line says, and the payload that arguments make.
use Rattle.std.specs.Prelude.{ℕ, ◌*◌, Bool, true, false, ◌==◌, ◌&&◌, ◌||◌, nat_le, nat_eq, List, [], ◌∷◌, length, take, drop, replicate, codes, Option, Some, None, option_map, Result, Ok, Err, if◌then◌else◌}
use Rattle.std.specs.Char.{is_ascii_alphanumeric}
use Rattle.std.specs.List.{list_all, flat_map, starts_with}
use Rattle.std.specs.Option.{ok_or, option_and_then, option_map_or}
use Rattle.std.specs.Result.{result_ok}
use Rattle.hex.specs.Hex.{decode_of}
use Rattle.dl_bytes.specs.Payload.{Arguments}
use Rattle.dl_args.specs.Argument.{written}
use Rattle.dl_args.specs.Width.{byte_count}
use Rattle.dl_args.specs.declared.arg.Arg.{Arg}
use Rattle.dl_args.specs.declared.arg.Arg.TheVariants as arg
use Rattle.dl_args.specs.declared.width.Width.{Width}
use Rattle.dl_args.specs.declared.width.Width.TheVariants.{W8, W16, W32, W64, W128}
use Rattle.dl_text.specs.Lines.{parted_at}
use Rattle.dl_script_fields.specs.Kind.{◌>>=◌, made, is_of_form}
use Rattle.dl_script_fields.specs.Value.{is_word, number_within, unsigned_field, signed_field}
use Rattle.dl_script_fields.specs.declared.kind.ScriptKind.{ScriptKind}
use Rattle.dl_script_fields.specs.declared.kind.ScriptKind.TheVariants as wrong
use Rattle.dl_script_fields.specs.declared.argument.Kind.{Kind}
use Rattle.dl_script_fields.specs.declared.argument.Kind.TheVariants as kind

-- ---- the value of an argument

-- what may stand behind a backslash: a quote, or a backslash
abbrev pub is_escapable : ℕ → Bool
is_escapable b = (b == 34) || (b == 92)

-- A text in quotes, behind its first quote: it goes to the next quote, which ends it, and `\"` and `\\` are the only
-- escapes in it.
abbrev pub unescaped : List ℕ → Option (List ℕ)
unescaped [] = None
unescaped (b ∷ []) = if b == 34 then Some [] else None
unescaped (b ∷ c ∷ rest) =
    if b == 34 then None
    else if b == 92 then (if is_escapable c then option_map (λ text. c ∷ text) (unescaped rest) else None)
    else option_map (λ text. b ∷ text) (unescaped (c ∷ rest))

-- the width of so many bits
abbrev pub width_of_bits : List ℕ → Option Width
width_of_bits bits =
    if is_word bits (codes "8") then Some W8
    else if is_word bits (codes "16") then Some W16
    else if is_word bits (codes "32") then Some W32
    else if is_word bits (codes "64") then Some W64
    else if is_word bits (codes "128") then Some W128
    else None

-- the kind of a number by its word: `sint` or `uint`, and its bits
abbrev pub number_kind : List ℕ → Option Kind
number_kind word =
    if is_word (take 4 word) (codes "sint") then option_map kind.Sint (width_of_bits (drop 4 word))
    else if is_word (take 4 word) (codes "uint") then option_map kind.Uint (width_of_bits (drop 4 word))
    else None

-- the kind of an argument by its word
abbrev pub kind_of : List ℕ → Option Kind
kind_of word =
    if is_word word (codes "bool") then Some kind.Bool
    else if is_word word (codes "fill") then Some kind.Fill
    else if is_word word (codes "raw") then Some kind.Raw
    else number_kind word

-- 0 or 1
abbrev pub truth_of : List ℕ → Option Bool
truth_of text = if is_word text (codes "0") then Some false else if is_word text (codes "1") then Some true else None

-- so many letters `x`, up to 1390
abbrev pub fill_of : List ℕ → Option (List ℕ)
fill_of text = option_map (λ n. replicate n 120) (number_within 0 1390 text)

-- bytes as pairs of hexadecimal digits, of either case, one pair at least
abbrev pub raw_of : List ℕ → Option (List ℕ)
raw_of digits = if length digits == 0 then None else result_ok (decode_of digits)

-- pairs of hexadecimal digits
abbrev pub hex_field : List ℕ → Result (List ℕ) ScriptKind
hex_field field = ok_or (raw_of field) wrong.Hex

-- an argument without a name, by its kind and the text behind the colon
abbrev pub value_by_kind : Kind → List ℕ → Result Arg ScriptKind
value_by_kind kind.Bool text = made (arg.Bool None) wrong.Fields (truth_of text)
value_by_kind kind.Fill text = made (λ letters. arg.Text None letters true) wrong.Number (fill_of text)
value_by_kind kind.Raw text = made (arg.Raw None) wrong.Hex (raw_of text)
value_by_kind (kind.Sint width) text = made (arg.Sint None None width) wrong.Number (signed_field (8 * byte_count width) text)
value_by_kind (kind.Uint width) text = made (arg.Uint None None width) wrong.Number (unsigned_field (8 * byte_count width) text)

-- ---- an argument

-- a colon
abbrev pub is_colon : ℕ → Bool
is_colon b = b == 58

-- what stands before the first colon, and what stands behind it
abbrev pub parted : List ℕ → Option (List ℕ × List ℕ)
parted text = parted_at 58 text

-- what stands behind a quote at the front
abbrev pub behind_quote : List ℕ → Option (List ℕ)
behind_quote [] = None
behind_quote (b ∷ rest) = if b == 34 then Some rest else None

-- a text in quotes, from behind its first quote on
abbrev pub quoted_value : List ℕ → Result Arg ScriptKind
quoted_value quoted = made (λ text. arg.Text None text true) wrong.Fields (unescaped quoted)

-- the word of a kind, a colon, and the value
abbrev pub word_value : List ℕ → Result Arg ScriptKind
word_value text = do
  parts ← ok_or (parted text) wrong.Fields
  kind ← ok_or (kind_of parts.0) wrong.Fields
  value_by_kind kind parts.1

-- an argument without a name: a text in quotes, or a value by its kind
abbrev pub value_of : List ℕ → Result Arg ScriptKind
value_of text = option_map_or quoted_value (behind_quote text) (word_value text)

-- a name or a unit: letters, digits and `_`, or nothing
abbrev pub is_label : List ℕ → Bool
is_label text = list_all (λ b. is_ascii_alphanumeric b || (b == 95)) text

-- a number has a unit where it has a name
abbrev pub is_number : Kind → Bool
is_number (kind.Sint width) = true
is_number (kind.Uint width) = true
is_number _ = false

-- the text says a number, by its word
abbrev pub takes_unit : List ℕ → Bool
takes_unit text = option_map_or is_number (option_and_then (λ parts. kind_of parts.0) (parted text)) false

-- an argument with a name, and with a unit where it is a number
abbrev pub with_name : List ℕ → List ℕ → Arg → Arg
with_name name unit (arg.Bool _ value) = arg.Bool (Some name) value
with_name name unit (arg.Sint _ _ width value) = arg.Sint (Some name) (Some unit) width value
with_name name unit (arg.Uint _ _ width value) = arg.Uint (Some name) (Some unit) width value
with_name name unit (arg.Text _ text utf8) = arg.Text (Some name) text utf8
with_name name unit (arg.Raw _ bytes) = arg.Raw (Some name) bytes

-- a name and a unit are labels, and the unit of anything but a number is empty
abbrev pub may_name : List ℕ → List ℕ → List ℕ → Bool
may_name name unit value = is_label name && is_label unit && ((length unit == 0) || takes_unit value)

-- behind `named:` stand a name, a unit and an argument without a name, parted by colons
abbrev pub named_of : List ℕ → Result Arg ScriptKind
named_of text = do
  name ← ok_or (parted text) wrong.Fields
  unit ← ok_or (parted name.1) wrong.Fields
  if may_name name.0 unit.0 unit.1 then (value_of unit.1 >>= λ value. Ok (with_name name.0 unit.0 value)) else Err wrong.Fields

-- what stands behind `named:`
abbrev pub behind_named : List ℕ → Option (List ℕ)
behind_named field = if starts_with nat_eq field (codes "named:") then Some (drop 6 field) else None

-- an argument of a log line
abbrev pub argument_of : List ℕ → Result Arg ScriptKind
argument_of field = option_map_or named_of (behind_named field) (value_of field)

-- the field is an argument of a known form, whatever number or digits it has
abbrev pub is_argument : List ℕ → Bool
is_argument field = is_of_form (argument_of field)

-- each field as an argument
abbrev pub arguments_of : List (List ℕ) → Result (List Arg) ScriptKind
arguments_of [] = Ok []
arguments_of (field ∷ fields) = do
  first ← argument_of field
  others ← arguments_of fields
  Ok (first ∷ others)

-- the written forms of arguments, one after the other, where they are 255 at most in 1390 bytes at most
abbrev pub payload_of : List Arg → Option Arguments
payload_of args =
    if nat_le (length (flat_map written args)) 1390 && nat_le (length args) 255
    then Some (record { bytes = flat_map written args; args = length args }) else None
