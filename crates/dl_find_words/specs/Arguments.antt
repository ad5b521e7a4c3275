-- The text of a message's arguments.
use Rattle.std.specs.Prelude.{ℕ, ◌/◌, ◌%◌, ◌==◌, ◌&&◌, nat_le, not, Bool, true, false, List, [], ◌∷◌, ◌++◌, codes, drop, length, slice_index, Option, Some, None, if◌then◌else◌}
use Rattle.std.specs.List.{flat_map}
use Rattle.std.specs.Fmt.{decimal, signed_decimal}
use Rattle.hex.specs.Hex.{upper_digits}
use Rattle.dl_args.specs.Coming.{Coming, coming_of}
use Rattle.dl_args.specs.declared.arg.Arg.{Arg}
use Rattle.dl_args.specs.declared.arg.Arg.TheVariants as arg
use Rattle.dl_args.specs.declared.arg.ArgFault.{ArgFault}
use Rattle.dl_bytes.specs.Htyp.{has_big_numbers, has_extended, htyp_of}
use Rattle.dl_bytes.specs.declared.cursor.Order.{Order}
use Rattle.dl_bytes.specs.declared.cursor.Order.TheVariants.{Little, Big}
use Rattle.dl_receive.specs.MessageKind.{msin_of, payload_of}
use Rattle.dl_sessions.specs.Stream.{noar_of}

-- a byte of a text: a visible letter or a blank as itself, but for `\`; any other one as `\x` and its two hexadecimal digits
abbrev pub is_plain : ℕ → Bool
is_plain b = nat_le 32 b && (nat_le b 126 && not (b == 92))

abbrev pub hex_text : ℕ → List ℕ
hex_text b = slice_index upper_digits (b / 16) ∷ slice_index upper_digits (b % 16) ∷ []

abbrev pub letter_text : ℕ → List ℕ
letter_text b = if is_plain b then b ∷ [] else 92 ∷ 120 ∷ hex_text b

-- bytes of any meaning
abbrev pub bytes_text : List ℕ → List ℕ
bytes_text bytes = flat_map hex_text bytes

-- an argument, without its name
abbrev pub arg_text : Arg → List ℕ
arg_text (arg.Bool name value) = if value then codes "1" else codes "0"
arg_text (arg.Sint name unit width value) = signed_decimal value
arg_text (arg.Uint name unit width value) = decimal value
arg_text (arg.Text name bytes utf8) = flat_map letter_text bytes
arg_text (arg.Raw name bytes) = bytes_text bytes

-- what comes, each behind a blank, and a mark where one can't be read
abbrev pub fault_text : Option ArgFault → List ℕ
fault_text None = []
fault_text (Some fault) = codes " (unread)"

abbrev pub coming_text : Coming → List ℕ
coming_text c = flat_map (λ a. 32 ∷ arg_text a) c.args ++ fault_text c.fault

abbrev pub order_of : List ℕ → Order
order_of message = if has_big_numbers (htyp_of message) then Big else Little

-- verbose mode: the first bit of MSIN, where there is an extended header
abbrev pub is_verbose : List ℕ → Bool
is_verbose message = has_extended (htyp_of message) && (msin_of message % 2 == 1)

-- The arguments of a message in verbose mode; the payload of another one.
abbrev pub message_text : List ℕ → List ℕ
message_text message =
    if is_verbose message then coming_text (coming_of (order_of message) (noar_of message) (payload_of message)) else 32 ∷ bytes_text (payload_of message)
