-- MSIN, the first byte of an extended header: AUTOSAR DLT, message info.
use Rattle.std.specs.Prelude.{ℕ, ◌/◌, Bool, ◌==◌, ◌&&◌, bit_and}

-- MSTP, bits 1 to 3: the type of the message. 0 is a log message, 3 a control message.
abbrev pub message_type : ℕ → ℕ
message_type msin = bit_and (msin / 2) 7

-- MTIN, bits 4 to 7: of a log message its severity; of a control message 1 is a request, 2 a response
abbrev pub type_info : ℕ → ℕ
type_info msin = msin / 16

-- a control message that asks for something
abbrev pub is_request : ℕ → Bool
is_request msin = (message_type msin == 3) && (type_info msin == 1)
