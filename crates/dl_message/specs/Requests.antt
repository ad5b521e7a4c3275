-- The requests of a stream that a client sends.
use Rattle.std.specs.Prelude.{ℕ, Bool, false, ◌&&◌, List, slice_index, Option, Some, None}
use Rattle.std.specs.List.{filter}
use Rattle.dl_bytes.specs.Limits.{message_limit}
use Rattle.dl_bytes.specs.Htyp.{htyp_of, has_extended, standard_len}
use Rattle.dl_headers.specs.Msin.{is_request}
use Rattle.dl_headers.specs.declared.header.Extended.{Extended}
use Rattle.dl_message.specs.Cut.{messages}

-- whether a message asks for something: its extended header says so in MSIN
abbrev pub asks : List ℕ → Bool
asks message = has_extended (htyp_of message) && is_request (slice_index message (standard_len (htyp_of message)))

-- the same by the extended header that was read
abbrev pub asks_by : Option Extended → Bool
asks_by None = false
asks_by (Some head) = is_request head.msin

-- the messages of a client's stream that ask for something
abbrev pub requests : List ℕ → List (List ℕ)
requests stream = filter asks (messages message_limit stream)
