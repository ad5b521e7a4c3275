-- What contracts see of the parts of a message.
use Rattle.std.specs.Prelude.{ℕ, List, drop}
use Rattle.dl_headers.specs.Message.{Message}
use Rattle.dl_message.specs.declared.message.Parts.{Parts}

-- the message whose parts were found in the bytes
abbrev pub message_of : Parts → List ℕ → Message
message_of parts bytes = record { standard = parts.standard; extended = parts.extended; payload = drop parts.start bytes }
