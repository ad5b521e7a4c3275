-- Control replies of AUTOSAR DLT, and the one spelling of each.
use Rattle.std.specs.Prelude.{ℕ, List, [], ◌∷◌, ◌++◌}
use Rattle.byteorder.specs.Endian.{little_bytes}
use Rattle.dl_headers.specs.Reply.{reply_frame}
use Rattle.dl_control.specs.declared.reply.Reply.{Reply}

-- the application id and the context id of the daemon itself: `DA1` and `DC1`
abbrev pub daemon_apid : List ℕ
daemon_apid = 0x44 ∷ 0x41 ∷ 0x31 ∷ 0 ∷ []

abbrev pub daemon_ctid : List ℕ
daemon_ctid = 0x44 ∷ 0x43 ∷ 0x31 ∷ 0 ∷ []

-- the payload: service id with its lowest byte first, status, and what the service tells besides
abbrev pub reply_payload : ℕ → ℕ → List ℕ → List ℕ
reply_payload service status body = little_bytes 4 service ++ status ∷ body

-- the reply to a request
abbrev pub control_reply : List ℕ → Reply → List ℕ
control_reply ecu reply = reply_frame ecu daemon_apid daemon_ctid (reply_payload reply.service reply.status reply.body)
