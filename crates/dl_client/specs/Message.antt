-- A log message of a program, and how it goes to the daemon.
use Rattle.std.specs.Prelude.{ℕ, ◌+◌, ◌*◌, List, ◌++◌, length, Some, refl}
use Rattle.std.specs.Int.{from_bool}
use Rattle.dl_bytes.specs.declared.user.UserMsg.TheVariants.{Log}
use Rattle.dl_headers.specs.declared.header.Standard.{Standard}
use Rattle.dl_headers.specs.declared.header.Extended.{Extended}
use Rattle.dl_headers.specs.Header.{standard_header, extended_header}
use Rattle.dl_user.specs.Layout.{user_message}
use Rattle.dl_client.specs.declared.context.Call.{Call}
use Rattle.dl_client.specs.declared.context.Sender.{Sender}
use Rattle.dl_client.specs.declared.message.Source.{Source}

-- the standard header of a program's message: ECU, SEID and TMSP are there, and an extended header follows
abbrev pub standard_of : Sender → ℕ → ℕ → ℕ → Standard
standard_of sender mcnt ticks len = record {
  htyp = 0x3d;
  mcnt = mcnt;
  len = len;
  ecu = Some sender.ecu;
  session = Some sender.session;
  ticks = Some ticks;
  ecu_as_told = refl;
  session_as_told = refl;
  ticks_as_told = refl;
}

-- MSIN of a log message: MTIN is the severity, MSTP is 0, VERB says whether the arguments are verbose
abbrev pub msin_of : Call → ℕ
msin_of call = 16 * call.severity + from_bool call.verbose

-- the extended header
abbrev pub extended_of : Source → Call → Extended
extended_of source call = record { msin = msin_of call; noar = call.args; apid = source.apid; ctid = source.ctid }

-- the message of a call, whose headers have 26 bytes
abbrev pub message : Sender → Source → Call → List ℕ → List ℕ
message sender source call payload =
    standard_header (standard_of sender source.mcnt call.ticks (26 + length payload))
    ++ extended_header (extended_of source call) ++ payload

-- a message as the daemon takes it from a program: a user message of kind 1
abbrev pub user_log : List ℕ → List ℕ
user_log bytes = user_message (Log bytes)
