-- The replies of the daemon.
use Rattle.std.specs.Prelude.{ℕ, ◌+◌, List, length, ◌++◌, Some, None, refl}
use Rattle.dl_headers.specs.declared.header.Standard.{Standard}
use Rattle.dl_headers.specs.declared.header.Extended.{Extended}
use Rattle.dl_headers.specs.Header.{standard_header, extended_header}
use Rattle.dl_headers.specs.Message.{Message, spelling}

-- A reply is a control message that responds: with ECU, without session and timestamp, its counter 0,
abbrev pub reply_standard : List ℕ → ℕ → Standard
reply_standard ecu len = record {
  htyp = 0x25;
  mcnt = 0;
  len = len;
  ecu = Some ecu;
  session = None;
  ticks = None;
  ecu_as_told = refl;
  session_as_told = refl;
  ticks_as_told = refl;
}

-- and with one argument.
abbrev pub reply_extended : List ℕ → List ℕ → Extended
reply_extended apid ctid = record { msin = 0x26; noar = 1; apid = apid; ctid = ctid }

-- both headers, which have 18 bytes
abbrev pub reply_headers : List ℕ → List ℕ → List ℕ → ℕ → List ℕ
reply_headers ecu apid ctid len = standard_header (reply_standard ecu len) ++ extended_header (reply_extended apid ctid)

abbrev pub reply : List ℕ → List ℕ → List ℕ → List ℕ → Message
reply ecu apid ctid payload = record {
  standard = reply_standard ecu (18 + length payload);
  extended = Some (reply_extended apid ctid);
  payload = payload;
}

-- its one spelling
abbrev pub reply_frame : List ℕ → List ℕ → List ℕ → List ℕ → List ℕ
reply_frame ecu apid ctid payload = spelling (reply ecu apid ctid payload)
