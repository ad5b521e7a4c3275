-- The messages that the daemon makes, each with its one spelling.
use Rattle.std.specs.Prelude.{◌≡◌, ℕ, ◌+◌, ◌*◌, ◌^◌, ◌<◌, ◌≤◌, List, [], ◌∷◌, ◌++◌, length, Some, refl}
use Rattle.byteorder.specs.Endian.{little_bytes}
use Rattle.dl_bytes.specs.Limits.{payload_limit}
use Rattle.dl_bytes.specs.Level.{severity_number}
use Rattle.dl_bytes.specs.declared.item.Item.{Item}
use Rattle.dl_headers.specs.Reply.{reply}
use Rattle.dl_headers.specs.Message.{Message, spelling}

-- A log call as a verbose log message with all fields: the session is the writer, MTIN the severity.
abbrev pub log_call : List ℕ → Item → Message
log_call ecu item = record {
  standard = record {
    htyp = 0x3d;
    mcnt = item.mcnt;
    len = 26 + length item.payload.bytes;
    ecu = Some ecu;
    session = Some item.writer;
    ticks = Some item.at;
    ecu_as_told = refl;
    session_as_told = refl;
    ticks_as_told = refl;
  };
  extended = Some (record {
    msin = 16 * severity_number item.severity + 1;
    noar = item.payload.args;
    apid = item.apid;
    ctid = item.ctid;
  });
  payload = item.payload.bytes;
}

-- its one spelling
abbrev pub log_message : List ℕ → Item → List ℕ
log_message ecu item = spelling (log_call ecu item)

-- The report of lost messages: a reply of service 0x14 with status 0, an overflow (1), and how many were lost.
abbrev pub overflow_report : List ℕ → List ℕ → List ℕ → ℕ → Message
overflow_report ecu apid ctid counter =
    reply ecu apid ctid (little_bytes 4 0x14 ++ (0 ∷ 1 ∷ []) ++ little_bytes 4 counter)

-- its one spelling
abbrev pub overflow_record : List ℕ → List ℕ → List ℕ → ℕ → List ℕ
overflow_record ecu apid ctid counter = spelling (overflow_report ecu apid ctid counter)

-- what a log call holds: ids of four bytes, and numbers and a payload that have room in a message
pub record IsLogCall (item : Item) : Type 0 where
  pub apid : length item.apid ≡ 4
  pub ctid : length item.ctid ≡ 4
  pub writer : item.writer < 2 ^ 32
  pub at : item.at < 2 ^ 32
  pub payload : length item.payload.bytes ≤ payload_limit
