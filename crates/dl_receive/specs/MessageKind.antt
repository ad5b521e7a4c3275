-- What a message is to a receiver, by its bytes: AUTOSAR DLT, standard header, extended header and control messages.
use Rattle.std.specs.Prelude.{ℕ, not, ◌==◌, ◌&&◌, nat_eq, List, [], ◌∷◌, length, take, drop, slice_index, Option, Some, None, if◌then◌else◌}
use Rattle.std.specs.List.{starts_with}
use Rattle.std.specs.Option.{option_map_or}
use Rattle.byteorder.specs.Endian.{big_number, little_number}
use Rattle.dl_bytes.specs.Htyp.{htyp_of, len_of, has_extended, has_big_numbers, has_ecu, has_session, standard_len, header_len}
use Rattle.dl_headers.specs.declared.header.Standard.{Standard}
use Rattle.dl_headers.specs.declared.header.Extended.{Extended}
use Rattle.dl_headers.specs.Message.{Message}
use Rattle.dl_headers.specs.Msin.{message_type}
use Rattle.dl_headers.specs.Reading.{mcnt_of}
use Rattle.dl_receive.specs.declared.kind.Kind.{Kind}
use Rattle.dl_receive.specs.declared.kind.Kind.TheVariants.{Log, Overflow, Other}

-- ---- where the fields stand

-- SEID, where HTYP says that it is there: behind HTYP, MCNT and LEN, and ECU where that is there
abbrev pub session_of : List ℕ → Option ℕ
session_of message =
    if has_session (htyp_of message) then Some (big_number 4 (drop (if has_ecu (htyp_of message) then 8 else 4) message)) else None

-- the extended header and the payload: what stands behind the standard header
abbrev pub behind_standard : List ℕ → List ℕ
behind_standard message = drop (standard_len (htyp_of message)) message

-- MSIN, APID and CTID of an extended header; between MSIN and APID stands NOAR
abbrev pub msin_of : List ℕ → ℕ
msin_of message = slice_index (behind_standard message) 0

abbrev pub apid_of : List ℕ → List ℕ
apid_of message = take 4 (drop 2 (behind_standard message))

abbrev pub ctid_of : List ℕ → List ℕ
ctid_of message = take 4 (drop 6 (behind_standard message))

-- the payload: what stands behind all headers
abbrev pub payload_of : List ℕ → List ℕ
payload_of message = drop (header_len (htyp_of message)) message

-- ---- what the message is

-- the first bytes of the report of lost messages: service 0x14, status 0 and 1, an overflow
abbrev pub overflow_start : List ℕ
overflow_start = 0x14 ∷ 0 ∷ 0 ∷ 0 ∷ 0 ∷ 1 ∷ []

-- How many messages were lost, where MSIN says that a control message responds (0x26), and the payload has its numbers
-- lowest byte first and is the report of lost messages: its first bytes, and a counter of four.
abbrev pub lost_by : ℕ → ℕ → List ℕ → Option ℕ
lost_by htyp msin payload =
    if (msin == 0x26) && not (has_big_numbers htyp) && (length payload == 10) && starts_with nat_eq payload overflow_start
    then Some (little_number 4 (drop 6 payload))
    else None

-- what a message with an extended header is: MSTP 0 is a log message
abbrev pub kind_by : (htyp mcnt len : ℕ) → (session : Option ℕ) → (msin : ℕ) → (apid ctid payload : List ℕ) → Kind
kind_by htyp mcnt len session msin apid ctid payload =
    if message_type msin == 0
    then option_map_or (λ seid. Log seid mcnt apid ctid len) session (Other len)
    else option_map_or (λ counter. Overflow apid counter) (lost_by htyp msin payload) (Other len)

-- A log message that tells its session, the report of lost messages of an application, or another message.
unfoldable pub kind_of : List ℕ → Kind
kind_of message =
    if has_extended (htyp_of message)
    then kind_by (htyp_of message) (mcnt_of message) (len_of message) (session_of message) (msin_of message) (apid_of message) (ctid_of message) (payload_of message)
    else Other (len_of message)

-- ---- the same of a message by its parts

abbrev pub headed : Standard → List ℕ → Extended → Kind
headed standard payload head =
    kind_by standard.htyp standard.mcnt standard.len standard.session head.msin head.apid head.ctid payload

abbrev pub kind_in : Message → Kind
kind_in m = option_map_or (headed m.standard m.payload) m.extended (Other m.standard.len)
