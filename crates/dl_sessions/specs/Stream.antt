-- A stream of messages as a file holds it: where its messages stand, and what each of them tells.
use Rattle.std.specs.Prelude.{◌≡◌, ℕ, ◌-◌, ◌==◌, ◌&&◌, nat_eq, nat_le, Bool, true, false, List, [], ◌∷◌, length, take, drop, codes, slice_index, Option, Some, None, is_none, if◌then◌else◌}
use Rattle.std.specs.List.{starts_with}
use Rattle.byteorder.specs.Endian.{big_number}
use Rattle.std.specs.Option.{option_map_or}
use Rattle.std.specs.Str.{bytes_eq}
use Rattle.dl_bytes.specs.Htyp.{htyp_of, len_of, has_ecu, has_extended, has_ticks, standard_len}
use Rattle.dl_bytes.specs.Id.{zero_id}
use Rattle.dl_control.specs.Reply.{daemon_apid}
use Rattle.dl_headers.specs.declared.fault.HeaderFault.{HeaderFault}
use Rattle.dl_headers.specs.declared.fault.HeaderFault.TheVariants.{Version, Length}
use Rattle.dl_headers.specs.declared.header.Extended.{Extended}
use Rattle.dl_headers.specs.declared.header.Standard.{Standard}
use Rattle.dl_headers.specs.Reading.{front_fault, mcnt_of}
use Rattle.dl_message.specs.Cut.{serial_header}
use Rattle.dl_receive.specs.declared.kind.Kind.{Kind}
use Rattle.dl_receive.specs.declared.kind.Kind.TheVariants.{Log, Overflow, Other}
use Rattle.dl_receive.specs.MessageKind.{apid_of, behind_standard, ctid_of, kind_of, msin_of, payload_of, session_of}
use Rattle.dl_sessions.specs.Calls.{calls_of, no_calls}
use Rattle.dl_sessions.specs.declared.session.Calls.{Calls}
use Rattle.dl_sessions.specs.declared.session.Told.{Told}
use Rattle.dl_sessions.specs.declared.session.Told.TheVariants as told
use Rattle.dl_sessions.specs.declared.stream.End.{End}
use Rattle.dl_sessions.specs.declared.stream.End.TheVariants.{Whole, Within, Bad}
use Rattle.dl_sessions.specs.declared.stream.Place.{Place}

-- ---- what a message tells

-- ECU, where HTYP says that it is there: behind HTYP, MCNT and LEN. Else this one.
abbrev pub ecu_of : List ℕ → List ℕ → List ℕ
ecu_of other message = if has_ecu (htyp_of message) then take 4 (drop 4 message) else other

-- TMSP, where HTYP says that it is there: the last field of the standard header
abbrev pub ticks_of : List ℕ → ℕ
ticks_of message = if has_ticks (htyp_of message) then big_number 4 (drop (standard_len (htyp_of message) - 4) message) else 0

-- NOAR, the second byte of the extended header
abbrev pub noar_of : List ℕ → ℕ
noar_of message = slice_index (behind_standard message) 1

-- the head of an account: a log message of severity info, with ten verbose arguments, of the context DLTC
abbrev pub is_of_account : ℕ → ℕ → List ℕ → Bool
is_of_account msin noar ctid = msin == 0x41 && (noar == 10 && bytes_eq ctid (codes "DLTC"))

-- what a message tells of a context's calls
abbrev pub calls_by : ℕ → ℕ → (ctid payload : List ℕ) → Calls
calls_by msin noar ctid payload = if is_of_account msin noar ctid then calls_of payload else no_calls

-- a message of a session, where one is told
abbrev pub entry_by : Option ℕ → ℕ → (apid ctid ecu : List ℕ) → ℕ → Calls → Told
entry_by session mcnt apid ctid ecu ticks calls =
    option_map_or (λ seid. told.Log (record { session = record { ecu = ecu; apid = apid; seid = seid }; ctid = ctid; mcnt = mcnt; ticks = ticks; calls = calls })) session told.Other

-- whatever its type (MSTP), a message with an extended header that tells its session takes a message counter of it
abbrev pub entry_at : List ℕ → ℕ → List ℕ → Told
entry_at ecu ticks message =
    if has_extended (htyp_of message)
    then entry_by (session_of message) (mcnt_of message) (apid_of message) (ctid_of message) ecu ticks
    (calls_by (msin_of message) (noar_of message) (ctid_of message) (payload_of message))
    else told.Other

-- the same by its headers
abbrev pub entry_in : Standard → Option Extended → (payload ecu : List ℕ) → ℕ → Told
entry_in standard extended payload ecu ticks =
    option_map_or (λ head. entry_by standard.session standard.mcnt head.apid head.ctid ecu ticks (calls_by head.msin head.noar head.ctid payload)) extended told.Other

-- what a report of lost messages tells: with APID DA1 and CTID TRCE those were not stored, and no ring or buffer was full
abbrev pub lost_by : (apid ctid : List ℕ) → ℕ → Told
lost_by apid ctid counter =
    if bytes_eq apid daemon_apid && bytes_eq ctid (codes "TRCE") then told.Unstored counter
    else told.Lost (record { source = record { apid = apid }; count = counter })

-- the report of lost messages, or any other message
abbrev pub told_by : Kind → (context : List ℕ) → Told → Told
told_by (Overflow apid counter) context entry = lost_by apid context counter
told_by (Log seid mcnt apid ctid len) context entry = entry
told_by (Other len) context entry = entry

-- CTID, where HTYP says that an extended header is there
abbrev pub context_of : List ℕ → List ℕ
context_of message = if has_extended (htyp_of message) then ctid_of message else zero_id

abbrev pub told_of : List ℕ → List ℕ → Told
told_of ecu message = told_by (kind_of message) (context_of message) (entry_at (ecu_of ecu message) (ticks_of message) message)

-- ---- where messages stand

-- what a storage header begins with
abbrev pub storage_pattern : List ℕ
storage_pattern = 0x44 ∷ 0x4c ∷ 0x54 ∷ 0x01 ∷ []

-- the bytes of what stands before a message: a storage header, a serial header, or nothing
abbrev pub before_len : List ℕ → ℕ
before_len bytes =
    if starts_with nat_eq bytes storage_pattern then 16
    else if starts_with nat_eq bytes serial_header then 4
    else 0

-- the ECU that a storage header tells, in its last four bytes
abbrev pub stored_ecu : List ℕ → List ℕ
stored_ecu bytes =
    if starts_with nat_eq bytes storage_pattern && nat_le 16 (length bytes)
    then slice_index bytes 12 ∷ slice_index bytes 13 ∷ slice_index bytes 14 ∷ slice_index bytes 15 ∷ []
    else zero_id

-- where the message stands that begins these bytes, if it is whole
abbrev pub first_place : List ℕ → Option Place
first_place bytes =
    let behind = drop (before_len bytes) bytes in
    if is_none (front_fault behind) && nat_le (len_of behind) (length behind)
    then Some (record { ecu = stored_ecu bytes; before = before_len bytes; len = len_of behind })
    else None

-- what the message tells that stands there
abbrev pub told_at : Place → List ℕ → Told
told_at place bytes = told_of place.ecu (take place.len (drop place.before bytes))

-- what stands behind it
abbrev pub rest_behind : Place → List ℕ → List ℕ
rest_behind place bytes = drop place.len (drop place.before bytes)

-- Bytes tell this, message by message, up to a rest that no whole message begins.
abbrev pub Tells : List ℕ → List Told → List ℕ → Type 0
Tells bytes [] rest = (bytes ≡ rest) × (first_place bytes ≡ None)
Tells bytes (t ∷ stream) rest =
    (place : Place) × (first_place bytes ≡ Some place) × (told_at place bytes ≡ t) × Tells (rest_behind place bytes) stream rest

-- ---- how a stream ends

-- a version other than 1, or a LEN that has no room for the headers
abbrev pub is_bad_front : Option HeaderFault → Bool
is_bad_front (Some (Version version)) = true
is_bad_front (Some (Length len)) = true
is_bad_front _ = false

-- a rest: nothing, what no message begins with, or the beginning of a message
abbrev pub end_of : List ℕ → End
end_of [] = Whole
end_of (byte ∷ rest) = if is_bad_front (front_fault (drop (before_len (byte ∷ rest)) (byte ∷ rest))) then Bad else Within
