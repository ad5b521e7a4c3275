-- Frames tell their length: by their spelling.
use Rattle.std.proofs.Common.{◌≡◌, ℕ, ◌+◌, ◌≤◌, ◌<◌, ◌^◌, List, [], ◌∷◌, ◌++◌, length, refl, sym, ap, ◌∙◌, length-append, arith}
use Rattle.std.specs.List.{AllByRecursion}
use Rattle.byteorder.specs.Endian.{big_bytes, little_bytes}
use Rattle.byteorder.specs.Numbers.{length-bytes_high_first}
use Rattle.dl_bytes.specs.Bytes.{IsBytes}
use Rattle.dl_bytes.specs.Cutting.{AreCut}
use Rattle.dl_bytes.specs.Htyp.{htyp_of, len_of, header_len}
use Rattle.dl_bytes.specs.Id.{zero_id}
use Rattle.dl_bytes.specs.Limits.{payload_limit}
use Rattle.dl_bytes.specs.UserMessage.{HoldsMessage, IsFit}
use Rattle.dl_bytes.specs.declared.item.Item.{Item}
use Rattle.dl_bytes.specs.declared.user.UserMsg.{UserMsg}
use Rattle.dl_bytes.specs.declared.user.UserMsg.TheVariants.{Log, Overflow}
use Rattle.dl_headers.specs.Header.{standard_header, extended_header, optional}
use Rattle.dl_headers.specs.Message.{Message, spelling, IsMessage}
use Rattle.dl_headers.specs.Reply.{reply, reply_frame}
use Rattle.dl_headers.proofs.Again.{len_again}
use Rattle.dl_headers.proofs.Fronts.{good_front}
use Rattle.dl_message.specs.Cut.{IsWholeMessage}
use Rattle.dl_message.specs.Frames.{log_call, log_message, overflow_record}
use Rattle.dl_user.specs.Cut.{HasRanges, Begins, messages_of}
use Rattle.dl_user.proofs.Cuts.{cut_is_there}
use Rattle.dl_model.specs.Frames.{user_frames}
use Rattle.dl_model.specs.Overflow.{counters, overflow_frames}
use Rattle.dl_laws.specs.Frames.{TellsLen}
use Rattle.dl_laws.specs.FrameLengths.{HasId}
use Rattle.dl_laws.proofs.Entries.{all_made}

-- ---- messages

-- the headers of a message have at least the four bytes that every one begins with
headers_long : (htyp : ℕ) → 4 ≤ header_len htyp
headers_long htyp = omega arith

len_spelled : (m : Message) → m.standard.len < 2 ^ 16 → len_of (spelling m) ≡ m.standard.len
len_spelled m lt = len_again m.standard.len lt

spelled_tells : (m : Message) → length (spelling m) ≡ m.standard.len → 4 ≤ m.standard.len → m.standard.len < 2 ^ 16 → TellsLen (spelling m)
spelled_tells m whole least lt = record { least = omega (arith, whole, least); len = len_spelled m lt ∙ sym whole }

pub message_tells : (m : Message) (bytes : List ℕ) → IsMessage m bytes → TellsLen bytes
message_tells m bytes is =
    let len : len_of bytes ≡ m.standard.len = ap len_of is.spelled ∙ len_spelled m is.standard.len in
    record { least = omega (arith, headers_long m.standard.htyp, is.standard.room, is.len); len = len ∙ sym is.len }

pub whole_tells : (limit : ℕ) (bytes : List ℕ) → IsWholeMessage limit bytes → TellsLen bytes
whole_tells limit bytes is = record { least = (good_front bytes is.front).long; len = sym is.len }

held_tells : (bytes : List ℕ) → HoldsMessage bytes → TellsLen bytes
held_tells bytes is = record { least = omega (arith, headers_long (htyp_of bytes), is.headers, is.whole); len = is.whole }

-- ---- how long spellings are

three_long : (a b c : List ℕ) → length (a ++ b ++ c) ≡ length a + length b + length c
three_long a b c = omega (arith, length-append a b, length-append (a ++ b) c, length-append b c, length-append a (b ++ c))

standard_long : (htyp mcnt len : ℕ) (ecu session ticks : List ℕ) →
    length ((htyp ∷ mcnt ∷ []) ++ big_bytes 2 len ++ ecu ++ session ++ ticks) ≡ 4 + (length ecu + length session + length ticks)
standard_long htyp mcnt len ecu session ticks = omega (arith, three_long ecu session ticks)

log_long : (ecu : List ℕ) (item : Item) → length ecu ≡ 4 → length item.apid ≡ 4 → length item.ctid ≡ 4 → length (log_message ecu item) ≡ 26 + length item.payload.bytes
log_long ecu item ecu_long apid_long ctid_long =
    let m = log_call ecu item in
    let session = big_bytes 4 item.writer in
    let ticks = big_bytes 4 item.at in
    let standard : length (standard_header m.standard) ≡ 4 + (length ecu + length session + length ticks) =
    standard_long m.standard.htyp m.standard.mcnt m.standard.len ecu session ticks in
    let headed : length (standard_header m.standard) ≡ 16 = omega (arith, standard, ecu_long, length-bytes_high_first 4 item.writer, length-bytes_high_first 4 item.at) in
    let extended : length (optional extended_header m.extended) ≡ 10 = omega (arith, length-append item.apid item.ctid, apid_long, ctid_long) in
    three_long (standard_header m.standard) (optional extended_header m.extended) m.payload ∙ ap (λ (n : ℕ). n + length (optional extended_header m.extended) + length m.payload) headed
    ∙ ap (λ (n : ℕ). 16 + n + length m.payload) extended ∙ omega arith

pub log_tells : (ecu : List ℕ) (item : Item) → length ecu ≡ 4 → length item.apid ≡ 4 → length item.ctid ≡ 4 → length item.payload.bytes ≤ payload_limit → TellsLen (log_message ecu item)
log_tells ecu item ecu_long apid_long ctid_long within =
    spelled_tells (log_call ecu item) (log_long ecu item ecu_long apid_long ctid_long) (omega arith) (omega (arith, within))

-- ---- replies and records of lost messages

reply_long : (ecu apid ctid payload : List ℕ) → length ecu ≡ 4 → length apid ≡ 4 → length ctid ≡ 4 → length (reply_frame ecu apid ctid payload) ≡ 18 + length payload
reply_long ecu apid ctid payload ecu_long apid_long ctid_long =
    let m = reply ecu apid ctid payload in
    let standard : length (standard_header m.standard) ≡ 4 + (length ecu + length {A = ℕ} [] + length {A = ℕ} []) = standard_long m.standard.htyp m.standard.mcnt m.standard.len ecu [] [] in
    let headed : length (standard_header m.standard) ≡ 8 = omega (arith, standard, ecu_long) in
    let extended : length (optional extended_header m.extended) ≡ 10 = omega (arith, length-append apid ctid, apid_long, ctid_long) in
    three_long (standard_header m.standard) (optional extended_header m.extended) m.payload ∙ ap (λ (n : ℕ). n + length (optional extended_header m.extended) + length m.payload) headed
    ∙ ap (λ (n : ℕ). 8 + n + length m.payload) extended ∙ omega arith

pub reply_tells : (ecu apid ctid payload : List ℕ) → length ecu ≡ 4 → length apid ≡ 4 → length ctid ≡ 4 → 18 + length payload ≤ 65535 → TellsLen (reply_frame ecu apid ctid payload)
reply_tells ecu apid ctid payload ecu_long apid_long ctid_long within =
    spelled_tells (reply ecu apid ctid payload) (reply_long ecu apid ctid payload ecu_long apid_long ctid_long) (omega arith) (omega (arith, within))

-- the same where the whole reply has room
pub told_by_room : (ecu apid ctid payload : List ℕ) → length ecu ≡ 4 → length apid ≡ 4 → length ctid ≡ 4 → length (reply_frame ecu apid ctid payload) ≤ 65535 → TellsLen (reply_frame ecu apid ctid payload)
told_by_room ecu apid ctid payload ecu_long apid_long ctid_long within =
    reply_tells ecu apid ctid payload ecu_long apid_long ctid_long (omega (arith, within, reply_long ecu apid ctid payload ecu_long apid_long ctid_long))

pub records_tell : (ecu apid ctid : List ℕ) (count : ℕ) → length ecu ≡ 4 → length apid ≡ 4 → length ctid ≡ 4 → AllByRecursion TellsLen (overflow_frames ecu apid ctid count)
records_tell ecu apid ctid count ecu_long apid_long ctid_long =
    all_made TellsLen (overflow_record ecu apid ctid)
    (λ counter. reply_tells ecu apid ctid (little_bytes 4 0x14 ++ (0 ∷ 1 ∷ []) ++ little_bytes 4 counter) ecu_long apid_long ctid_long (omega arith)) (counters count)

-- ---- user messages

pub user_tells : (ecu : List ℕ) (msg : UserMsg) → length ecu ≡ 4 → IsFit msg → HasId msg → AllByRecursion TellsLen (user_frames ecu msg)
user_tells ecu (Log message) ecu_long fit id = (held_tells message fit, tt)
user_tells ecu (Overflow counter apid) ecu_long fit id = records_tell ecu apid zero_id counter ecu_long id refl
user_tells ecu _ ecu_long fit id = tt

ranged_id : (msg : UserMsg) → HasRanges msg → HasId msg
ranged_id (Overflow counter apid) ranges = ranges.1
ranged_id _ ranges = tt

pub begins_fit : (bytes after : List ℕ) (msg : UserMsg) → Begins bytes msg after → IsFit msg × HasId msg
begins_fit bytes after msg begins = (begins.1.fit, ranged_id msg begins.1.ranges)

cut_fit : (bytes : List ℕ) (msgs : List UserMsg) (rest : List ℕ) → AreCut Begins bytes msgs rest → AllByRecursion (λ (msg : UserMsg). IsFit msg × HasId msg) msgs
cut_fit bytes [] rest cut = tt
cut_fit bytes (msg ∷ msgs) rest cut = (begins_fit bytes cut.0 msg cut.1, cut_fit cut.0 msgs rest cut.2)

pub heard_fit : (bytes : List ℕ) → IsBytes bytes → AllByRecursion (λ (msg : UserMsg). IsFit msg × HasId msg) (messages_of bytes)
heard_fit bytes small = let cut = cut_is_there bytes small in cut_fit bytes (messages_of bytes) _ cut.1.0
