use Rattle.std.proofs.Common.{◌≡◌, ◌∷◌, [], ◌++◌, ◌+◌, cond, length, drop, Ok, ap, refl, sym, ◌∙◌, arith}
use Rattle.std.proofs.lemmas.List.{take_rest}
use Rattle.dl_bytes.specs.Htyp.{htyp_of, len_of, standard_len, has_ecu, has_session, has_ticks}
use Rattle.byteorder.specs.Endian.{big_bytes}
use Rattle.dl_headers.specs.Header.{optional}
use Rattle.dl_headers.specs.Reading.{mcnt_of}
use Rattle.dl_headers.proofs.Again.{len_again, same_standard, in_order}
use Rattle.dl_headers.proofs.Parts.{front_spelled, four_parts}
use Rattle.dl_headers.proofs.read.read_standard.Goals as goal

pub returns-clause-head : goal.returns-clause-head
returns-clause-head c =
    let bytes = c.args.bytes.now in
    let front = c.in_ok-front.front in
    let ecu = c.optional_id-ecu.ensures in
    let session = c.optional_number-session.ensures in
    let ticks = c.optional_number-ticks.ensures in
    let start : bytes ≡ ((front.htyp.0 ∷ front.mcnt ∷ []) ++ big_bytes 2 front.len) ++ drop 4 bytes =
    rw (c.in_ok-front.ensures.htyp, c.in_ok-front.ensures.mcnt, c.in_ok-front.ensures.len) (front_spelled bytes (omega arith) (λ i. omega (arith, c.type_inv.bytes i))) in
    let len : length (drop 4 bytes) ≡ cond c.has_ecu.result 4 0 + length c.optional_id-ecu.result.1.now = rw (← take_rest bytes 4) ecu.len in
    let all : 4 + cond c.has_ecu.result 4 0 + cond c.has_session.result 4 0 + cond c.has_ticks.result 4 0 ≡ standard_len front.htyp.0 = rw (c.has_ecu.ensures, c.has_session.ensures, c.has_ticks.ensures) refl in
    four_parts bytes ((front.htyp.0 ∷ front.mcnt ∷ []) ++ big_bytes 2 front.len) _ _ _ _ _ _ _ _ _ _ (standard_len front.htyp.0)
    start (sym (take_rest bytes 4) ∙ ecu.spelled) session.spelled ticks.spelled len session.len ticks.len all

pub returns-clause-again : goal.returns-clause-again
returns-clause-again c = λ head rest is e.
    let front = c.in_ok-front in
    let htyp : front.front.htyp.0 ≡ head.htyp = front.ensures.htyp ∙ ap htyp_of e in
    let mcnt : front.front.mcnt ≡ head.mcnt = front.ensures.mcnt ∙ ap mcnt_of e in
    let len : front.front.len ≡ head.len = front.ensures.len ∙ ap len_of e ∙ len_again head.len is.len in
    let behind = take_rest c.args.bytes.now 4 ∙ ap (drop 4) e ∙ in_order (optional (λ ecu. ecu) head.ecu) (optional (big_bytes 4) head.session) (optional (big_bytes 4) head.ticks) rest in
    let ecu = c.optional_id-ecu.ensures.again head.ecu _ (head.ecu_as_told ∙ ap has_ecu (sym htyp) ∙ sym c.has_ecu.ensures) is.ecu behind in
    let session = c.optional_number-session.ensures.again head.session _ (head.session_as_told ∙ ap has_session (sym htyp) ∙ sym c.has_session.ensures) is.session ecu.1 in
    let ticks = c.optional_number-ticks.ensures.again head.ticks _ (head.ticks_as_told ∙ ap has_ticks (sym htyp) ∙ sym c.has_ticks.ensures) is.ticks session.1 in
    ap Ok (same_standard _ head htyp mcnt len ecu.0 session.0 ticks.0)
