use Rattle.std.proofs.Common.{◌≡◌, ◌≤◌, ◌+◌, ◌++◌, cond, length, drop, None, refl, sym, ap, ◌∙◌, append_assoc, arith}
use Rattle.std.proofs.lemmas.List.{take_rest, append_cancel_left}
use Rattle.dl_bytes.specs.Htyp.{has_extended}
use Rattle.dl_headers.specs.declared.header.Standard.{Standard}
use Rattle.dl_headers.specs.Header.{standard_header, extended_header, optional}
use Rattle.dl_headers.specs.Reading.{front_fault}
use Rattle.dl_message.proofs.Joined.{two_parts, no_first, ok_is, same_message}
use Rattle.dl_message.proofs.message.read_message.Goals as goal

-- LEN is the length
len_is : (c : goal.After-header_len) → length c.args.bytes.now ≡ c.in_ok-standard.standard.len
len_is c =
    let front : front_fault c.args.bytes.now ≡ None = no_first _ _ (sym c.in_ok-standard.ensures.fault) in
    c.requires front ∙ sym c.in_ok-standard.ensures.len

-- the headers, and the payload behind them
parts : (c : goal.After-header_len) → let bytes = c.args.bytes.now in
    (bytes ≡ (standard_header c.in_ok-standard.standard ++ optional extended_header c.optional_extended-extended.result.0) ++ drop c.header_len.result bytes)
    × (drop c.header_len.result bytes ≡ c.optional_extended-extended.result.1.now)
parts c =
    let bytes = c.args.bytes.now in
    let read = c.in_ok-standard in
    let behind = c.optional_extended-extended in
    let room : c.standard_len.result ≤ length bytes = omega (arith, read.ensures.standard.room, len_is c, c.standard_len.ensures.value) in
    let head : bytes ≡ standard_header read.standard ++ drop c.standard_len.result bytes = rw c.standard_len.ensures.value read.ensures.head in
    let start : c.header_len.result ≡ c.standard_len.result + cond c.has_extended.result 10 0 = rw (c.header_len.ensures.value, c.standard_len.ensures.value, c.has_extended.ensures) refl in
    rw start (two_parts bytes (standard_header read.standard) (optional extended_header behind.result.0) behind.result.1.now c.standard_len.result (cond c.has_extended.result 10 0) room head behind.ensures.spelled behind.ensures.len)

pub returns-clause-message : goal.returns-clause-message
returns-clause-message c = record {
  spelled = (parts c).0;
  standard = c.in_ok-standard.ensures.standard;
  extended = c.optional_extended-extended.ensures.extended;
  told = c.optional_extended-extended.ensures.there ∙ c.has_extended.ensures;
  len = len_is c;
}

pub returns-clause-again : goal.returns-clause-again
returns-clause-again c = λ m is.
    let bytes = c.args.bytes.now in
    let read = c.in_ok-standard in
    let split = is.spelled ∙ append_assoc (standard_header m.standard) (optional extended_header m.extended) m.payload in
    let standard : read.standard ≡ m.standard = ok_is (read.ensures.again m.standard (optional extended_header m.extended ++ m.payload) is.standard split) in
    let head : bytes ≡ standard_header m.standard ++ drop c.standard_len.result bytes = rw (← standard, c.standard_len.ensures.value) read.ensures.head in
    let behind = take_rest bytes c.standard_len.result ∙ append_cancel_left (standard_header m.standard) _ _ (sym head ∙ split) in
    let there = is.told ∙ ap (λ (h : Standard). has_extended h.htyp) (sym standard) ∙ sym c.has_extended.ensures in
    let extended = c.optional_extended-extended.ensures.again m.extended m.payload there is.extended behind in
    same_message _ m standard extended.0 ((parts c).1 ∙ extended.1)
