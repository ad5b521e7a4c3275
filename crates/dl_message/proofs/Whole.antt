-- Each whole message is the spelling of some message.
use Rattle.std.proofs.Common.{◌≡◌, ℕ, ◌+◌, ◌<◌, ◌≤◌, ◌^◌, Bool, true, false, cond, List, [], ◌∷◌, ◌++◌, length, get_or, take, drop, Option, Some, None, refl, sym, ap, ◌∙◌, append_assoc, length-drop, length-take, take-append-drop, is_some, arith}
use Rattle.std.specs.Prelude.{IfSome}
use Rattle.std.proofs.lemmas.Nat.{be_bytes_4}
use Rattle.byteorder.specs.Endian.{big_bytes, big_number}
use Rattle.byteorder.specs.Numbers.{big_from-take, big_from-lt}
use Rattle.dl_bytes.specs.Bytes.{IsBytes}
use Rattle.dl_bytes.specs.Htyp.{htyp_of, len_of, has_extended, has_ecu, has_session, has_ticks}
use Rattle.dl_bytes.proofs.Bytes.{IsBytes-drop, IsBytes-take}
use Rattle.dl_headers.specs.declared.header.Standard.{Standard}
use Rattle.dl_headers.specs.Header.{extended_header, optional, IsExtended}
use Rattle.dl_headers.specs.Message.{Message, spelling, IsMessage}
use Rattle.dl_headers.specs.Reading.{mcnt_of}
use Rattle.dl_headers.proofs.Parts.{front_of, front_spelled}
use Rattle.dl_headers.proofs.Fronts.{good_front}
use Rattle.dl_message.specs.Cut.{IsWholeMessage}

-- ---- bytes of a list of bytes

-- the number of the first four bytes has them
four_bytes : (bytes : List ℕ) → 4 ≤ length bytes → IsBytes bytes → big_bytes 4 (big_number 4 bytes) ≡ take 4 bytes
four_bytes bytes long small =
    ap (big_bytes 4) (sym (big_from-take 0 4 4 bytes (omega arith))) ∙ be_bytes_4 (take 4 bytes) _ (omega (arith, long, length-take 4 bytes)) (IsBytes-take 4 bytes small) (omega arith)

-- ---- a field that may be absent

-- a field that is there where it is told, so many bytes long, and what stands behind it
record Field {A : Type 0} (there : Bool) (n : ℕ) (spelled_as : A → List ℕ) (is : A → Type 0) (bytes : List ℕ) : Type 0 where
  field : Option A
  rest : List ℕ
  told : is_some field ≡ there
  fits : IfSome field is
  parts : bytes ≡ optional spelled_as field ++ rest
  len : length bytes ≡ cond there n 0 + length rest
  small : IsBytes rest

absent : {A : Type 0} (n : ℕ) (spelled_as : A → List ℕ) (is : A → Type 0) (bytes : List ℕ) → IsBytes bytes → Field false n spelled_as is bytes
absent n spelled_as is bytes small = record { field = None; rest = bytes; told = refl; fits = tt; parts = refl; len = omega arith; small = small }

id_field : (there : Bool) (bytes : List ℕ) → cond there 4 0 ≤ length bytes → IsBytes bytes → Field there 4 (λ (id : List ℕ). id) (λ id. length id ≡ 4) bytes
id_field false bytes long small = absent 4 (λ (id : List ℕ). id) (λ id. length id ≡ 4) bytes small
id_field true bytes long small = record {
  field = Some (take 4 bytes);
  rest = drop 4 bytes;
  told = refl;
  fits = omega (arith, long, length-take 4 bytes);
  parts = sym (take-append-drop 4 bytes);
  len = omega (arith, long, length-drop 4 bytes);
  small = IsBytes-drop 4 bytes small;
}

number_field : (there : Bool) (bytes : List ℕ) → cond there 4 0 ≤ length bytes → IsBytes bytes → Field there 4 (λ (n : ℕ). big_bytes 4 n) (λ n. n < 2 ^ 32) bytes
number_field false bytes long small = absent 4 (λ (n : ℕ). big_bytes 4 n) (λ n. n < 2 ^ 32) bytes small
number_field true bytes long small = record {
  field = Some (big_number 4 bytes);
  rest = drop 4 bytes;
  told = refl;
  fits = big_from-lt 0 4 bytes small;
  parts = sym (ap (λ (x : List ℕ). x ++ drop 4 bytes) (four_bytes bytes long small) ∙ take-append-drop 4 bytes);
  len = omega (arith, long, length-drop 4 bytes);
  small = IsBytes-drop 4 bytes small;
}

extended_spelled : (bytes : List ℕ) → 10 ≤ length bytes
    → bytes ≡ extended_header (record { msin = get_or bytes 0 0; noar = get_or bytes 1 0; apid = take 4 (drop 2 bytes); ctid = take 4 (drop 6 bytes) }) ++ drop 10 bytes
extended_spelled (a ∷ b ∷ c ∷ d ∷ e ∷ f ∷ g ∷ h ∷ i ∷ j ∷ rest) long = refl
extended_spelled (a ∷ b ∷ c ∷ d ∷ e ∷ f ∷ g ∷ h ∷ i ∷ []) long = absurd (omega (arith, long))
extended_spelled (a ∷ b ∷ c ∷ d ∷ e ∷ f ∷ g ∷ h ∷ []) long = absurd (omega (arith, long))
extended_spelled (a ∷ b ∷ c ∷ d ∷ e ∷ f ∷ g ∷ []) long = absurd (omega (arith, long))
extended_spelled (a ∷ b ∷ c ∷ d ∷ e ∷ f ∷ []) long = absurd (omega (arith, long))
extended_spelled (a ∷ b ∷ c ∷ d ∷ e ∷ []) long = absurd (omega (arith, long))
extended_spelled (a ∷ b ∷ c ∷ d ∷ []) long = absurd (omega (arith, long))
extended_spelled (a ∷ b ∷ c ∷ []) long = absurd (omega (arith, long))
extended_spelled (a ∷ b ∷ []) long = absurd (omega (arith, long))
extended_spelled (a ∷ []) long = absurd (omega (arith, long))
extended_spelled [] long = absurd (omega (arith, long))

extended_field : (there : Bool) (bytes : List ℕ) → cond there 10 0 ≤ length bytes → IsBytes bytes → Field there 10 extended_header IsExtended bytes
extended_field false bytes long small = absent 10 extended_header IsExtended bytes small
extended_field true bytes long small = record {
  field = Some (record { msin = get_or bytes 0 0; noar = get_or bytes 1 0; apid = take 4 (drop 2 bytes); ctid = take 4 (drop 6 bytes) });
  rest = drop 10 bytes;
  told = refl;
  fits = record { apid = omega (arith, long, length-take 4 (drop 2 bytes), length-drop 2 bytes); ctid = omega (arith, long, length-take 4 (drop 6 bytes), length-drop 6 bytes) };
  parts = extended_spelled bytes long;
  len = omega (arith, long, length-drop 10 bytes);
  small = IsBytes-drop 10 bytes small;
}

-- ---- a whole message

grouped : (x a b c d e : List ℕ) → x ++ (a ++ (b ++ (c ++ (d ++ e)))) ≡ x ++ a ++ b ++ c ++ d ++ e
grouped x a b c d e = simp append_assoc

pub whole_spelled : (limit : ℕ) (bytes : List ℕ) → IsBytes bytes → IsWholeMessage limit bytes → (m : Message) × IsMessage m bytes
whole_spelled limit bytes small is =
    let htyp = htyp_of bytes in
    let front = good_front bytes is.front in
    let behind = drop 4 bytes in
    let size : length bytes ≡ 4 + length behind = omega (arith, front.long, length-drop 4 bytes) in
    let headers = front.headers in
    let all = is.len in
    let ecu = id_field (has_ecu htyp) behind (omega (arith, size, headers, all)) (IsBytes-drop 4 bytes small) in
    let session = number_field (has_session htyp) ecu.rest (omega (arith, size, headers, all, ecu.len)) ecu.small in
    let ticks = number_field (has_ticks htyp) session.rest (omega (arith, size, headers, all, ecu.len, session.len)) session.small in
    let extended = extended_field (has_extended htyp) ticks.rest (omega (arith, size, headers, all, ecu.len, session.len, ticks.len)) ticks.small in
    let standard : Standard = record {
      htyp = htyp;
      mcnt = mcnt_of bytes;
      len = len_of bytes;
      ecu = ecu.field;
      session = session.field;
      ticks = ticks.field;
      ecu_as_told = ecu.told;
      session_as_told = session.told;
      ticks_as_told = ticks.told;
    } in
    let message : Message = record { standard = standard; extended = extended.field; payload = extended.rest } in
    let first = optional (λ (id : List ℕ). id) ecu.field in
    let second = optional (λ (n : ℕ). big_bytes 4 n) session.field in
    let third = optional (λ (n : ℕ). big_bytes 4 n) ticks.field in
    let fourth = optional extended_header extended.field in
    let parts : behind ≡ first ++ (second ++ (third ++ (fourth ++ extended.rest))) =
    ecu.parts ∙ ap (λ (x : List ℕ). first ++ x) (session.parts ∙ ap (λ (x : List ℕ). second ++ x) (ticks.parts ∙ ap (λ (x : List ℕ). third ++ x) extended.parts)) in
    let spelled : bytes ≡ spelling message = front_spelled bytes front.long small ∙ ap (λ (x : List ℕ). front_of bytes ++ x) parts ∙ grouped (front_of bytes) first second third fourth extended.rest in (
      message,
      record {
        spelled = spelled;
        standard = record { version = front.version_is; room = headers; len = big_from-lt 0 2 (drop 2 bytes) (IsBytes-drop 2 bytes small); ecu = ecu.fits; session = session.fits; ticks = ticks.fits };
        extended = extended.fits;
        told = extended.told;
        len = all;
      },
    )
