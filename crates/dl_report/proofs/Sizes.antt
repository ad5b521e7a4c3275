-- How many bytes overflow records have, and how many of them report so many lost messages.
use Rattle.std.proofs.Common.{◌≡◌, ◌≢◌, ℕ, ◌+◌, ◌/◌, ◌%◌, true, false, eqb, List, [], ◌∷◌, ◌++◌, length, map, refl, length-append, arith, ◌⊎◌, inl, inr}
use Rattle.std.specs.Prelude.{replicate, min}
use Rattle.std.proofs.lemmas.Bool.Decides.{eqb_tells}
use Rattle.std.proofs.lemmas.List.{length-replicate}
use Rattle.byteorder.specs.Endian.{little_bytes}
use Rattle.dl_bytes.specs.Id.{zero_id}
use Rattle.dl_headers.specs.Header.{standard_header, extended_header}
use Rattle.dl_headers.specs.Reply.{reply_standard, reply_extended}
use Rattle.dl_message.specs.Frames.{overflow_record}
use Rattle.dl_model.specs.Overflow.{counters}

pub record_len : (ecu apid : List ℕ) (counter : ℕ) → length (overflow_record ecu apid zero_id counter) ≡ 20 + length ecu + length apid
record_len ecu apid counter =
    let head = standard_header (reply_standard ecu 28) in
    let extended = extended_header (reply_extended apid zero_id) in
    let payload = little_bytes 4 0x14 ++ (0 ∷ 1 ∷ []) ++ little_bytes 4 counter in
    let head_len : length head ≡ 4 + length ecu = omega (arith, length-append ecu [], length-append (ecu ++ []) []) in
    let extended_len : length extended ≡ 6 + length apid = omega (arith, length-append apid zero_id) in
    omega (arith, length-append (head ++ extended) payload, length-append head extended, head_len, extended_len)

pub alike : {A : Type 0} (f : A → List ℕ) (size : ℕ) → ((x : A) → length (f x) ≡ size) → (xs : List A) → map length (map f xs) ≡ replicate (length xs) size
alike f size is [] = refl
alike f size is (x ∷ xs) = rw (is x, alike f size is xs) refl

pub counted : (n : ℕ) → length (counters n) ≡ n / 4294967295 + min 1 (n % 4294967295)
counted n = by_rest (eqb_tells (n % 4294967295) 0) where
  by_rest : ((eqb (n % 4294967295) 0 ≡ true) × (n % 4294967295 ≡ 0)) ⊎ ((eqb (n % 4294967295) 0 ≡ false) × (n % 4294967295 ≢ 0))
      → length (counters n) ≡ n / 4294967295 + min 1 (n % 4294967295)
  by_rest (inl is) = rw (is.0, length-append {A = ℕ} (replicate (n / 4294967295) 4294967295) [], length-replicate {A = ℕ} (n / 4294967295) 4294967295) (omega (arith, is.1))
  by_rest (inr is) =
      rw (is.0, length-append {A = ℕ} (replicate (n / 4294967295) 4294967295) (n % 4294967295 ∷ []), length-replicate {A = ℕ} (n / 4294967295) 4294967295) (omega (arith, is.1))
