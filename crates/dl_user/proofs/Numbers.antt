-- The readers of single fields: bytes, numbers and signed numbers.
use Rattle.std.proofs.Common.{◌≡◌, ℕ, ◌^◌, ◌<◌, ◌≤◌, ℤ, pos, negsuc, false, ltb, List, [], ◌∷◌, ◌++◌, length, take, drop, Option, Some, FitsSigned, refl, sym, ap, ◌∙◌, arith, rules}
use Rattle.std.specs.Int.{w8, cast_signed, cast_unsigned}
use Rattle.std.proofs.lemmas.Bool.{ltb-false, le-ltb}
use Rattle.std.proofs.lemmas.Int.{to_z-of_z, of_z-to_z}
use Rattle.std.proofs.Math.Facts.{sfits_to_z}
use Rattle.std.proofs.lemmas.List.{take_at, drop_at, take-append-drop, length-append, length-take}
use Rattle.std.proofs.lemmas.Nat.{le_bytes_4}
use Rattle.byteorder.specs.Endian.{little_bytes, little_number}
use Rattle.byteorder.specs.Numbers.{little_number-reads_back, little_from-take, little_from-lt, length-bytes_low_first}
use Rattle.dl_lemmas.proofs.Options.{guard_some}
use Rattle.dl_bytes.specs.Number.{At, bytes_at, number_at}
use Rattle.dl_bytes.proofs.Bytes.{IsBytes-take}
use Rattle.dl_user.specs.Layout.{signed}
use Rattle.dl_user.specs.Fields.{signed_at}
use Rattle.dl_bytes.specs.Bytes.{IsBytes}
use Rattle.dl_user.specs.Reading.{little}
use Rattle.dl_user.proofs.Readers.{Then}
use Rattle.dl_user.proofs.FieldReaders.{Fields, fields_then, fields_as, fields_end}

-- n bytes as they are
abbrev pub AreBytes : ℕ → List ℕ → List ℕ → Type 0
AreBytes n text x = (text ≡ x) × (length x ≡ n)

pub bytes_field : (n : ℕ) → Fields (bytes_at n) (AreBytes n)
bytes_field n = record {
  again = λ text rest x p.
      let len : length text ≡ n = rw p.0 p.1 in
      let enough : ltb (length (text ++ rest)) n ≡ false = le-ltb _ _ (omega (arith, length-append text rest)) in
      rw (enough, take_at text rest n len, drop_at text rest n len, p.0) refl;
  found = λ bytes x c fits e.
      let read : List ℕ × At = (take n bytes, little (drop n bytes)) in
      let got : List ℕ × At = (x, c) in
      let g = guard_some (ltb (length bytes) n) read got e in
      let enough : n ≤ length bytes = ltb-false _ _ g.0 in
      let x-is : take n bytes ≡ x = ap (λ (p : List ℕ × At). p.0) g.1 in
      let c-is : little (drop n bytes) ≡ c = ap (λ (p : List ℕ × At). p.1) g.1 in
      let rest-is : drop n bytes ≡ c.rest = ap (λ (d : At). d.rest) c-is in
      record {
        text = take n bytes;
        parts = rw (← rest-is) (sym (take-append-drop n bytes));
        left = rw (← c-is) refl;
        spells = (x-is, rw (← x-is) (omega (arith, length-take n bytes)));
      };
}

-- n bytes as a number
abbrev pub IsNumber : ℕ → List ℕ → ℕ → Type 0
IsNumber n text x = (text ≡ little_bytes n x) × (x < 256 ^ n)

number_field : (n : ℕ) → ((bytes : List ℕ) → length bytes ≡ n → IsBytes bytes → little_bytes n (little_number n bytes) ≡ bytes) → Fields (number_at n) (IsNumber n)
number_field n back = record {
  again = λ text rest x p.
      let len : length text ≡ n = rw p.0 (length-bytes_low_first 0 n x) in
      let enough : ltb (length (text ++ rest)) n ≡ false = le-ltb _ _ (omega (arith, length-append text rest)) in
      let number : little_number n (text ++ rest) ≡ x = rw p.0 (little_number-reads_back n x rest p.1) in
      rw (enough, number, drop_at text rest n len) refl;
  found = λ bytes x c fits e.
      let read : ℕ × At = (little_number n bytes, little (drop n bytes)) in
      let got : ℕ × At = (x, c) in
      let g = guard_some (ltb (length bytes) n) read got e in
      let enough : n ≤ length bytes = ltb-false _ _ g.0 in
      let x-is : little_number n bytes ≡ x = ap (λ (p : ℕ × At). p.0) g.1 in
      let c-is : little (drop n bytes) ≡ c = ap (λ (p : ℕ × At). p.1) g.1 in
      let rest-is : drop n bytes ≡ c.rest = ap (λ (d : At). d.rest) c-is in
      let same : little_number n (take n bytes) ≡ little_number n bytes = little_from-take 0 n n bytes (omega arith) in
      let front : little_bytes n (little_number n (take n bytes)) ≡ take n bytes = back (take n bytes) (omega (arith, length-take n bytes)) (IsBytes-take n bytes fits) in
      record {
        text = take n bytes;
        parts = rw (← rest-is) (sym (take-append-drop n bytes));
        left = rw (← c-is) refl;
        spells = (sym front ∙ ap (λ (y : ℕ). little_bytes n y) (same ∙ x-is), rw (← x-is) (little_from-lt 0 n bytes fits));
      };
}

-- ---- a number of four bytes

pub long_field : Fields (number_at 4) (IsNumber 4)
long_field = number_field 4 (λ bytes len fits. le_bytes_4 bytes (little_number 4 bytes) len fits (omega arith))

-- ---- a byte

one_byte : (bytes : List ℕ) → length bytes ≡ 1 → IsBytes bytes → little_bytes 1 (little_number 1 bytes) ≡ bytes
one_byte [] len fits = absurd (omega arith)
one_byte (b ∷ []) len fits = ap (λ (x : ℕ). x ∷ []) (omega (arith, fits 0))
one_byte (b ∷ c ∷ bytes) len fits = absurd (omega arith)

pub byte_field : Fields (number_at 1) (IsNumber 1)
byte_field = number_field 1 one_byte

-- ---- a signed number of one byte

abbrev pub IsSigned : List ℕ → ℤ → Type 0
IsSigned text z = (text ≡ signed z) × FitsSigned w8 z

abbrev read_signed : ℕ × At → Option (ℤ × At)
read_signed byte = Some (cast_signed w8 byte.0, byte.1)

abbrev IsReadSigned : ℕ → List ℕ → ℤ → Type 0
IsReadSigned byte text z = (text ≡ []) × (z ≡ cast_signed w8 byte)

pub lone_byte : (b : ℕ) → b < 256 → little_bytes 1 b ≡ b ∷ []
lone_byte b h = ap (λ (x : ℕ). x ∷ []) (omega arith)

byte_of_signed : (z : ℤ) → FitsSigned w8 z → cast_unsigned w8 z < 256
byte_of_signed (pos n) h = omega (arith, h.sfits)
byte_of_signed (negsuc n) h = omega (arith, h.sfits)

signed_to : (text : List ℕ) (z : ℤ) → Then (IsNumber 1) IsReadSigned text z → IsSigned text z
signed_to text z t =
    let below : t.first < 256 = t.front_spells.1 in
    let byte : cast_unsigned w8 z ≡ t.first = rw t.back_spells.1 (of_z-to_z w8 t.first below) in
    (rw (t.parts, t.back_spells.0, t.front_spells.0, byte, lone_byte t.first below) refl, rw t.back_spells.1 (sfits_to_z (search rules)))

signed_from : (text : List ℕ) (z : ℤ) → IsSigned text z → Then (IsNumber 1) IsReadSigned text z
signed_from text z p =
    let below = byte_of_signed z p.1 in
    record {
      first = cast_unsigned w8 z;
      front = signed z;
      back = [];
      parts = p.0;
      front_spells = (sym (lone_byte (cast_unsigned w8 z) below), below);
      back_spells = (refl, sym (to_z-of_z w8 z p.1));
    }

pub signed_field : Fields signed_at IsSigned
unfolding signed_at
signed_field = fields_as _ (Then (IsNumber 1) IsReadSigned) IsSigned signed_to signed_from
    (fields_then (number_at 1) read_signed (IsNumber 1) IsReadSigned byte_field (λ b. fields_end (cast_signed w8 b)))
