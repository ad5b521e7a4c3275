-- A list of bytes as the parts that were read of it.
use Rattle.std.proofs.Common.{◌≡◌, ℕ, ◌+◌, ◌/◌, ◌%◌, ◌≤◌, List, [], ◌∷◌, ◌++◌, length, drop, sym, ap, ◌∙◌, append_assoc, length-append, arith}
use Rattle.std.proofs.lemmas.List.{drop_at}
use Rattle.dl_bytes.specs.Bytes.{IsBytes}
use Rattle.dl_bytes.specs.Htyp.{htyp_of, len_of}
use Rattle.byteorder.specs.Endian.{big_bytes}
use Rattle.dl_headers.specs.Reading.{mcnt_of}

-- the four bytes that every standard header begins with
abbrev pub front_of : List ℕ → List ℕ
front_of bytes = (htyp_of bytes ∷ mcnt_of bytes ∷ []) ++ big_bytes 2 (len_of bytes)

pub front_spelled : (bytes : List ℕ) → 4 ≤ length bytes → IsBytes bytes → bytes ≡ front_of bytes ++ drop 4 bytes
front_spelled [] l fits = absurd (omega arith)
front_spelled (a ∷ []) l fits = absurd (omega arith)
front_spelled (a ∷ b ∷ []) l fits = absurd (omega arith)
front_spelled (a ∷ b ∷ c ∷ []) l fits = absurd (omega arith)
front_spelled (a ∷ b ∷ c ∷ d ∷ rest) l fits =
    let third : len_of (a ∷ b ∷ c ∷ d ∷ rest) / 256 % 256 ≡ c = omega (arith, fits 2, fits 3) in
    let fourth : len_of (a ∷ b ∷ c ∷ d ∷ rest) % 256 ≡ d = omega (arith, fits 2, fits 3) in
    cc

-- four parts that stand one behind another, the last three of these lengths, and what is behind them
pub four_parts : (bytes a b c d r1 r2 r3 r4 : List ℕ) (lb lc ld n : ℕ) → bytes ≡ a ++ r1 → r1 ≡ b ++ r2 → r2 ≡ c ++ r3 → r3 ≡ d ++ r4
    → length r1 ≡ lb + length r2 → length r2 ≡ lc + length r3 → length r3 ≡ ld + length r4 → length a + lb + lc + ld ≡ n
    → bytes ≡ (a ++ b ++ c ++ d) ++ drop n bytes
four_parts bytes a b c d r1 r2 r3 r4 lb lc ld n e1 e2 e3 e4 l2 l3 l4 all =
    let whole : bytes ≡ (a ++ b ++ c ++ d) ++ r4 = e1 ∙ ap (λ (x : List ℕ). a ++ x) (e2 ∙ ap (λ (x : List ℕ). b ++ x) (e3 ∙ ap (λ (x : List ℕ). c ++ x) e4)) ∙ simp append_assoc in
    let sb = ap length e2 ∙ length-append b r2 in
    let sc = ap length e3 ∙ length-append c r3 in
    let sd = ap length e4 ∙ length-append d r4 in
    let size : length (a ++ b ++ c ++ d) ≡ n = simp length-append (omega arith) in
    let rest : drop n bytes ≡ r4 = ap (drop n) whole ∙ drop_at (a ++ b ++ c ++ d) r4 n size in
    whole ∙ ap (λ (x : List ℕ). (a ++ b ++ c ++ d) ++ x) (sym rest)
