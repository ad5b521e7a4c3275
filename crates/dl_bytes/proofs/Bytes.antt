-- What is joined, cut or made of bytes is bytes.
use Rattle.std.proofs.Common.{ℕ, ◌-◌, ◌+◌, List, ◌++◌, arith, drop, inl, inr, length, refl, replicate, take}
use Rattle.std.proofs.lemmas.Bool.{cases_lt}
use Rattle.std.proofs.lemmas.List.{get_or-append_right, get_or-drop, get_or-replicate, get_or-take, get_or_append_left, get_or_past, length-replicate, length-take}
use Rattle.dl_bytes.specs.Bytes.{IsBytes}

pub IsBytes-append : (a b : List ℕ) → IsBytes a → IsBytes b → IsBytes (a ++ b)
IsBytes-append a b fits_a fits_b i =
    elim (cases_lt i (length a)) [
      | inl lt ↦ rw (get_or_append_left a b 0 i lt) (fits_a i)
      | inr le ↦ rw (get_or-append_right a b (length a) i 0 refl le) (fits_b (i - length a))
    ]

pub IsBytes-take : (n : ℕ) (bytes : List ℕ) → IsBytes bytes → IsBytes (take n bytes)
IsBytes-take n bytes h i =
    elim (cases_lt i n) [
      | inl lt ↦ rw (get_or-take n bytes i 0 lt) (h i)
      | inr le ↦ rw (get_or_past (take n bytes) i 0 (omega (arith, length-take n bytes))) (omega arith)
    ]

pub IsBytes-drop : (n : ℕ) (bytes : List ℕ) → IsBytes bytes → IsBytes (drop n bytes)
IsBytes-drop n bytes h i = rw get_or-drop (h (n + i))

abbrev pub zeros : ℕ → List ℕ
zeros n = replicate n 0

pub IsBytes-zeros : (n : ℕ) → IsBytes (zeros n)
IsBytes-zeros n i =
    elim (cases_lt i n) [
      | inl lt ↦ rw (get_or-replicate {A = ℕ} n i 0 0 lt) (omega arith)
      | inr le ↦ rw (get_or_past (zeros n) i 0 (omega (arith, length-replicate {A = ℕ} n 0))) (omega arith)
    ]
