-- A text parted at a byte that its front hasn't got.
use Rattle.std.proofs.Common.{◌≡◌, ℕ, ◌<◌, Bool, true, false, eqb, not, ◌&&◌, List, [], ◌∷◌, ◌++◌, length, length-append, Some, refl, arith}
use Rattle.std.specs.List.{list_all, position_or_len}
use Rattle.std.proofs.Math.Seq.{take-append_seam, drop-append-add}
use Rattle.std.proofs.lemmas.Bool.{lt-ltb, eq-eqb}
use Rattle.std.proofs.lemmas.Grind.{common_steps}
use Rattle.dl_text.specs.Lines.{parted_at}

-- the first byte is none, and the others are none
front : (b mark : ℕ) (t : Bool) → (not (eqb b mark) && t) ≡ true → (eqb b mark ≡ false) × (t ≡ true)
front b mark t e = grind (arith, common_steps)

-- the mark's place
place : (mark : ℕ) (xs ys : List ℕ) → list_all (λ b. not (eqb b mark)) xs ≡ true → position_or_len (λ b. eqb b mark) (xs ++ mark ∷ ys) ≡ length xs
place mark [] ys e = rw (eq-eqb mark mark refl) refl
place mark (x ∷ xs) ys e =
    let f = front x mark (list_all (λ b. not (eqb b mark)) xs) e in
    rw (f.0, place mark xs ys f.1) (omega arith)

-- the parts
pub parted : (mark : ℕ) (xs ys : List ℕ) → list_all (λ b. not (eqb b mark)) xs ≡ true → parted_at mark (xs ++ mark ∷ ys) ≡ Some (xs, ys)
parted mark xs ys e =
    let at = place mark xs ys e in
    let within : length xs < length (xs ++ mark ∷ ys) = omega (arith, length-append xs (mark ∷ ys)) in
    rw (at, lt-ltb (length xs) (length (xs ++ mark ∷ ys)) within, take-append_seam xs (mark ∷ ys), drop-append-add xs (mark ∷ ys) 1) refl
