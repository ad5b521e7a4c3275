-- What is counted of a truth value.
use Rattle.std.proofs.Common.{◌≡◌, ◌≤◌, Bool, true, false, arith, refl}
use Rattle.dl_cells.specs.Views.{bit}

pub bit_small : (b : Bool) → bit b ≤ 1
bit_small true = omega arith
bit_small false = omega arith

pub bit_none : (b : Bool) → bit b ≡ 0 → b ≡ false
bit_none true is = absurd (omega (arith, is))
bit_none false is = refl
