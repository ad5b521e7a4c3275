-- A filter's directory is of printable letters, and no longer than a configuration allows.
use Rattle.std.proofs.Common.{◌≡◌, ℕ, ◌≤◌, ◌*◌, Bool, true, false, ◌&&◌, List, [], ◌∷◌, ◌++◌, length, refl, arith}
use Rattle.std.specs.Prelude.{codes}
use Rattle.std.specs.List.{list_all}
use Rattle.std.proofs.lemmas.Bool.Decides.{nat_tests}
use Rattle.dl_bytes.specs.Conf.{is_printable}
use Rattle.dl_storage.specs.FilterLine.{are_sizes, is_name, is_name_letter}

letter : (b : ℕ) → is_name_letter b ≡ true → is_printable b ≡ true
letter b is = grind (arith, nat_tests)

letters : (name : List ℕ) → list_all is_name_letter name ≡ true → list_all is_printable name ≡ true
letters [] is = refl
letters (b ∷ name) is = by_test (is_name_letter b) refl is (letters name) where
  by_test : (t : Bool) → is_name_letter b ≡ t → (t && list_all is_name_letter name) ≡ true → (list_all is_name_letter name ≡ true → list_all is_printable name ≡ true) → list_all is_printable (b ∷ name) ≡ true
  by_test true here rest then = rw (letter b here) (then rest)
  by_test false here rest then = absurd (cc rest)

pub printable : (name : List ℕ) → is_name name ≡ true → list_all is_printable (codes "storage/" ++ name) ≡ true
printable name is = letters name (grind (arith, nat_tests))

pub short : (name : List ℕ) → is_name name ≡ true → length (codes "storage/" ++ name) ≤ 200
short name is = let few : length name ≤ 16 = grind (arith, nat_tests) in omega (arith, few)

pub record Sizes (size max : ℕ) : Type 0 where
  pub least : 2000 ≤ size
  pub most : size ≤ 100000000
  pub two : 2 * size ≤ max
  pub limit : max ≤ 1000000000

pub sizes : (size max : ℕ) → are_sizes size max ≡ true → Sizes size max
sizes size max is = record {
  least = grind (arith, nat_tests);
  most = grind (arith, nat_tests);
  two = grind (arith, nat_tests);
  limit = grind (arith, nat_tests);
}
