-- The four bytes that every standard header begins with: what they say, and that nothing behind them changes it.
use Rattle.std.proofs.Common.{◌≡◌, ℕ, ◌<◌, ◌≤◌, Bool, true, false, cond, ltb, List, [], ◌∷◌, ◌++◌, length, Option, Some, None, refl, length-append, arith}
use Rattle.std.specs.Prelude.{not, ◌==◌}
use Rattle.std.proofs.lemmas.Bool.{ltb-false, le-ltb, lt-ltb, eqb-true, not-false}
use Rattle.dl_bytes.specs.Htyp.{htyp_of, len_of, version, header_len}
use Rattle.dl_headers.specs.declared.fault.HeaderFault.TheVariants.{Short, Version, Length}
use Rattle.dl_headers.specs.Reading.{front_fault}

-- a front without a fault
pub record GoodFront (bytes : List ℕ) : Type 0 where
  pub long : 4 ≤ length bytes
  pub version_is : version (htyp_of bytes) ≡ 1
  pub headers : header_len (htyp_of bytes) ≤ len_of bytes

passed : {A : Type 0} (b : Bool) (x : A) (o : Option A) → cond b (Some x) o ≡ None → (b ≡ false) × (o ≡ None)
passed true x o e = absurd cc
passed false x o e = (refl, e)

pub good_front : (bytes : List ℕ) → front_fault bytes ≡ None → GoodFront bytes
good_front bytes e =
    let a = passed (ltb (length bytes) 4) _ _ e in
    let b = passed (not (version (htyp_of bytes) == 1)) _ _ a.1 in
    let c = passed (ltb (len_of bytes) (header_len (htyp_of bytes))) _ _ b.1 in
    record { long = ltb-false _ _ a.0; version_is = eqb-true (version (htyp_of bytes)) 1 (not-false _ b.0); headers = ltb-false _ _ c.0 }

pub good_again : (bytes : List ℕ) → GoodFront bytes → front_fault bytes ≡ None
good_again bytes good =
    let long : ltb (length bytes) 4 ≡ false = le-ltb _ _ good.long in
    let room : ltb (len_of bytes) (header_len (htyp_of bytes)) ≡ false = le-ltb _ _ good.headers in
    rw (long, good.version_is, room) refl

pub htyp_of-append : (a b : List ℕ) → 4 ≤ length a → htyp_of (a ++ b) ≡ htyp_of a
htyp_of-append [] b l = absurd (omega arith)
htyp_of-append (x ∷ a) b l = refl

pub len_of-append : (a b : List ℕ) → 4 ≤ length a → len_of (a ++ b) ≡ len_of a
len_of-append [] b l = absurd (omega arith)
len_of-append (x ∷ []) b l = absurd (omega arith)
len_of-append (x ∷ y ∷ []) b l = absurd (omega arith)
len_of-append (x ∷ y ∷ z ∷ []) b l = absurd (omega arith)
len_of-append (x ∷ y ∷ z ∷ w ∷ a) b l = refl

pub front_fault-append : (a b : List ℕ) → 4 ≤ length a → front_fault (a ++ b) ≡ front_fault a
front_fault-append a b l =
    let first : ltb (length a) 4 ≡ false = le-ltb _ _ l in
    let second : ltb (length (a ++ b)) 4 ≡ false = le-ltb _ _ (omega (arith, length-append a b)) in
    rw (first, second, htyp_of-append a b l, len_of-append a b l) refl

other : (b c : Bool) (v len n : ℕ) → cond b (Some (Version v)) (cond c (Some (Length len)) None) ≡ Some (Short n) → ⊥
other true c v len n e = absurd cc
other false true v len n e = absurd cc
other false false v len n e = absurd cc

-- too few bytes are no fault of four bytes
pub not_short : (bytes : List ℕ) (n : ℕ) → 4 ≤ length bytes → front_fault bytes ≡ Some (Short n) → ⊥
not_short bytes n l e =
    let long : ltb (length bytes) 4 ≡ false = le-ltb _ _ l in
    other (not (version (htyp_of bytes) == 1)) (ltb (len_of bytes) (header_len (htyp_of bytes))) _ _ n (rw long at e)

-- and the only one of fewer
pub few_short : (bytes : List ℕ) → length bytes < 4 → front_fault bytes ≡ Some (Short 4)
few_short bytes l = let few : ltb (length bytes) 4 ≡ true = lt-ltb _ _ l in rw few refl
