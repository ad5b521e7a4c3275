-- Names of trace files: which number is in one, that no two numbers have one name, and that they are text.
use Rattle.std.proofs.Common.{◌≡◌, ℕ, ◌+◌, ◌*◌, ◌/◌, ◌%◌, ◌<◌, ◌≤◌, [], ◌∷◌, Option, Some, None, refl, arith}
use Rattle.dl_model.specs.TraceFiles.{number_limit, six_digits}

-- a letter with no value is no digit of a number
pub no_digit : (letter : ℕ) (r : Option ℕ) → ((value : ℕ) → value < 10 → letter ≡ 48 + value → r ≡ Some value) → r ≡ None → (n : ℕ) → letter ≡ 48 + n % 10 → ⊥
no_digit letter r only none n is = let some : r ≡ Some (n % 10) = only (n % 10) (omega arith) is in absurd cc

abbrev pub value : ℕ → ℕ → ℕ → ℕ → ℕ → ℕ → ℕ
value a b c d e f = (a * 100 + b * 10 + c) * 1000 + (d * 100 + e * 10 + f)

pub digits_of_value : (a b c d e f : ℕ) → a < 10 → b < 10 → c < 10 → d < 10 → e < 10 → f < 10 →
    six_digits (value a b c d e f) ≡ (48 + a) ∷ (48 + b) ∷ (48 + c) ∷ (48 + d) ∷ (48 + e) ∷ (48 + f) ∷ []
digits_of_value a b c d e f ha hb hc hd he hf =
    let n = value a b c d e f in
    let da : n / 100000 % 10 ≡ a = omega arith in
    let db : n / 10000 % 10 ≡ b = omega arith in
    let dc : n / 1000 % 10 ≡ c = omega arith in
    let dd : n / 100 % 10 ≡ d = omega arith in
    let de : n / 10 % 10 ≡ e = omega arith in
    let df : n / 1 % 10 ≡ f = omega arith in
    rw (da, db, dc, dd, de, df) refl

-- a number has no more than its six digits
pub value_of_digits : (n : ℕ) → n ≤ number_limit → value (n / 100000 % 10) (n / 10000 % 10) (n / 1000 % 10) (n / 100 % 10) (n / 10 % 10) (n / 1 % 10) ≡ n
value_of_digits n small = omega arith
