-- Numbers in decimal digits: what std's `parse` gives, and numbers of fewer bits.
use lib.Pow.{pow_pos}
use mir.Val.{hbits}
use Rattle.std.proofs.Common.{◌≡◌, ◌≢◌, ℕ, zero, suc, ◌-◌, ◌*◌, ◌^◌, ◌<◌, ◌≤◌, ℤ, pos, Bool, true, false, ltb, leb, cond, List, length, drop, get_or, Option, Some, None, Result, Ok, Err, refl, sym, inl, inr, arith, subst, ap}
use Rattle.std.specs.Prelude.{neg_ℤ, FitsSigned, ◌&&◌, [], ◌∷◌}
use Rattle.std.specs.Char.{is_ascii_digit}
use Rattle.std.specs.List.{list_all}
use Rattle.std.specs.Result.{OkIff, result_ok}
use Rattle.std.specs.Str.{all_ascii_digits}
use Rattle.std.specs.Str.Parse.{digits_value, ParsesUnsigned, ParsesSigned, starts_with_minus}
use Rattle.std.proofs.lemmas.Bool.{lt-ltb, le-ltb, le-leb, lt-leb, cases_Bool, ltb-true, leb-true, eqb-true, eqb-false}
use Rattle.std.proofs.lemmas.Str.Parse.{parse_plain, parse_signed_plain, parse_signed_minus}
use Rattle.dl_bytes.specs.Number.{◌>>=◌}
use Rattle.std.specs.Int as int
use Rattle.std.specs.Int.{w128}
use Rattle.dl_text.proofs.Digits.{own}
use Rattle.dl_args.specs.Width.{byte_count, int_type}
use Rattle.dl_args.specs.declared.width.Width.{Width}
use Rattle.dl_args.specs.declared.width.Width.TheVariants.{W8, W16, W32, W64, W128}
use Rattle.dl_script_fields.specs.Value.{digits_field, unsigned_field, signed_field}

-- a number where a test holds of it
abbrev held : (ℕ → Bool) → {A : Type 0} → (ℕ → A) → ℕ → Option A
held test make n = cond (test n) (Some (make n)) None

-- a result of reading digits, and what the digits say
read : {A E : Type 0} (test : ℕ → Bool) (P : ℕ → Type 0) (make : ℕ → A) (digits : List ℕ) (r : Result A E)
    → ((n : ℕ) → P n → test n ≡ true) → ((n : ℕ) → test n ≡ true → P n)
    → OkIff r ((all_ascii_digits digits ≡ true) × (0 < length digits) × P (digits_value 10 digits)) (make (digits_value 10 digits))
    → result_ok r ≡ (digits_field digits >>= held test make)
read test P make digits (Ok x) to from h =
    rw (h.1, lt-ltb 0 (length digits) h.0.1, h.0.0, to _ h.0.2) refl
read test P make digits (Err e) to from h =
    elim (cases_Bool (ltb 0 (length digits))) [
      | inr short ↦ rw short refl
      | inl long ↦ elim (cases_Bool (all_ascii_digits digits)) [
        | inr other ↦ rw (long, other) refl
        | inl all ↦ elim (cases_Bool (test (digits_value 10 digits))) [
          | inr fails ↦ rw (long, all, fails) refl
          | inl holds ↦ absurd (h (all, ltb-true 0 (length digits) long, from _ holds))
        ]
      ]
    ]

pub unsigned_read : (bits : ℕ) {E : Type 0} (field : List ℕ) (r : Result ℕ E) → ParsesUnsigned bits 10 field r → get_or field 0 0 ≢ 43 → result_ok r ≡ unsigned_field bits field
unsigned_read bits field r h no_plus =
    read (λ n. ltb n (2 ^ bits)) (λ n. n < 2 ^ bits) (λ n. n) field r (λ n. lt-ltb n (2 ^ bits)) (λ n. ltb-true n (2 ^ bits)) (parse_plain own bits field r h no_plus)

pub signed_read : {E : Type 0} (field : List ℕ) (r : Result ℤ E) → ParsesSigned w128 10 field r → get_or field 0 0 ≢ 43 → result_ok r ≡ signed_field 128 field
signed_read field r h no_plus = elim (cases_Bool (starts_with_minus field)) [
  | inl minus ↦ rw minus
      (read (λ n. leb n (2 ^ 127)) (λ n. n ≤ 2 ^ 127) (λ n. neg_ℤ (pos n)) (drop 1 field) r (λ n. le-leb n (2 ^ 127)) (λ n. leb-true n (2 ^ 127))
      (parse_signed_minus own w128 field r h (eqb-true _ _ minus)))
  | inr plain ↦ rw plain
      (read (λ n. ltb n (2 ^ 127)) (λ n. n < 2 ^ 127) pos field r (λ n. lt-ltb n (2 ^ 127)) (λ n. ltb-true n (2 ^ 127))
      (parse_signed_plain own w128 field r h no_plus (eqb-false _ _ plain)))
]

-- a signed number of 128 bits that fits a width, or doesn't, is one of that width, or isn't

pub half_bits : (width : Width) → 2 ^ hbits (int_type width) ≡ 2 ^ (8 * byte_count width - 1)
half_bits W8 = refl
half_bits W16 = refl
half_bits W32 = refl
half_bits W64 = refl
half_bits W128 = refl

negative_fits : (w : int.Width) (n : ℕ) → n ≤ 2 ^ hbits w → FitsSigned w (neg_ℤ (pos n))
negative_fits w zero h = record { sfits = pow_pos (hbits w) }
negative_fits w (suc n) h = record { sfits = h }

pub fits_negative : (w : int.Width) (n : ℕ) → FitsSigned w (neg_ℤ (pos n)) → n ≤ 2 ^ hbits w
fits_negative w zero h = omega arith
fits_negative w (suc n) h = h.sfits

above : (m n : ℕ) → ¬ (m ≤ n) → n < m
above m n h = grind arith

over : (m n : ℕ) → ¬ (m < n) → n ≤ m
over m n h = grind arith

-- the number behind what was read
told_by : {A : Type 0} (test : ℕ → Bool) (make : ℕ → A) (o : Option ℕ) (z : A) → (o >>= held test make) ≡ Some z → (n : ℕ) × (o ≡ Some n) × (make n ≡ z) × (test n ≡ true)
told_by test make None z e = absurd cc
told_by test make (Some n) z e = elim (cases_Bool (test n)) [
  | inr fails ↦ let none = rw fails at e in absurd cc
  | inl holds ↦ let some = rw holds at e in let is : make n ≡ z = cc in (n, refl, is, holds)
]

-- a test of other numbers gives the same where it holds, and nothing where it doesn't
module _ (big small : ℕ → Bool) (make : ℕ → ℤ) (o : Option ℕ) (z : ℤ) (told : (o >>= held big make) ≡ Some z) where
  kept : ((n : ℕ) → make n ≡ z → small n ≡ true) → Some z ≡ (o >>= held small make)
  kept fits = let by = told_by big make o z told in rw (by.1, fits by.0 by.2, by.2) refl

  lost : ((n : ℕ) → make n ≡ z → small n ≡ false) → None ≡ (o >>= held small make)
  lost fails = let by = told_by big make o z told in rw (by.1, fails by.0 by.2) refl

-- the test of a sign at a width
abbrev within : Width → (ℕ → ℕ → Bool) → ℕ → Bool
within width test n = test n (2 ^ (8 * byte_count width - 1))

-- a number of a width fits it
pub signed_fits : (width : Width) (field : List ℕ) (z : ℤ) → signed_field (8 * byte_count width) field ≡ Some z → FitsSigned (int_type width) z
signed_fits width field z told = elim (cases_Bool (starts_with_minus field)) [
  | inl minus ↦ let by = told_by (within width leb) (λ n. neg_ℤ (pos n)) (digits_field (drop 1 field)) z (rw minus at told) in
      subst (FitsSigned (int_type width)) by.2 (negative_fits (int_type width) by.0 (subst (λ m. by.0 ≤ m) (sym (half_bits width)) (leb-true by.0 _ by.3)))
  | inr plain ↦ let by = told_by (within width ltb) pos (digits_field field) z (rw plain at told) in
      subst (FitsSigned (int_type width)) by.2 (record { sfits = subst (λ m. by.0 < m) (sym (half_bits width)) (ltb-true by.0 _ by.3) })
]

pub all_bits : (width : Width) → 256 ^ byte_count width ≡ 2 ^ (8 * byte_count width)
all_bits W8 = refl
all_bits W16 = refl
all_bits W32 = refl
all_bits W64 = refl
all_bits W128 = refl

pub unsigned_fits : (width : Width) (field : List ℕ) (n : ℕ) → unsigned_field (8 * byte_count width) field ≡ Some n → n < 256 ^ byte_count width
unsigned_fits width field n told =
    let by = told_by (λ m. ltb m (2 ^ (8 * byte_count width))) (λ m. m) (digits_field field) n told in
    subst (λ m. m < 256 ^ byte_count width) by.2 (subst (λ m. by.0 < m) (sym (all_bits width)) (ltb-true by.0 _ by.3))

module _ (width : Width) (field : List ℕ) (z : ℤ) (told : signed_field 128 field ≡ Some z) where
  pub fitting : FitsSigned (int_type width) z → Some z ≡ signed_field (8 * byte_count width) field
  fitting fits = elim (cases_Bool (starts_with_minus field)) [
    | inl minus ↦ rw minus
        (kept (within W128 leb) (within width leb) (λ n. neg_ℤ (pos n)) (digits_field (drop 1 field)) z (rw minus at told)
        (λ n is. le-leb n _ (subst (λ m. n ≤ m) (half_bits width) (fits_negative (int_type width) n (subst (FitsSigned (int_type width)) (sym is) fits)))))
    | inr plain ↦ rw plain
        (kept (within W128 ltb) (within width ltb) pos (digits_field field) z (rw plain at told)
        (λ n is. lt-ltb n _ (subst (λ m. n < m) (half_bits width) (subst (FitsSigned (int_type width)) (sym is) fits).sfits)))
  ]

  pub unfitting : ¬ FitsSigned (int_type width) z → None ≡ signed_field (8 * byte_count width) field
  unfitting no_fit = elim (cases_Bool (starts_with_minus field)) [
    | inl minus ↦ rw minus
        (lost (within W128 leb) (within width leb) (λ n. neg_ℤ (pos n)) (digits_field (drop 1 field)) z (rw minus at told)
        (λ n is. lt-leb n _ (above n _ (λ below. no_fit (subst (FitsSigned (int_type width)) is (negative_fits (int_type width) n (subst (λ m. n ≤ m) (sym (half_bits width)) below)))))))
    | inr plain ↦ rw plain
        (lost (within W128 ltb) (within width ltb) pos (digits_field field) z (rw plain at told)
        (λ n is. le-ltb n _ (over n _ (λ below. no_fit (subst (FitsSigned (int_type width)) is (record { sfits = subst (λ m. n < m) (sym (half_bits width)) below }))))))
  ]

pub all_are : (field : List ℕ) → list_all is_ascii_digit field ≡ all_ascii_digits field
all_are [] = refl
all_are (b ∷ field) = ap (λ all. is_ascii_digit b && all) (all_are field)
