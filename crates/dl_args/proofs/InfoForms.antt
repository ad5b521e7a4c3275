-- A type info says a kind exactly where its bits are those of the kind.
use Rattle.std.proofs.Common.{◌≡◌, ℕ, ◌+◌, ◌*◌, ◌/◌, ◌%◌, ◌^◌, ◌<◌, Bool, true, false, cond, eqb, leb, lit<, Option, Some, None, refl, sym, subst, ◌∙◌, arith, inl, inr}
use Rattle.std.specs.Prelude.{bit_and, option_map}
use Rattle.std.specs.Int.{from_bool}
use Rattle.std.proofs.lemmas.Bool.{eqb-true, eqb-false, leb-true, le-leb}
use Rattle.std.proofs.lemmas.Option.{cond_some}
use Rattle.std.proofs.lemmas.Bool.Decides.{nat_tests}
use Rattle.std.proofs.lemmas.Nat.{and_mask, and_block, shr_split, mod_below, pow_pos}
use Rattle.std.proofs.lemmas.Nat.Bits.{and_high, and_pow}
use Rattle.dl_lemmas.proofs.Options.{mapped_some, same_thing}
use Rattle.dl_lemmas.proofs.Bools.{bool_cases, chosen}
use Rattle.dl_args.specs.declared.type_info.Kind.{Kind}
use Rattle.dl_args.specs.declared.type_info.Kind.TheVariants as kind
use Rattle.dl_args.specs.declared.width.Width.{Width}
use Rattle.dl_args.specs.declared.width.Width.TheVariants.{W8, W16, W32, W64, W128}
use Rattle.dl_args.specs.Width.{tyle_of, width_of}
use Rattle.dl_args.specs.TypeInfo.{tyle, coding, has_name, kind_bits, text_kind, kind_of}
use Rattle.dl_args.specs.ReadForm.{kind_bit, Allows, Says}

-- a mask, above and below a place
and_parts : (k n m : ℕ) → bit_and n m ≡ bit_and (n / 2 ^ k) (m / 2 ^ k) * 2 ^ k + bit_and (n % 2 ^ k) (m % 2 ^ k)
and_parts k n m =
    let whole : bit_and n m ≡ bit_and (n / 2 ^ k * 2 ^ k + n % 2 ^ k) (m / 2 ^ k * 2 ^ k + m % 2 ^ k) = rw (shr_split n k, shr_split m k) refl in
    whole ∙ and_block k (n / 2 ^ k) (m / 2 ^ k) (n % 2 ^ k) (m % 2 ^ k) (mod_below n (2 ^ k) (pow_pos k)) (mod_below m (2 ^ k) (pow_pos k))

-- the bits of a type info, as parts of it
pub tyle_is : (info : ℕ) → tyle info ≡ info % 16
tyle_is info = and_mask info 4

pub coding_is : (info : ℕ) → coding info ≡ info / 0x8000 % 8 * 0x8000
coding_is info = and_high info 3 15

pub name_bit_is : (info : ℕ) → bit_and info 0x800 ≡ info / 0x800 % 2 * 0x800
name_bit_is info = and_pow info 11

kind_bits_are : (info : ℕ) → info < 2 ^ 32 → kind_bits info ≡ info / 16 % 128 * 16 + info / 0x1000 % 8 * 0x1000 + info / 0x4_0000 * 0x4_0000
kind_bits_are info small =
    let a : bit_and info 0xfffc_77f0 ≡ bit_and (info / 2 ^ 18) 0x3fff * 2 ^ 18 + bit_and (info % 2 ^ 18) 0x77f0 = and_parts 18 info 0xfffc_77f0 in
    let b : bit_and (info % 2 ^ 18) 0x77f0 ≡ bit_and (info % 2 ^ 18 / 2 ^ 12) 7 * 2 ^ 12 + bit_and (info % 2 ^ 18 % 2 ^ 12) 0x7f0 = and_parts 12 (info % 2 ^ 18) 0x77f0 in
    let high : bit_and (info / 2 ^ 18) 0x3fff ≡ info / 2 ^ 18 % 2 ^ 14 = and_mask (info / 2 ^ 18) 14 in
    let middle : bit_and (info % 2 ^ 18 / 2 ^ 12) 7 ≡ info % 2 ^ 18 / 2 ^ 12 % 2 ^ 3 = and_mask (info % 2 ^ 18 / 2 ^ 12) 3 in
    let low : bit_and (info % 2 ^ 18 % 2 ^ 12) 0x7f0 ≡ (info % 2 ^ 18 % 2 ^ 12) / 2 ^ 4 % 2 ^ 7 * 2 ^ 4 = and_high (info % 2 ^ 18 % 2 ^ 12) 7 4 in
    omega (arith, a, b, high, middle, low)

-- what a number with these parts has as bits
record HasBits (info t k v s : ℕ) : Type 0 where
  tyle : tyle info ≡ t
  kind : kind_bits info ≡ k
  name : bit_and info 0x800 ≡ v * 0x800
  coding : coding info ≡ s * 0x8000

bits_of_parts : (kind : Kind) (info t v s : ℕ) → t < 16 → v < 2 → s < 8 → info ≡ t + kind_bit kind + 0x800 * v + 0x8000 * s → HasBits info t (kind_bit kind) v s
bits_of_parts kind.Bool info t v s t_fits v_fits s_fits e = record { tyle = omega (arith, tyle_is info); kind = omega (arith, kind_bits_are info (omega arith)); name = omega (arith, name_bit_is info); coding = omega (arith, coding_is info) }
bits_of_parts (kind.Sint width) info t v s t_fits v_fits s_fits e = record { tyle = omega (arith, tyle_is info); kind = omega (arith, kind_bits_are info (omega arith)); name = omega (arith, name_bit_is info); coding = omega (arith, coding_is info) }
bits_of_parts (kind.Uint width) info t v s t_fits v_fits s_fits e = record { tyle = omega (arith, tyle_is info); kind = omega (arith, kind_bits_are info (omega arith)); name = omega (arith, name_bit_is info); coding = omega (arith, coding_is info) }
bits_of_parts (kind.Text utf8) info t v s t_fits v_fits s_fits e = record { tyle = omega (arith, tyle_is info); kind = omega (arith, kind_bits_are info (omega arith)); name = omega (arith, name_bit_is info); coding = omega (arith, coding_is info) }
bits_of_parts kind.Raw info t v s t_fits v_fits s_fits e = record { tyle = omega (arith, tyle_is info); kind = omega (arith, kind_bits_are info (omega arith)); name = omega (arith, name_bit_is info); coding = omega (arith, coding_is info) }

-- a number with the bits of a kind is the sum of its parts
parts_of_bits : (info k : ℕ) → info < 2 ^ 32 → kind_bits info ≡ k → info ≡ info % 16 + k + 0x800 * (info / 0x800 % 2) + 0x8000 * (info / 0x8000 % 8)
parts_of_bits info k small e = omega (arith, kind_bits_are info small)

-- ---- widths and names

width_is : (n : ℕ) (width : Width) → width_of n ≡ Some width → n ≡ tyle_of width
width_is n W8 e = grind (arith, nat_tests)
width_is n W16 e = grind (arith, nat_tests)
width_is n W32 e = grind (arith, nat_tests)
width_is n W64 e = grind (arith, nat_tests)
width_is n W128 e = grind (arith, nat_tests)

width_again : (width : Width) → width_of (tyle_of width) ≡ Some width
width_again W8 = refl
width_again W16 = refl
width_again W32 = refl
width_again W64 = refl
width_again W128 = refl

pub tyle_small : (width : Width) → tyle_of width < 16
tyle_small W8 = lit< tt
tyle_small W16 = lit< tt
tyle_small W32 = lit< tt
tyle_small W64 = lit< tt
tyle_small W128 = lit< tt

byte_small : (b : Bool) → from_bool b < 2
byte_small false = lit< tt
byte_small true = lit< tt

name_byte : (info : ℕ) → from_bool (has_name info) ≡ info / 0x800 % 2
name_byte info =
    elim (bool_cases (eqb (bit_and info 0x800) 0)) [
      | inl h ↦ rw h (omega (arith, name_bit_is info, eqb-true _ _ h))
      | inr h ↦ rw h (omega (arith, name_bit_is info, eqb-false _ _ h))
    ]

name_again : (info : ℕ) (named : Bool) → bit_and info 0x800 ≡ from_bool named * 0x800 → has_name info ≡ named
name_again info false e = rw e refl
name_again info true e = rw e refl

-- ---- kinds

says : (kind : Kind) (info : ℕ) → info < 2 ^ 32 → kind_bits info ≡ kind_bit kind → Allows kind (info % 16) (info / 0x8000 % 8) → Says kind (has_name info) info
says kind info small bits allowed = record {
  tyle = info % 16;
  scod = info / 0x8000 % 8;
  allowed = allowed;
  bits = rw name_byte (parts_of_bits info (kind_bit kind) small bits);
}

-- the tests of `kind_of`, from the last
abbrev if_raw : ℕ → Option Kind
if_raw info = cond (eqb (kind_bits info) 0x400) (Some kind.Raw) None

abbrev if_text : ℕ → Option Kind
if_text info = cond (eqb (kind_bits info) 0x200) (text_kind (coding info)) (if_raw info)

abbrev if_uint : ℕ → Option Kind
if_uint info = cond (eqb (kind_bits info) 0x40) (option_map kind.Uint (width_of (tyle info))) (if_text info)

abbrev if_sint : ℕ → Option Kind
if_sint info = cond (eqb (kind_bits info) 0x20) (option_map kind.Sint (width_of (tyle info))) (if_uint info)

raw_says : (info : ℕ) (k : Kind) → info < 2 ^ 32 → if_raw info ≡ Some k → Says k (has_name info) info
raw_says info k small e =
    let g = cond_some (eqb (kind_bits info) 0x400) kind.Raw k e in
    subst (λ (x : Kind). Says x (has_name info) info) g.1 (says kind.Raw info small (eqb-true _ _ g.0) (omega arith, omega arith))

text_says : (info : ℕ) (k : Kind) → info < 2 ^ 32 → if_text info ≡ Some k → Says k (has_name info) info
text_says info k small e =
    elim (chosen (eqb (kind_bits info) 0x200) (text_kind (coding info)) (if_raw info) (Some k) e) [
      | inl (b, h) ↦
          elim (chosen (eqb (coding info) 0) (Some (kind.Text false)) (cond (eqb (coding info) 0x8000) (Some (kind.Text true)) None) (Some k) h) [
            | inl (ascii, h2) ↦ subst (λ (x : Kind). Says x (has_name info) info) (same_thing (kind.Text false) k h2) (says (kind.Text false) info small (eqb-true _ _ b) (omega arith, omega (arith, coding_is info, eqb-true _ _ ascii)))
            | inr (other, h2) ↦
                let g = cond_some (eqb (coding info) 0x8000) (kind.Text true) k h2 in
                subst (λ (x : Kind). Says x (has_name info) info) g.1 (says (kind.Text true) info small (eqb-true _ _ b) (omega arith, omega (arith, coding_is info, eqb-true _ _ g.0)))
          ]
      | inr (b, h) ↦ raw_says info k small h
    ]

uint_says : (info : ℕ) (k : Kind) → info < 2 ^ 32 → if_uint info ≡ Some k → Says k (has_name info) info
uint_says info k small e =
    elim (chosen (eqb (kind_bits info) 0x40) (option_map kind.Uint (width_of (tyle info))) (if_text info) (Some k) e) [
      | inl (b, h) ↦
          let w = mapped_some kind.Uint (width_of (tyle info)) k h in
          subst (λ (x : Kind). Says x (has_name info) info) w.2 (says (kind.Uint w.0) info small (eqb-true _ _ b) (sym (tyle_is info) ∙ width_is (tyle info) w.0 w.1, omega arith))
      | inr (b, h) ↦ text_says info k small h
    ]

sint_says : (info : ℕ) (k : Kind) → info < 2 ^ 32 → if_sint info ≡ Some k → Says k (has_name info) info
sint_says info k small e =
    elim (chosen (eqb (kind_bits info) 0x20) (option_map kind.Sint (width_of (tyle info))) (if_uint info) (Some k) e) [
      | inl (b, h) ↦
          let w = mapped_some kind.Sint (width_of (tyle info)) k h in
          subst (λ (x : Kind). Says x (has_name info) info) w.2 (says (kind.Sint w.0) info small (eqb-true _ _ b) (sym (tyle_is info) ∙ width_is (tyle info) w.0 w.1, omega arith))
      | inr (b, h) ↦ uint_says info k small h
    ]

-- what is read as a kind is a type info of that kind
pub kind_says : (info : ℕ) (k : Kind) → info < 2 ^ 32 → kind_of info ≡ Some k → Says k (has_name info) info
unfolding kind_of
kind_says info k small e =
    elim (chosen (eqb (kind_bits info) 0x10) (cond (leb (tyle info) 1) (Some kind.Bool) None) (if_sint info) (Some k) e) [
      | inl (b, h) ↦
          let g = cond_some (leb (tyle info) 1) kind.Bool k h in
          subst (λ (x : Kind). Says x (has_name info) info) g.1 (says kind.Bool info small (eqb-true _ _ b) (omega (arith, tyle_is info, leb-true _ _ g.0), omega arith))
      | inr (b, h) ↦ sint_says info k small h
    ]

-- a type info of a kind is read as that kind, with or without a name
pub kind_again : (kind : Kind) (named : Bool) (info : ℕ) → Says kind named info → (kind_of info ≡ Some kind) × (has_name info ≡ named)
unfolding kind_of
kind_again kind.Bool named info form =
    let bits = bits_of_parts kind.Bool info form.tyle (from_bool named) form.scod (omega (arith, form.allowed.0)) (byte_small named) form.allowed.1 form.bits in
    (rw (bits.kind, bits.tyle, le-leb _ _ form.allowed.0) refl, name_again info named bits.name)
kind_again (kind.Sint width) named info form =
    let bits = bits_of_parts (kind.Sint width) info form.tyle (from_bool named) form.scod (omega (arith, form.allowed.0, tyle_small width)) (byte_small named) form.allowed.1 form.bits in
    (rw (bits.kind, bits.tyle, form.allowed.0, width_again width) refl, name_again info named bits.name)
kind_again (kind.Uint width) named info form =
    let bits = bits_of_parts (kind.Uint width) info form.tyle (from_bool named) form.scod (omega (arith, form.allowed.0, tyle_small width)) (byte_small named) form.allowed.1 form.bits in
    (rw (bits.kind, bits.tyle, form.allowed.0, width_again width) refl, name_again info named bits.name)
kind_again (kind.Text false) named info form =
    let bits = bits_of_parts (kind.Text false) info form.tyle (from_bool named) form.scod form.allowed.0 (byte_small named) (omega (arith, form.allowed.1)) form.bits in
    (rw (bits.kind, bits.coding, form.allowed.1) refl, name_again info named bits.name)
kind_again (kind.Text true) named info form =
    let bits = bits_of_parts (kind.Text true) info form.tyle (from_bool named) form.scod form.allowed.0 (byte_small named) (omega (arith, form.allowed.1)) form.bits in
    (rw (bits.kind, bits.coding, form.allowed.1) refl, name_again info named bits.name)
kind_again kind.Raw named info form =
    let bits = bits_of_parts kind.Raw info form.tyle (from_bool named) form.scod form.allowed.0 (byte_small named) form.allowed.1 form.bits in
    (rw bits.kind refl, name_again info named bits.name)
