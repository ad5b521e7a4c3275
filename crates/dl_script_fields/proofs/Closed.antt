-- A text in quotes is read where its closing quote is its last byte.
use Rattle.std.proofs.Common.{◌≡◌, ℕ, suc, ◌+◌, Bool, false, eqb, List, [], ◌∷◌, length, Option, Some, None, refl, ◌∙◌, inl, inr, arith}
use Rattle.std.specs.Prelude.{option_map, is_some}
use Rattle.std.specs.Option.{option_map_or}
use Rattle.std.proofs.lemmas.Bool.{cases_Bool, eq-eqb, eqb-true, eqb-false, ne_eqb}
use Rattle.dl_script_fields.specs.Argument.{is_escapable, unescaped}
use Rattle.dl_script_fields.specs.Fields.{quoted_len}

-- the closing quote is the last of so many bytes
abbrev closes_at : ℕ → Option ℕ → Bool
closes_at len o = option_map_or (λ n. eqb n len) o false

one_more : (len : ℕ) (o : Option ℕ) → closes_at len o ≡ closes_at (suc len) (option_map (λ n. 1 + n) o)
one_more len None = refl
one_more len (Some n) = elim (cases_Bool (eqb n len)) [
  | inl same ↦ rw (same, eq-eqb (1 + n) (suc len) (let is = eqb-true n len same in omega arith)) refl
  | inr other ↦ rw (other, ne_eqb (1 + n) (suc len) (λ e. eqb-false n len other (omega arith))) refl
]

made_of : {A B : Type 0} (f : A → B) (o : Option A) → is_some (option_map f o) ≡ is_some o
made_of f None = refl
made_of f (Some x) = refl

pub closed : (text : List ℕ) → is_some (unescaped text) ≡ closes_at (length text) (quoted_len false text)
closed [] = refl
closed (b ∷ []) = elim (cases_Bool (eqb b 34)) [
  | inl quote ↦ rw quote refl
  | inr other ↦ rw other refl
]
closed (b ∷ c ∷ rest) = elim (cases_Bool (eqb b 34)) [
  | inl quote ↦ rw (quote, ne_eqb 1 (suc (suc (length rest))) (λ e. omega arith)) refl
  | inr other ↦ elim (cases_Bool (eqb b 92)) [
    | inr plain ↦ rw (other, plain) (made_of (λ text. b ∷ text) (unescaped (c ∷ rest)) ∙ closed (c ∷ rest) ∙ one_more (length (c ∷ rest)) (quoted_len false (c ∷ rest)))
    | inl backslash ↦ elim (cases_Bool (is_escapable c)) [
      | inr may_not ↦ rw (other, backslash, may_not) refl
      | inl may ↦ rw (other, backslash, may) (made_of (λ text. c ∷ text) (unescaped rest) ∙ closed rest ∙ one_more (length rest) (quoted_len false rest) ∙ one_more (suc (length rest)) (option_map (λ n. 1 + n) (quoted_len false rest)))
    ]
  ]
]
