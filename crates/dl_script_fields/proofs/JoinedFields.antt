-- Fields that are parted by blanks are read as those fields.
use Rattle.std.proofs.Common.{◌≡◌, ℕ, zero, suc, ◌+◌, ◌≤◌, Bool, true, false, not, ◌||◌, eqb, List, [], ◌∷◌, ◌++◌, length, take, drop, Option, Some, None, refl, sym, ap, ◌∙◌, subst, inl, inr, arith, length-append}
use Rattle.std.specs.Prelude.{option_map, unwrap_or}
use Rattle.std.specs.List.{list_all, list_any, position, position_or_len}
use Rattle.std.specs.Option.{option_map_or}
use Rattle.std.proofs.Math.Seq.{take-append_seam, drop-append_seam}
use Rattle.std.proofs.lemmas.Bool.{cases_Bool, eqb-true, ne_eqb, and_parts}
use Rattle.dl_text.specs.Lines.{is_blank, without_blanks_before}
use Rattle.dl_script_fields.specs.Fields.{worded, quoted_len, is_end, field_len, fields_upto, fields_of}
use Rattle.dl_script_fields.specs.Joined.{is_field, parted_by_blanks, is_plain}
use Rattle.dl_script_fields.proofs.Boundaries.{first_or_len}
use Rattle.dl_script_fields.proofs.Quotes.{or_parts}

not-true : (x : Bool) → not x ≡ true → x ≡ false
not-true true e = absurd cc
not-true false e = refl

-- ---- where a field ends

to_blank : (rest more : List ℕ) → list_any is_blank rest ≡ false → is_end more ≡ true → position_or_len is_blank (rest ++ more) ≡ length rest
to_blank [] [] none ends = refl
to_blank [] (b ∷ more) none ends = rw ends refl
to_blank (b ∷ rest) more none ends =
    let parts = or_parts (is_blank b) (list_any is_blank rest) none in
    rw (parts.0, to_blank rest more parts.1 ends) (omega arith)

behind : (f : ℕ → ℕ) (o : Option ℕ) (n : ℕ) → option_map f o ≡ Some n → (m : ℕ) × (o ≡ Some m) × (f m ≡ n)
behind f None n e = absurd cc
behind f (Some m) n e = let is : f m ≡ n = cc in (m, refl, is)

goes_on : (escaped : Bool) (text more : List ℕ) (n : ℕ) → quoted_len escaped text ≡ Some n → quoted_len escaped (text ++ more) ≡ Some n
goes_on escaped [] more n e = absurd cc
goes_on true (b ∷ text) more n e = elim (cases_Bool (eqb b 34 || eqb b 92)) [
  | inr may_not ↦ let none = rw may_not at e in absurd cc
  | inl may ↦
      let some = behind (λ m. 1 + m) (quoted_len false text) n (rw may at e) in
      rw (may, goes_on false text more some.0 some.1) (ap Some some.2)
]
goes_on false (b ∷ text) more n e = elim (cases_Bool (eqb b 34)) [
  | inl quote ↦ rw quote (rw quote at e)
  | inr other ↦
      let some = behind (λ m. 1 + m) (quoted_len (eqb b 92) text) n (rw other at e) in
      rw (other, goes_on (eqb b 92) text more some.0 some.1) (ap Some some.2)
]

closing : (text : List ℕ) (o : Option ℕ) → quoted_len false text ≡ o → option_map_or (λ n. eqb n (length text)) o false ≡ true → quoted_len false text ≡ Some (length text)
closing text None is e = absurd cc
closing text (Some n) is e = is ∙ ap Some (eqb-true n (length text) e)

pub len_of : (field more : List ℕ) → is_field field ≡ true → is_end more ≡ true → field_len (field ++ more) ≡ Some (length field)
unfolding field_len
len_of [] more is ends = absurd cc
len_of (b ∷ rest) more is ends = elim (cases_Bool (eqb b 34)) [
  | inl quote ↦
      let whole = closing rest (quoted_len false rest) refl (rw quote at is) in
      rw (quote, goes_on false rest more (length rest) whole, drop-append_seam rest more, ends) (ap Some (omega arith))
  | inr other ↦
      let parts = and_parts (not (is_blank b)) (not (list_any is_blank rest)) (rw other at is) in
      rw (other, first_or_len is_blank (rest ++ more), to_blank rest more (not-true (list_any is_blank rest) parts.1) ends) (ap Some (omega arith))
]

-- ---- where a field begins

is_no_blank : (b : ℕ) (rest : List ℕ) → is_field (b ∷ rest) ≡ true → is_blank b ≡ false
is_no_blank b rest is = elim (cases_Bool (eqb b 34)) [
  | inl quote ↦ subst (λ c. is_blank c ≡ false) (sym (eqb-true b 34 quote)) refl
  | inr other ↦ not-true (is_blank b) (and_parts (not (is_blank b)) (not (list_any is_blank rest)) (rw other at is)).0
]

behind_blank : (field more : List ℕ) → is_field field ≡ true → without_blanks_before (32 ∷ (field ++ more)) ≡ field ++ more
behind_blank [] more is = absurd cc
behind_blank (b ∷ rest) more is =
    rw (is_no_blank b rest is) refl

-- ---- all fields

pub ends_behind : (fields : List (List ℕ)) → is_end (parted_by_blanks fields) ≡ true
ends_behind [] = refl
ends_behind (field ∷ fields) = refl

some_bytes : (field more : List ℕ) → is_field field ≡ true → eqb (length (field ++ more)) 0 ≡ false
some_bytes [] more is = absurd cc
some_bytes (b ∷ rest) more is = ne_eqb (length ((b ∷ rest) ++ more)) 0 (λ e. omega arith)

one_first : (k : ℕ) (field more : List ℕ) → is_field field ≡ true → is_end more ≡ true → fields_upto (suc k) (32 ∷ (field ++ more)) ≡ option_map (λ fields. field ∷ fields) (fields_upto k more)
unfolding fields_upto
one_first k field more is ends =
    rw (behind_blank field more is, some_bytes field more is, len_of field more is ends, take-append_seam field more, drop-append_seam field more) refl

each : (fields : List (List ℕ)) (k : ℕ) → list_all is_field fields ≡ true → length fields ≤ k → fields_upto k (parted_by_blanks fields) ≡ Some fields
unfolding fields_upto
each [] zero are within = refl
each [] (suc k) are within = refl
each (field ∷ fields) zero are within = absurd (omega arith)
each (field ∷ fields) (suc k) are within =
    let parts = and_parts (is_field field) (list_all is_field fields) are in
    one_first k field (parted_by_blanks fields) parts.0 (ends_behind fields) ∙ ap (option_map (λ more. field ∷ more)) (each fields k parts.1 (omega arith))

few : (fields : List (List ℕ)) → length fields ≤ length (parted_by_blanks fields)
few [] = omega arith
few (field ∷ fields) = let rest = few fields in simp length-append (omega (arith, few fields))

pub parted : (fields : List (List ℕ)) → list_all is_field fields ≡ true → fields_of (parted_by_blanks fields) ≡ Some fields
parted fields are = each fields (length (parted_by_blanks fields)) are (few fields)

-- ---- a word before fields

no_indent : (b : ℕ) (rest : List ℕ) → is_blank b ≡ false → without_blanks_before (b ∷ rest) ≡ b ∷ rest
no_indent b rest letter = rw letter refl

word_len : (word more : List ℕ) → list_any is_blank word ≡ false → is_end more ≡ true → unwrap_or (position is_blank (word ++ more)) (length (word ++ more)) ≡ length word
word_len word more none ends = first_or_len is_blank (word ++ more) ∙ to_blank word more none ends

parts_of : (text : List ℕ) (end : ℕ) (word more : List ℕ) → text ≡ word ++ more → end ≡ length word → ◌≡◌ {A = List ℕ × List ℕ} (take end text, drop end text) (word, more)
parts_of text end word more is len = rw (is, len, take-append_seam word more, drop-append_seam word more) refl

pub word_first : (word more : List ℕ) → is_plain word ≡ true → is_end more ≡ true → worded (word ++ more) ≡ (word, more)
word_first [] more is ends = absurd cc
word_first (b ∷ rest) more is ends =
    let none : list_any is_blank (b ∷ rest) ≡ false = not-true (list_any is_blank (b ∷ rest)) (and_parts (not (eqb (length (b ∷ rest)) 0)) (not (list_any is_blank (b ∷ rest))) is).1 in
    let letter = (or_parts (is_blank b) (list_any is_blank rest) none).0 in
    rw (no_indent b (rest ++ more) letter) (parts_of ((b ∷ rest) ++ more) _ (b ∷ rest) more refl (word_len (b ∷ rest) more none ends))
