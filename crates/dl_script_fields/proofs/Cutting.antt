-- Fields one after the other, as the loop over a line takes them.
use Rattle.std.proofs.Common.{◌≡◌, ℕ, zero, suc, ◌-◌, ◌<◌, true, false, eqb, List, [], ◌∷◌, ◌++◌, length, take, drop, Option, Some, None, refl, sym, ap, ◌∙◌, append_assoc, arith}
use Rattle.std.specs.Option.{option_map}
use Rattle.std.proofs.lemmas.List.{append-nil}
use Rattle.dl_text.specs.Lines.{without_blanks_before}
use Rattle.dl_script_fields.specs.Fields.{field_len, fields_upto}

-- the fields before, and those that are still to come
abbrev pub with_front : List (List ℕ) → Option (List (List ℕ)) → Option (List (List ℕ))
with_front front more = option_map (λ fields. front ++ fields) more

none_left : (k : ℕ) (text : List ℕ) → eqb (length (without_blanks_before text)) 0 ≡ true → fields_upto k text ≡ Some []
unfolding fields_upto
none_left zero text h = rw h refl
none_left (suc k) text h = rw h refl

broken : (k : ℕ) (text : List ℕ) → eqb (length (without_blanks_before text)) 0 ≡ false → field_len (without_blanks_before text) ≡ None → fields_upto k text ≡ None
unfolding fields_upto
broken zero text h none = rw h refl
broken (suc k) text h none = rw (h, none) refl

one_more : (k : ℕ) (text rest : List ℕ) (n : ℕ) → 0 < k → rest ≡ without_blanks_before text → eqb (length rest) 0 ≡ false → field_len rest ≡ Some n
    → fields_upto k text ≡ option_map (λ fields. take n rest ∷ fields) (fields_upto (k - 1) (drop n rest))
unfolding fields_upto
one_more zero text rest n lt is h some = absurd (omega arith)
one_more (suc k) text rest n lt is h some =
    let e : suc k - 1 ≡ k = omega arith in
    rw (← is, h, some, e) refl

regroup : (front : List (List ℕ)) (field : List ℕ) (more : Option (List (List ℕ))) → with_front front (option_map (λ fields. field ∷ fields) more) ≡ with_front (front ++ field ∷ []) more
regroup front field None = refl
regroup front field (Some fields) = ap Some (sym (append_assoc front (field ∷ []) fields))

-- rest is the text without the blanks at its front
module _ (front : List (List ℕ)) (k : ℕ) (text rest : List ℕ) (total : Option (List (List ℕ))) (is : rest ≡ without_blanks_before text) (so_far : with_front front (fields_upto k text) ≡ total) where
  pub ends : eqb (length rest) 0 ≡ true → Some front ≡ total
  ends h = sym (ap (with_front front) (none_left k text (sym (ap (λ t. eqb (length t) 0) is) ∙ h)) ∙ ap Some (append-nil front)) ∙ so_far

  pub breaks : eqb (length rest) 0 ≡ false → field_len rest ≡ None → None ≡ total
  breaks h none = sym (ap (with_front front) (broken k text (sym (ap (λ t. eqb (length t) 0) is) ∙ h) (sym (ap field_len is) ∙ none))) ∙ so_far

  pub goes_on : (n : ℕ) → 0 < k → eqb (length rest) 0 ≡ false → field_len rest ≡ Some n
      → with_front (front ++ take n rest ∷ []) (fields_upto (k - 1) (drop n rest)) ≡ total
  goes_on n lt h some =
      sym (ap (with_front front) (one_more k text rest n lt is h some) ∙ regroup front (take n rest) (fields_upto (k - 1) (drop n rest))) ∙ so_far
