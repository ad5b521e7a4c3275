-- A line that ends with a line feed is the first line of a text.
use Rattle.std.proofs.Common.{◌≡◌, ℕ, zero, suc, ◌+◌, ◌-◌, ◌<◌, Bool, true, ltb, ◌&&◌, List, [], ◌∷◌, ◌++◌, length, length-append, append_assoc, take, get_or, map, refl, sym, ap, ◌∙◌, inl, inr, arith}
use Rattle.std.specs.List.{list_all}
use Rattle.std.proofs.Math.Seq.{take-append_seam, get_or-append_seam}
use Rattle.std.proofs.lemmas.Bool.{eq-eqb, ne_eqb, lt-ltb, cases_Bool, ltb-true}
use Rattle.std.proofs.lemmas.Grind.{common_steps}
use Rattle.std.proofs.lemmas.List.{get_or_append_left}
use Rattle.bstr.specs.Text as bstr
use Rattle.bstr.proofs.lemmas.LineLemmas.{lines-append, lines-one}
use Rattle.dl_text.specs.Lines.{lines_of}

-- a byte that ends no line: neither a line feed nor a carriage return
abbrev pub is_inside : ℕ → Bool
is_inside b = ltb 13 b

first_inside : (b : ℕ) (t : Bool) → (ltb 13 b && t) ≡ true → (13 < b) × (t ≡ true)
first_inside b t e = grind (arith, common_steps)

inside_at : (xs : List ℕ) → list_all is_inside xs ≡ true → (k : ℕ) → k < length xs → 13 < get_or xs k 0
inside_at [] e k h = absurd (omega arith)
inside_at (x ∷ xs) e zero h = (first_inside x (list_all is_inside xs) e).0
inside_at (x ∷ xs) e (suc k) h = inside_at xs (first_inside x (list_all is_inside xs) e).1 k (omega arith)

module _ (xs : List ℕ) (inside : list_all is_inside xs ≡ true) where
  whole_length : length (xs ++ 10 ∷ []) ≡ length xs + 1
  whole_length = length-append xs (10 ∷ [])

  last_feed : get_or (xs ++ 10 ∷ []) (length (xs ++ 10 ∷ []) - 1) 0 ≡ 10
  last_feed =
      let at : length (xs ++ 10 ∷ []) - 1 ≡ length xs = omega (arith, whole_length) in
      ap (λ k. get_or (xs ++ 10 ∷ []) k 0) at ∙ get_or-append_seam xs 10 [] 0

  one_line : bstr.lines_of (xs ++ 10 ∷ []) ≡ (xs ++ 10 ∷ []) ∷ []
  one_line = lines-one (xs ++ 10 ∷ []) (omega (arith, whole_length))
      (λ k h is. let before : k < length xs = omega (arith, whole_length) in
      let there = get_or_append_left xs (10 ∷ []) 0 k before in
      let above = inside_at xs inside k before in omega arith)

  no_return : bstr.no_cr xs ≡ xs
  no_return = elim (cases_Bool (ltb 0 (length xs))) [
    | inr none ↦ rw none refl
    | inl some ↦
        let last : length xs - 1 < length xs = omega (arith, ltb-true 0 (length xs) some) in
        let above = inside_at xs inside (length xs - 1) last in
        rw (some, ne_eqb (get_or xs (length xs - 1) 0) 13 (λ is. omega arith)) refl
  ]

  stripped : bstr.without_terminator (xs ++ 10 ∷ []) ≡ xs
  stripped =
      let some : 0 < length (xs ++ 10 ∷ []) = omega (arith, whole_length) in
      let at : length (xs ++ 10 ∷ []) - 1 ≡ length xs = omega (arith, whole_length) in
      let front : take (length (xs ++ 10 ∷ []) - 1) (xs ++ 10 ∷ []) ≡ xs = ap (λ k. take k (xs ++ 10 ∷ [])) at ∙ take-append_seam xs (10 ∷ []) in
      rw (lt-ltb 0 (length (xs ++ 10 ∷ [])) some, eq-eqb (get_or (xs ++ 10 ∷ []) (length (xs ++ 10 ∷ []) - 1) 0) 10 last_feed) (ap bstr.no_cr front ∙ no_return)

  pub first_line : (ys : List ℕ) → lines_of (xs ++ 10 ∷ ys) ≡ xs ∷ lines_of ys
  first_line ys =
      let parts : xs ++ 10 ∷ ys ≡ (xs ++ 10 ∷ []) ++ ys = sym (append_assoc xs (10 ∷ []) ys) in
      let both = lines-append (length (xs ++ 10 ∷ [])) (xs ++ 10 ∷ []) ys (omega arith) (inr last_feed) in
      ap lines_of parts ∙ ap (map bstr.without_terminator) (both ∙ ap (λ l. l ++ bstr.lines_of ys) one_line) ∙ ap (λ l. l ∷ lines_of ys) stripped
