-- The lines of a text of lines that each end with a line feed.
use Rattle.std.proofs.Common.{◌≡◌, ◌≢◌, ℕ, zero, suc, ◌+◌, ◌-◌, ◌<◌, true, false, not, ltb, eqb, List, [], ◌∷◌, ◌++◌, length, length-append, take, get_or, map, refl, sym, ap, ◌∙◌, inl, inr, arith}
use Rattle.std.specs.List.{list_any, AllByRecursion}
use Rattle.std.proofs.Math.Seq.{take-append_seam, get_or-append_seam}
use Rattle.std.proofs.lemmas.Bool.{and_parts, or_parts, not-true, eq-eqb, ne_eqb, eqb-false, lt-ltb, ltb-true, cases_Bool}
use Rattle.std.proofs.lemmas.List.{get_or_append_left}
use Rattle.bstr.specs.Text as bstr
use Rattle.bstr.proofs.lemmas.LineLemmas.{lines-append, lines-one, lines-nil}
use Rattle.dl_text.specs.Lines.{lines_of}
use Rattle.dl_script_fields.proofs.Letters.{is_feed, is_whole, whole_holds_none}
use Rattle.dl_script.specs.Spelled.{text_of}

no_feed_at : (xs : List ℕ) → list_any is_feed xs ≡ false → (k : ℕ) → k < length xs → get_or xs k 0 ≢ 10
no_feed_at [] none k lt = absurd (omega arith)
no_feed_at (x ∷ xs) none zero lt = eqb-false x 10 (or_parts (is_feed x) (list_any is_feed xs) none).0
no_feed_at (x ∷ xs) none (suc k) lt = no_feed_at xs (or_parts (is_feed x) (list_any is_feed xs) none).1 k (omega arith)

-- the last byte is no carriage return
no_return_last : (xs : List ℕ) → is_whole xs ≡ true → 0 < length xs → get_or xs (length xs - 1) 0 ≢ 13
no_return_last [] whole some = absurd (omega arith)
no_return_last (b ∷ []) whole some = eqb-false b 13 (not-true (eqb b 13) (and_parts (not (is_feed b)) (not (eqb b 13)) whole).1)
no_return_last (b ∷ c ∷ rest) whole some =
    let at : length (b ∷ c ∷ rest) - 1 ≡ suc (length (c ∷ rest) - 1) = omega arith in
    rw at (no_return_last (c ∷ rest) (and_parts (not (is_feed b)) (is_whole (c ∷ rest)) whole).1 (omega arith))

module _ (xs : List ℕ) (whole : is_whole xs ≡ true) where
  ended_length : length (xs ++ 10 ∷ []) ≡ length xs + 1
  ended_length = length-append xs (10 ∷ [])

  last_feed : get_or (xs ++ 10 ∷ []) (length (xs ++ 10 ∷ []) - 1) 0 ≡ 10
  last_feed =
      let at : length (xs ++ 10 ∷ []) - 1 ≡ length xs = omega (arith, ended_length) in
      ap (λ k. get_or (xs ++ 10 ∷ []) k 0) at ∙ get_or-append_seam xs 10 [] 0

  one_line : bstr.lines_of (xs ++ 10 ∷ []) ≡ (xs ++ 10 ∷ []) ∷ []
  one_line = lines-one (xs ++ 10 ∷ []) (omega (arith, ended_length))
      (λ k h is. let before : k < length xs = omega (arith, ended_length) in
      no_feed_at xs (whole_holds_none xs whole) k before (sym (get_or_append_left xs (10 ∷ []) 0 k before) ∙ is))

  no_return : bstr.no_cr xs ≡ xs
  no_return = elim (cases_Bool (ltb 0 (length xs))) [
    | inr none ↦ rw none refl
    | inl some ↦ rw (some, ne_eqb (get_or xs (length xs - 1) 0) 13 (no_return_last xs whole (ltb-true 0 (length xs) some))) refl
  ]

  stripped : bstr.without_terminator (xs ++ 10 ∷ []) ≡ xs
  stripped =
      let some : 0 < length (xs ++ 10 ∷ []) = omega (arith, ended_length) in
      let at : length (xs ++ 10 ∷ []) - 1 ≡ length xs = omega (arith, ended_length) in
      let front : take (length (xs ++ 10 ∷ []) - 1) (xs ++ 10 ∷ []) ≡ xs = ap (λ k. take k (xs ++ 10 ∷ [])) at ∙ take-append_seam xs (10 ∷ []) in
      rw (lt-ltb 0 (length (xs ++ 10 ∷ [])) some, eq-eqb (get_or (xs ++ 10 ∷ []) (length (xs ++ 10 ∷ []) - 1) 0) 10 last_feed) (ap bstr.no_cr front ∙ no_return)

  first_line : (ys : List ℕ) → lines_of ((xs ++ 10 ∷ []) ++ ys) ≡ xs ∷ lines_of ys
  first_line ys =
      let both = lines-append (length (xs ++ 10 ∷ [])) (xs ++ 10 ∷ []) ys (omega arith) (inr last_feed) in
      ap (map bstr.without_terminator) (both ∙ ap (λ l. l ++ bstr.lines_of ys) one_line) ∙ ap (λ l. l ∷ lines_of ys) stripped

pub lines_are : (lines : List (List ℕ)) → AllByRecursion (λ line. is_whole line ≡ true) lines → lines_of (text_of lines) ≡ lines
lines_are [] are = ap (map bstr.without_terminator) lines-nil
lines_are (line ∷ lines) are = first_line line are.0 (text_of lines) ∙ ap (λ rest. line ∷ rest) (lines_are lines are.1)
