-- Texts in quotes as fields of a line.
use Rattle.std.proofs.Common.{◌≡◌, ℕ, zero, suc, ◌<◌, Bool, true, false, List, [], ◌∷◌, ◌++◌, length, get_or, refl, sym, ap, ◌∙◌, subst, lit<, inl, inr, arith}
use Rattle.std.specs.Prelude.{encode_utf8, is_some}
use Rattle.std.specs.Char.{IsScalar}
use Rattle.std.specs.List.{list_any}
use Rattle.std.specs.Str.{IsUtf8, encode_utf8_all, all_scalars}
use Rattle.std.proofs.lemmas.Bool.{and_parts, or_parts, or_from, cases_Bool, ne_eqb, cases_eq}
use Rattle.std.proofs.lemmas.Str.{IsUtf8-append, IsUtf8-encode, IsUtf8-from_is_utf8, IsUtf8-from_ascii, IsUtf8-nil, encode_ascii}
use Rattle.dl_script_fields.specs.Argument.{is_escapable}
use Rattle.dl_script_fields.specs.Spelling.{escaped}
use Rattle.dl_script_fields.specs.Spells.{IsText, quoted}
use Rattle.dl_script_fields.proofs.Closed.{closed}
use Rattle.dl_script_fields.proofs.Letters.{is_feed, is_whole, whole_behind, IsGood}
use Rattle.dl_script_fields.proofs.Quotes.{not_inside}
use Rattle.dl_script_fields.proofs.Spellings.{text_says}

-- ---- escapes

escaped-append : (xs ys : List ℕ) → escaped (xs ++ ys) ≡ escaped xs ++ escaped ys
escaped-append [] ys = refl
escaped-append (b ∷ xs) ys = elim (cases_Bool (is_escapable b)) [
  | inl may ↦ rw may (ap (λ t. 92 ∷ b ∷ t) (escaped-append xs ys))
  | inr may_not ↦ rw may_not (ap (λ t. b ∷ t) (escaped-append xs ys))
]

nothing_escaped : (bytes : List ℕ) → ((k : ℕ) → k < length bytes → is_escapable (get_or bytes k 0) ≡ false) → escaped bytes ≡ bytes
nothing_escaped [] none = refl
nothing_escaped (b ∷ bytes) none =
    rw (none 0 (omega arith)) (ap (λ t. b ∷ t) (nothing_escaped bytes (λ k lt. none (suc k) (omega arith))))

-- a test that neither a quote nor a backslash passes
pub none_escaped : (p : ℕ → Bool) (xs : List ℕ) → p 92 ≡ false → list_any p xs ≡ false → list_any p (escaped xs) ≡ false
none_escaped p [] backslash none = refl
none_escaped p (b ∷ xs) backslash none =
    let parts = or_parts (p b) (list_any p xs) none in
    let rest = none_escaped p xs backslash parts.1 in
    elim (cases_Bool (is_escapable b)) [
      | inl may ↦ rw may (or_from _ _ backslash (or_from _ _ parts.0 rest))
      | inr may_not ↦ rw may_not (or_from _ _ parts.0 rest)
    ]

-- ---- escapes in UTF-8

pub one_byte : (b : ℕ) → b < 128 → IsUtf8 (b ∷ [])
one_byte b low = IsUtf8-from_ascii (b ∷ []) (at b low)
  where
    at : (b : ℕ) → b < 128 → (i : ℕ) → get_or (b ∷ []) i 0 < 128
    at b low zero = low
    at b low (suc i) = omega arith

two_bytes : (b c : ℕ) → b < 128 → c < 128 → IsUtf8 (b ∷ c ∷ [])
two_bytes b c low also = IsUtf8-append (b ∷ []) (c ∷ []) (one_byte b low) (one_byte c also)

char_escaped : (c : ℕ) → IsScalar c → IsUtf8 (escaped (encode_utf8 c))
char_escaped c is = elim (cases_eq c 34) [
  | inl quote ↦ subst (λ d. IsUtf8 (escaped (encode_utf8 d))) (sym quote) (subst (λ bytes. IsUtf8 (escaped bytes)) (sym (encode_ascii 34 (lit< tt))) (two_bytes 92 34 (lit< tt) (lit< tt)))
  | inr no_quote ↦ elim (cases_eq c 92) [
    | inl backslash ↦ subst (λ d. IsUtf8 (escaped (encode_utf8 d))) (sym backslash) (subst (λ bytes. IsUtf8 (escaped bytes)) (sym (encode_ascii 92 (lit< tt))) (two_bytes 92 92 (lit< tt) (lit< tt)))
    | inr plain ↦ subst IsUtf8 (sym (nothing_escaped (encode_utf8 c)
        (λ k lt. or_from _ _ (ne_eqb _ 34 (not_inside c 34 (lit< tt) no_quote k lt)) (ne_eqb _ 92 (not_inside c 92 (lit< tt) plain k lt)))))
        (IsUtf8-encode c is)
  ]
]

chars_escaped : (cs : List ℕ) → all_scalars cs ≡ true → IsUtf8 (escaped (encode_utf8_all cs))
chars_escaped [] are = IsUtf8-nil
chars_escaped (c ∷ cs) are =
    let parts = and_parts _ _ are in
    subst IsUtf8 (sym (escaped-append (encode_utf8 c) (encode_utf8_all cs))) (IsUtf8-append _ _ (char_escaped c parts.0) (chars_escaped cs parts.1))

text_escaped : (text : List ℕ) → IsUtf8 text → IsUtf8 (escaped text)
text_escaped text is = subst (λ t. IsUtf8 (escaped t)) is.1.1 (chars_escaped is.0 is.1.0)

pub quoted_utf8 : (text : List ℕ) → IsText text → IsUtf8 (quoted text)
quoted_utf8 text is =
    IsUtf8-append (34 ∷ []) (escaped text ++ (34 ∷ [])) (one_byte 34 (lit< tt))
    (IsUtf8-append (escaped text) (34 ∷ []) (text_escaped text (IsUtf8-from_is_utf8 text is.utf8)) (one_byte 34 (lit< tt)))

-- ---- a text in quotes as a field

no_feed : (text : List ℕ) → IsText text → list_any is_feed (34 ∷ escaped text) ≡ false
no_feed text is = or_from _ _ refl (none_escaped is_feed text refl is.one_line)

pub quoted_whole : (text : List ℕ) → IsText text → is_whole (quoted text) ≡ true
quoted_whole text is = whole_behind (34 ∷ escaped text) 34 [] (no_feed text is) refl

pub quoted_good : (text : List ℕ) → IsText text → IsGood (quoted text)
quoted_good text is = record {
  is = sym (closed (escaped text ++ (34 ∷ []))) ∙ ap is_some (text_says text);
  utf8 = quoted_utf8 text is;
  whole = quoted_whole text is;
}
