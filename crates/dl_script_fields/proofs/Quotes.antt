-- A text in quotes, character by character.
use Rattle.std.proofs.Common.{◌≡◌, ◌≢◌, ℕ, suc, ◌<◌, Bool, true, false, ◌||◌, eqb, List, [], ◌∷◌, ◌++◌, length, get_or, Option, Some, None, refl, sym, ap, ◌∙◌, append_assoc, append-nil, lit<, inl, inr, arith}
use Rattle.std.specs.Prelude.{option_map, encode_utf8}
use Rattle.std.proofs.lemmas.Bool.{eqb-true, eqb-false, ne_eqb, or_cases}
use Rattle.std.proofs.lemmas.Str.{inside_one, encode_ascii, length-encode, len_utf8_bounds}
use Rattle.dl_script_fields.specs.Argument.{is_escapable, unescaped}

pub or_parts : (x y : Bool) → (x || y) ≡ false → (x ≡ false) × (y ≡ false)
or_parts false y e = (refl, e)
or_parts true y e = absurd cc

-- a byte that is no quote and no backslash says itself
pub one_byte : (b : ℕ) (rest : List ℕ) → b ≢ 34 → b ≢ 92 → unescaped (b ∷ rest) ≡ option_map (λ text. b ∷ text) (unescaped rest)
one_byte b [] no_quote no_backslash = rw (ne_eqb b 34 no_quote) refl
one_byte b (c ∷ rest) no_quote no_backslash = rw (ne_eqb b 34 no_quote, ne_eqb b 92 no_backslash) refl

-- so do several
grouped : (b : ℕ) (bytes : List ℕ) (o : Option (List ℕ)) → option_map (λ text. b ∷ text) (option_map (λ text. bytes ++ text) o) ≡ option_map (λ text. (b ∷ bytes) ++ text) o
grouped b bytes None = refl
grouped b bytes (Some text) = refl

alone : (o : Option (List ℕ)) → o ≡ option_map (λ text. [] ++ text) o
alone None = refl
alone (Some text) = refl

bytes_say : (bytes rest : List ℕ) → ((k : ℕ) → k < length bytes → get_or bytes k 0 ≢ 34) → ((k : ℕ) → k < length bytes → get_or bytes k 0 ≢ 92)
    → unescaped (bytes ++ rest) ≡ option_map (λ text. bytes ++ text) (unescaped rest)
bytes_say [] rest no_quote no_backslash = alone (unescaped rest)
bytes_say (b ∷ bytes) rest no_quote no_backslash =
    one_byte b (bytes ++ rest) (no_quote 0 (omega arith)) (no_backslash 0 (omega arith))
    ∙ ap (option_map (λ text. b ∷ text)) (bytes_say bytes rest (λ k lt. no_quote (suc k) (omega arith)) (λ k lt. no_backslash (suc k) (omega arith)))
    ∙ grouped b bytes (unescaped rest)

-- a letter is in the bytes of a character only where it is that character
pub not_inside : (c letter : ℕ) → letter < 128 → c ≢ letter → (k : ℕ) → k < length (encode_utf8 c) → get_or (encode_utf8 c) k 0 ≢ letter
not_inside c letter ascii other k lt e =
    other (inside_one c [] (encode_utf8 c) k (sym (append-nil (encode_utf8 c))) lt (omega (arith, e)) ∙ e)

char_says : (c : ℕ) (rest : List ℕ) → c ≢ 34 → c ≢ 92 → unescaped (encode_utf8 c ++ rest) ≡ option_map (λ text. encode_utf8 c ++ text) (unescaped rest)
char_says c rest no_quote no_backslash = bytes_say (encode_utf8 c) rest (not_inside c 34 (lit< tt) no_quote) (not_inside c 92 (lit< tt) no_backslash)

escapable_is_ascii : (c : ℕ) → is_escapable c ≡ true → c < 128
escapable_is_ascii c may = elim (or_cases (eqb c 34) (eqb c 92) may) [
  | inl e ↦ let is = eqb-true c 34 e in omega arith
  | inr e ↦ let is = eqb-true c 92 e in omega arith
]

-- what begins with such a character begins with its byte
refused : (bytes rest : List ℕ) → 0 < length bytes → is_escapable (get_or bytes 0 0) ≡ false → unescaped (92 ∷ bytes ++ rest) ≡ None
refused [] rest some may_not = absurd (omega arith)
refused (b ∷ bytes) rest some may_not = rw may_not refl

refuses : (c : ℕ) (rest : List ℕ) → is_escapable c ≡ false → unescaped (92 ∷ encode_utf8 c ++ rest) ≡ None
refuses c rest may_not =
    let some : 0 < length (encode_utf8 c) = omega (arith, length-encode c, len_utf8_bounds c) in
    let no_quote = not_inside c 34 (lit< tt) (eqb-false c 34 (or_parts (eqb c 34) (eqb c 92) may_not).0) 0 some in
    let no_backslash = not_inside c 92 (lit< tt) (eqb-false c 92 (or_parts (eqb c 34) (eqb c 92) may_not).1) 0 some in
    refused (encode_utf8 c) rest some (rw (ne_eqb _ 34 no_quote, ne_eqb _ 92 no_backslash) refl)

joined : (front bytes : List ℕ) (o : Option (List ℕ)) → option_map (λ text. front ++ text) (option_map (λ text. bytes ++ text) o) ≡ option_map (λ text. (front ++ bytes) ++ text) o
joined front bytes None = refl
joined front bytes (Some text) = ap Some (sym (append_assoc front bytes text))

-- front is what was read, and left is what is still to be read of a text that says `all`
module _ (front left : List ℕ) (all : Option (List ℕ)) (so_far : option_map (λ text. front ++ text) (unescaped left) ≡ all) where
  pub plain : (c : ℕ) (rest : List ℕ) → left ≡ encode_utf8 c ++ rest → c ≢ 34 → c ≢ 92 → option_map (λ text. (front ++ encode_utf8 c) ++ text) (unescaped rest) ≡ all
  plain c rest is no_quote no_backslash =
      sym (joined front (encode_utf8 c) (unescaped rest)) ∙ ap (option_map (λ text. front ++ text)) (sym (char_says c rest no_quote no_backslash) ∙ ap unescaped (sym is)) ∙ so_far

  -- behind a backslash: a quote or a backslash, or another character
  pub escape : (c : ℕ) (rest : List ℕ) → left ≡ 92 ∷ encode_utf8 c ++ rest → is_escapable c ≡ true → option_map (λ text. (front ++ encode_utf8 c) ++ text) (unescaped rest) ≡ all
  escape c rest is may =
      let bytes : encode_utf8 c ≡ c ∷ [] = encode_ascii c (escapable_is_ascii c may) in
      let says : unescaped (92 ∷ c ∷ rest) ≡ option_map (λ text. c ∷ text) (unescaped rest) = rw may refl in
      rw bytes (sym (joined front (c ∷ []) (unescaped rest)) ∙ ap (option_map (λ text. front ++ text)) (sym says ∙ ap unescaped (sym (is ∙ ap (λ b. 92 ∷ b ++ rest) bytes))) ∙ so_far)

  pub no_escape : (c : ℕ) (rest : List ℕ) → left ≡ 92 ∷ encode_utf8 c ++ rest → is_escapable c ≡ false → None ≡ all
  no_escape c rest is may_not =
      ap (option_map (λ text. front ++ text)) (sym (refuses c rest may_not) ∙ ap unescaped (sym is)) ∙ so_far
