-- The text of an id is read as that id, and holds neither a colon nor a line's end.
use Rattle.std.proofs.Common.{◌≡◌, ℕ, ◌+◌, ◌*◌, ◌/◌, ◌%◌, ◌<◌, ◌≤◌, length-append, Bool, true, false, ltb, eqb, not, List, [], ◌∷◌, ◌++◌, length, get_or, Some, refl, inl, inr, arith, ◌∙◌, ◌&&◌}
use Rattle.std.specs.List.{list_all}
use Rattle.std.proofs.lemmas.Bool.{cases_Bool, eqb-true}
use Rattle.std.proofs.lemmas.Grind.{common_steps}
use Rattle.std.proofs.lemmas.List.{append-nil}
use Rattle.std.proofs.lemmas.List.Folds.{list_all-append}
use Rattle.hex.specs.Hex.{upper_digits, hex_digit_value}
use Rattle.hex.proofs.HexLemmas.{IsDigits-upper_digits}
use Rattle.std.specs.Str.{bytes_eq}
use Rattle.dl_bytes.specs.Id.{is_visible, zero_id}
use Rattle.dl_text.specs.IdText.{stands_alone, byte_text, id_text, escaped_at, byte_at, id_of_text}

digits_back : (b : ℕ) → b < 256 → (rest : List ℕ) → escaped_at (get_or upper_digits (b / 16) 0 ∷ get_or upper_digits (b % 16) 0 ∷ rest) ≡ Some (b, rest)
digits_back b h rest =
    let high : b / 16 < 16 = omega arith in
    let low : b % 16 < 16 = omega arith in
    let whole : b / 16 * 16 + b % 16 ≡ b = omega arith in
    rw (IsDigits-upper_digits (b / 16) high, IsDigits-upper_digits (b % 16) low, whole) refl

no_escape : (b : ℕ) → stands_alone b ≡ true → eqb b 37 ≡ false
no_escape b e = grind (arith, common_steps)

no_colon : (b : ℕ) → stands_alone b ≡ true → (is_visible b && not (eqb b 58)) ≡ true
no_colon b e = grind (arith, common_steps)

-- the text of a byte is read as the byte
pub byte_back : (b : ℕ) → b < 256 → (rest : List ℕ) → byte_at (byte_text b ++ rest) ≡ Some (b, rest)
unfolding byte_at
byte_back b h rest = elim (cases_Bool (stands_alone b)) [
  | inl alone ↦ rw (alone, no_escape b alone, no_colon b alone) refl
  | inr other ↦ rw other (digits_back b h rest)
]

-- and at its end a text is read as zeros
byte_end : byte_at [] ≡ Some (0, [])
unfolding byte_at
byte_end = refl

module _ (a b c d : ℕ) (ha : a < 256) (hb : b < 256) (hc : c < 256) (hd : d < 256) where
  read_four : id_of_text (byte_text a ++ (byte_text b ++ (byte_text c ++ (byte_text d ++ [])))) ≡ Some (a ∷ b ∷ c ∷ d ∷ [])
  unfolding id_of_text
  read_four = rw (byte_back a ha _, byte_back b hb _, byte_back c hc _, byte_back d hd _) refl

  read_three : id_of_text (byte_text a ++ (byte_text b ++ (byte_text c ++ []))) ≡ Some (a ∷ b ∷ c ∷ 0 ∷ [])
  unfolding id_of_text
  read_three = rw (byte_back a ha _, byte_back b hb _, byte_back c hc _, byte_end) refl

  read_two : id_of_text (byte_text a ++ (byte_text b ++ [])) ≡ Some (a ∷ b ∷ 0 ∷ 0 ∷ [])
  unfolding id_of_text
  read_two = rw (byte_back a ha _, byte_back b hb _, byte_end, byte_end) refl

  read_one : id_of_text (byte_text a ++ []) ≡ Some (a ∷ 0 ∷ 0 ∷ 0 ∷ [])
  unfolding id_of_text
  read_one = rw (byte_back a ha _, byte_end, byte_end, byte_end) refl

  read_none : id_of_text [] ≡ Some (0 ∷ 0 ∷ 0 ∷ 0 ∷ [])
  unfolding id_of_text
  read_none = rw (byte_end, byte_end, byte_end, byte_end) refl

  zero_is : (n : ℕ) → eqb n 0 ≡ true → n ≡ 0
  zero_is n e = eqb-true n 0 e

  pub four : id_of_text (id_text (a ∷ b ∷ c ∷ d ∷ [])) ≡ Some (a ∷ b ∷ c ∷ d ∷ [])
  four = elim (cases_Bool (eqb d 0)) [
    | inr d_stands ↦ rw d_stands read_four
    | inl d_zero ↦ elim (cases_Bool (eqb c 0)) [
      | inr c_stands ↦ rw (d_zero, c_stands) (rw (zero_is d d_zero) read_three)
      | inl c_zero ↦ elim (cases_Bool (eqb b 0)) [
        | inr b_stands ↦ rw (d_zero, c_zero, b_stands) (rw (zero_is d d_zero, zero_is c c_zero) read_two)
        | inl b_zero ↦ elim (cases_Bool (eqb a 0)) [
          | inr a_stands ↦ rw (d_zero, c_zero, b_zero, a_stands) (rw (zero_is d d_zero, zero_is c c_zero, zero_is b b_zero) read_one)
          | inl a_zero ↦ rw (d_zero, c_zero, b_zero, a_zero) (rw (zero_is d d_zero, zero_is c c_zero, zero_is b b_zero, zero_is a a_zero) read_none)
        ]
      ]
    ]
  ]

-- ---- what the text of an id is made of

-- a byte that parts no fields and ends no line: a visible one other than a colon
abbrev pub is_plain : ℕ → Bool
is_plain b = is_visible b && not (eqb b 58)

plain_alone : (b : ℕ) → stands_alone b ≡ true → is_plain b ≡ true
plain_alone b e = grind (arith, common_steps)

plain_digit : (c n : ℕ) → hex_digit_value c ≡ Some n → is_plain c ≡ true
plain_digit c n e = grind (arith, common_steps)

-- the text of a byte has one to three plain bytes
pub record IsShort (text : List ℕ) (most : ℕ) : Type 0 where
  pub plain : list_all is_plain text ≡ true
  pub some : 0 < length text
  pub most_is : length text ≤ most

byte_short : (b : ℕ) → b < 256 → IsShort (byte_text b) 3
byte_short b h = elim (cases_Bool (stands_alone b)) [
  | inl alone ↦ rw alone (record { plain = rw (plain_alone b alone) refl; some = omega arith; most_is = omega arith })
  | inr other ↦
      let high = plain_digit (get_or upper_digits (b / 16) 0) (b / 16) (IsDigits-upper_digits (b / 16) (omega arith)) in
      let low = plain_digit (get_or upper_digits (b % 16) 0) (b % 16) (IsDigits-upper_digits (b % 16) (omega arith)) in
      rw other (record { plain = rw (high, low) refl; some = omega arith; most_is = omega arith })
]

both_short : (xs ys : List ℕ) (m n : ℕ) → IsShort xs m → IsShort ys n → IsShort (xs ++ ys) (m + n)
both_short xs ys m n x y = record {
  plain = list_all-append is_plain xs ys ∙ (rw (x.plain, y.plain) refl);
  some = omega (arith, length-append xs ys, x.some);
  most_is = omega (arith, length-append xs ys, x.most_is, y.most_is);
}

wider : (xs : List ℕ) (m n : ℕ) → m ≤ n → IsShort xs m → IsShort xs n
wider xs m n within x = record { plain = x.plain; some = x.some; most_is = omega (arith, x.most_is) }

last_short : (b : ℕ) → b < 256 → IsShort (byte_text b ++ []) 3
last_short b h = rw append-nil (byte_short b h)

-- the text of an id that isn't zero
module _ (a b c d : ℕ) (ha : a < 256) (hb : b < 256) (hc : c < 256) (hd : d < 256) where
  four_short : bytes_eq (a ∷ b ∷ c ∷ d ∷ []) zero_id ≡ false → IsShort (id_text (a ∷ b ∷ c ∷ d ∷ [])) 12
  four_short other = elim (cases_Bool (eqb d 0)) [
    | inr d_stands ↦ rw d_stands (both_short _ _ 3 9 (byte_short a ha) (both_short _ _ 3 6 (byte_short b hb) (both_short _ _ 3 3 (byte_short c hc) (last_short d hd))))
    | inl d_zero ↦ elim (cases_Bool (eqb c 0)) [
      | inr c_stands ↦ rw (d_zero, c_stands) (wider _ 9 12 (omega arith) (both_short _ _ 3 6 (byte_short a ha) (both_short _ _ 3 3 (byte_short b hb) (last_short c hc))))
      | inl c_zero ↦ elim (cases_Bool (eqb b 0)) [
        | inr b_stands ↦ rw (d_zero, c_zero, b_stands) (wider _ 6 12 (omega arith) (both_short _ _ 3 3 (byte_short a ha) (last_short b hb)))
        | inl b_zero ↦ elim (cases_Bool (eqb a 0)) [
          | inr a_stands ↦ rw (d_zero, c_zero, b_zero, a_stands) (wider _ 3 12 (omega arith) (last_short a ha))
          | inl a_zero ↦ let same : bytes_eq (a ∷ b ∷ c ∷ d ∷ []) zero_id ≡ true = rw (a_zero, b_zero, c_zero, d_zero) refl in absurd cc
        ]
      ]
    ]
  ]

-- what reading the text of an id that isn't zero rests on
pub record IsReadable (id : List ℕ) : Type 0 where
  pub back : id_of_text (id_text id) ≡ Some id
  pub short : IsShort (id_text id) 12

bytes_small : (b : ℕ) (t : Bool) → (ltb b 256 && t) ≡ true → (b < 256) × (t ≡ true)
bytes_small b t e = grind (arith, common_steps)

-- an id of four bytes that aren't all zero
pub readable : (id : List ℕ) → length id ≡ 4 → list_all (λ b. ltb b 256) id ≡ true → bytes_eq id zero_id ≡ false → IsReadable id
readable [] len small other = absurd (omega arith)
readable (a ∷ []) len small other = absurd (omega arith)
readable (a ∷ b ∷ []) len small other = absurd (omega arith)
readable (a ∷ b ∷ c ∷ []) len small other = absurd (omega arith)
readable (a ∷ b ∷ c ∷ d ∷ []) len small other =
    let ha = bytes_small a _ small in
    let hb = bytes_small b _ ha.1 in
    let hc = bytes_small c _ hb.1 in
    let hd = bytes_small d _ hc.1 in
    record { back = four a b c d ha.0 hb.0 hc.0 hd.0; short = four_short a b c d ha.0 hb.0 hc.0 hd.0 other }
readable (a ∷ b ∷ c ∷ d ∷ e ∷ more) len small other = absurd (omega arith)
