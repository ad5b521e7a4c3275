-- What a script says of an argument is read as that argument.
use Rattle.std.proofs.Common.{◌≡◌, ◌≢◌, ℕ, suc, ◌+◌, ◌-◌, ◌*◌, ◌^◌, ◌<◌, ◌≤◌, ℤ, pos, negsuc, Bool, true, false, not, ◌||◌, eqb, List, [], ◌∷◌, ◌++◌, length, drop, get_or, Option, Some, None, Ok, refl, sym, ap, ◌∙◌, subst, inl, inr, lit≤, length-append, arith}
use Rattle.std.specs.Prelude.{codes, option_map, IfSome, FitsSigned}
use Rattle.std.specs.Char.{is_ascii_alphanumeric}
use Rattle.std.specs.Fmt.{decimal, signed_decimal}
use Rattle.std.specs.List.{list_all, position_or_len}
use Rattle.std.specs.Option.{option_map_or}
use Rattle.std.specs.Str.Parse.{starts_with_minus}
use Rattle.std.proofs.Math.Seq.{take-append_seam}
use Rattle.std.proofs.lemmas.Bool.{cases_Bool, lt-ltb, le-leb, eqb-true, eqb-false, ne_eqb, and_parts}
use Rattle.std.proofs.lemmas.Fmt.{decimal_is_IsNumeral_wide}
use Rattle.std.proofs.lemmas.Str.Parse.{digit_at}
use Rattle.hex.specs.Hex.{encode_upper, IsBytes, upper_digits}
use Rattle.hex.proofs.HexLemmas.{decode_of-encode_upper, length-encode_with}
use Rattle.dl_text.proofs.Digits.{own}
use Rattle.dl_args.specs.Argument.{IsValue}
use Rattle.dl_args.specs.Width.{byte_count, int_type}
use Rattle.dl_args.specs.declared.arg.Arg.{Arg}
use Rattle.dl_args.specs.declared.arg.Arg.TheVariants as arg
use Rattle.dl_args.specs.declared.width.Width.{Width}
use Rattle.dl_args.specs.declared.width.Width.TheVariants.{W8, W16, W32, W64, W128}
use Rattle.dl_script_fields.specs.Argument.{is_escapable, unescaped, kind_of, raw_of, value_by_kind, is_colon, parted, behind_quote, value_of, is_label, takes_unit, may_name, with_name, named_of, argument_of}
use Rattle.dl_script_fields.specs.Value.{digits_field, unsigned_field, signed_field}
use Rattle.dl_script_fields.specs.Spelling.{with_colon, bits_of, escaped, value_spelling, names_of, spelling, HasBytes, IsSayable}
use Rattle.dl_script_fields.specs.declared.argument.Kind.{Kind}
use Rattle.dl_script_fields.specs.declared.argument.Kind.TheVariants as kind
use Rattle.dl_script_fields.proofs.Numbers.{half_bits, all_bits, fits_negative}
use Rattle.dl_script_fields.proofs.Quotes.{one_byte, or_parts}

-- ---- what stands before a colon

abbrev has_no_colon : List ℕ → Bool
has_no_colon text = list_all (λ b. not (is_colon b)) text

first_colon : (front rest : List ℕ) → has_no_colon front ≡ true → position_or_len is_colon (with_colon front rest) ≡ length front
first_colon [] rest none = refl
first_colon (b ∷ front) rest none =
    let parts = and_parts (not (is_colon b)) (has_no_colon front) none in
    rw (parts.0, first_colon front rest parts.1) (omega arith)

behind_colon : (front rest : List ℕ) → drop (length front + 1) (with_colon front rest) ≡ rest
behind_colon [] rest = refl
behind_colon (b ∷ front) rest =
    let count : length (b ∷ front) + 1 ≡ suc (length front + 1) = omega arith in
    rw count (behind_colon front rest)

pub parts_at : (front rest : List ℕ) → has_no_colon front ≡ true → parted (with_colon front rest) ≡ Some (front, rest)
parts_at front rest none =
    let within : length front < length (with_colon front rest) = simp length-append (omega arith) in
    rw (first_colon front rest none, lt-ltb _ _ within, take-append_seam front (58 ∷ rest), behind_colon front rest) refl

-- the letters of a label are no colons
letter : (b : ℕ) → (is_ascii_alphanumeric b || eqb b 95) ≡ true → not (is_colon b) ≡ true
letter b may = elim (cases_Bool (eqb b 58)) [
  | inr other ↦ rw other refl
  | inl colon ↦ let at : (is_ascii_alphanumeric 58 || eqb 58 95) ≡ true = subst (λ c. (is_ascii_alphanumeric c || eqb c 95) ≡ true) (eqb-true b 58 colon) may in absurd cc
]

pub label : (text : List ℕ) → is_label text ≡ true → has_no_colon text ≡ true
label [] may = refl
label (b ∷ text) may =
    let parts = and_parts (is_ascii_alphanumeric b || eqb b 95) (is_label text) may in
    rw (letter b parts.0, label text parts.1) refl

-- ---- numbers

pub digits : (n : ℕ) → n < 10 ^ 64 → digits_field (decimal n) ≡ Some n
digits n small =
    let numeral = decimal_is_IsNumeral_wide n small in
    rw (lt-ltb 0 (length (decimal n)) numeral.0.0, own.from (decimal n) numeral.0.1, numeral.1) refl

no_minus : (n : ℕ) → n < 10 ^ 64 → starts_with_minus (decimal n) ≡ false
no_minus n small =
    let numeral = decimal_is_IsNumeral_wide n small in
    let first = digit_at (decimal n) 0 numeral.0.1 numeral.0.0 in
    ne_eqb (get_or (decimal n) 0 0) 45 (λ e. omega arith)

pub widest : (width : Width) → 2 ^ (8 * byte_count width) ≤ 2 ^ 128
widest W8 = lit≤ tt
widest W16 = lit≤ tt
widest W32 = lit≤ tt
widest W64 = lit≤ tt
widest W128 = lit≤ tt

pub half_widest : (width : Width) → 2 ^ (8 * byte_count width - 1) ≤ 2 ^ 127
half_widest W8 = lit≤ tt
half_widest W16 = lit≤ tt
half_widest W32 = lit≤ tt
half_widest W64 = lit≤ tt
half_widest W128 = lit≤ tt

unsigned : (width : Width) (n : ℕ) → n < 256 ^ byte_count width → unsigned_field (8 * byte_count width) (decimal n) ≡ Some n
unsigned width n fits =
    let below : n < 2 ^ (8 * byte_count width) = subst (λ m. n < m) (all_bits width) fits in
    let wide = widest width in
    rw (digits n (omega arith), lt-ltb n _ below) refl

signed : (width : Width) (z : ℤ) → FitsSigned (int_type width) z → signed_field (8 * byte_count width) (signed_decimal z) ≡ Some z
signed width (pos n) fits =
    let below : n < 2 ^ (8 * byte_count width - 1) = subst (λ m. n < m) (half_bits width) fits.sfits in
    let wide = half_widest width in
    let small : n < 10 ^ 64 = omega arith in
    rw (no_minus n small, digits n small, lt-ltb n _ below) refl
signed width (negsuc n) fits =
    let within : suc n ≤ 2 ^ (8 * byte_count width - 1) = subst (λ m. suc n ≤ m) (half_bits width) (fits_negative (int_type width) (suc n) fits) in
    let wide = half_widest width in
    rw (digits (suc n) (omega arith), le-leb (suc n) _ within) refl

-- ---- bytes and texts

bytes_say : (bytes : List ℕ) → 1 ≤ length bytes → IsBytes bytes → raw_of (encode_upper bytes) ≡ Some bytes
bytes_say bytes some are =
    let long : eqb (length (encode_upper bytes)) 0 ≡ false = ne_eqb _ 0 (λ e. omega (arith, length-encode_with upper_digits bytes)) in
    rw (long, decode_of-encode_upper bytes are) refl

pub text_says : (text : List ℕ) → unescaped (escaped text ++ (34 ∷ [])) ≡ Some text
text_says [] = refl
text_says (b ∷ text) = elim (cases_Bool (is_escapable b)) [
  | inl may ↦ rw (may, may, text_says text) refl
  | inr may_not ↦
      let parts = or_parts (eqb b 34) (eqb b 92) may_not in
      rw may_not (one_byte b (escaped text ++ (34 ∷ [])) (eqb-false b 34 parts.0) (eqb-false b 92 parts.1) ∙ ap (option_map (λ rest. b ∷ rest)) (text_says text))
]

-- ---- values and their names

-- the value alone, as `value_of` gives it
abbrev alone : Arg → Arg
alone (arg.Bool name truth) = arg.Bool None truth
alone (arg.Sint name unit width z) = arg.Sint None None width z
alone (arg.Uint name unit width n) = arg.Uint None None width n
alone (arg.Text name text utf8) = arg.Text None text true
alone (arg.Raw name bytes) = arg.Raw None bytes

-- a kind's word, and its value
by_word : (word text : List ℕ) (b : ℕ) (rest : List ℕ) (k : Kind) (a : Arg) → word ≡ b ∷ rest → b ≢ 34 → has_no_colon word ≡ true → kind_of word ≡ Some k → value_by_kind k text ≡ Ok a
    → value_of (with_colon word text) ≡ Ok a
by_word word text b rest k a is no_quote none kind_is value_is =
    let unquoted : behind_quote (with_colon word text) ≡ None = rw is (rw (ne_eqb b 34 no_quote) refl) in
    rw (unquoted, parts_at word text none, kind_is, value_is) refl

sint_word : (width : Width) → has_no_colon (codes "sint" ++ bits_of width) ≡ true
sint_word W8 = refl
sint_word W16 = refl
sint_word W32 = refl
sint_word W64 = refl
sint_word W128 = refl

uint_word : (width : Width) → has_no_colon (codes "uint" ++ bits_of width) ≡ true
uint_word W8 = refl
uint_word W16 = refl
uint_word W32 = refl
uint_word W64 = refl
uint_word W128 = refl

sint_kind : (width : Width) → kind_of (codes "sint" ++ bits_of width) ≡ Some (kind.Sint width)
sint_kind W8 = refl
sint_kind W16 = refl
sint_kind W32 = refl
sint_kind W64 = refl
sint_kind W128 = refl

uint_kind : (width : Width) → kind_of (codes "uint" ++ bits_of width) ≡ Some (kind.Uint width)
uint_kind W8 = refl
uint_kind W16 = refl
uint_kind W32 = refl
uint_kind W64 = refl
uint_kind W128 = refl

value_says : (a : Arg) → IsValue a → HasBytes a → value_of (value_spelling a) ≡ Ok (alone a)
value_says (arg.Bool name true) value bytes = refl
value_says (arg.Bool name false) value bytes = refl
value_says (arg.Sint name unit width z) value bytes =
    by_word (codes "sint" ++ bits_of width) (signed_decimal z) _ _ (kind.Sint width) _ refl (omega arith) (sint_word width) (sint_kind width) (rw (signed width z value.1) refl)
value_says (arg.Uint name unit width n) value bytes =
    by_word (codes "uint" ++ bits_of width) (decimal n) _ _ (kind.Uint width) _ refl (omega arith) (uint_word width) (uint_kind width) (rw (unsigned width n value.1) refl)
value_says (arg.Text name text utf8) value bytes = rw (text_says text) refl
value_says (arg.Raw name raw) value bytes = by_word (codes "raw") (encode_upper raw) _ _ kind.Raw _ refl (omega arith) refl refl (rw (bytes_say raw bytes.0 bytes.1) refl)

-- a value with the name and the unit that it had
names_are : (p q : List ℕ × List ℕ) → Some p ≡ Some q → (p.0 ≡ q.0) × (p.1 ≡ q.1)
names_are p q e =
    let pair : p ≡ q = cc in
    (ap (λ (r : List ℕ × List ℕ). r.0) pair, ap (λ (r : List ℕ × List ℕ). r.1) pair)

renamed : (a : Arg) (name unit : List ℕ) → IsValue a → names_of a ≡ Some (name, unit) → with_name name unit (alone a) ≡ a
renamed (arg.Bool None truth) name unit value names = absurd cc
renamed (arg.Bool (Some n) truth) name unit value names = let e = names_are (n, []) (name, unit) names in ap (λ m. arg.Bool (Some m) truth) (sym e.0)
renamed (arg.Sint (Some n) (Some u) width z) name unit value names = let e = names_are (n, u) (name, unit) names in rw (← e.1, ← e.0) refl
renamed (arg.Sint (Some n) None width z) name unit value names = absurd cc
renamed (arg.Sint None u width z) name unit value names = absurd cc
renamed (arg.Uint (Some n) (Some u) width x) name unit value names = let e = names_are (n, u) (name, unit) names in rw (← e.1, ← e.0) refl
renamed (arg.Uint (Some n) None width x) name unit value names = absurd cc
renamed (arg.Uint None u width x) name unit value names = absurd cc
renamed (arg.Text None text utf8) name unit value names = absurd cc
renamed (arg.Text (Some n) text utf8) name unit value names = let e = names_are (n, []) (name, unit) names in rw (← e.0, value) refl
renamed (arg.Raw None bytes) name unit value names = absurd cc
renamed (arg.Raw (Some n) bytes) name unit value names = let e = names_are (n, []) (name, unit) names in ap (λ m. arg.Raw (Some m) bytes) (sym e.0)

-- the unit that a value may have: none, or that of a number
empty_unit : (name unit value : List ℕ) → is_label name ≡ true → is_label unit ≡ true → [] ≡ unit → may_name name unit value ≡ true
empty_unit name [] value n u e = rw (n, u) refl
empty_unit name (b ∷ unit) value n u e = absurd cc

number_unit : (name unit value : List ℕ) → is_label name ≡ true → is_label unit ≡ true → takes_unit value ≡ true → may_name name unit value ≡ true
number_unit name unit value n u takes = elim (cases_Bool (eqb (length unit) 0)) [
  | inl none ↦ rw (n, u, none) refl
  | inr some ↦ rw (n, u, some, takes) refl
]

may_have : (a : Arg) (name unit : List ℕ) → names_of a ≡ Some (name, unit) → is_label name ≡ true → is_label unit ≡ true → may_name name unit (value_spelling a) ≡ true
may_have (arg.Bool None truth) name unit names n u = absurd cc
may_have (arg.Bool (Some m) truth) name unit names n u = empty_unit name unit (value_spelling (arg.Bool (Some m) truth)) n u (names_are (m, []) (name, unit) names).1
may_have (arg.Sint m v width z) name unit names n u =
    number_unit name unit (value_spelling (arg.Sint m v width z)) n u (rw (parts_at (codes "sint" ++ bits_of width) (signed_decimal z) (sint_word width), sint_kind width) refl)
may_have (arg.Uint m v width x) name unit names n u =
    number_unit name unit (value_spelling (arg.Uint m v width x)) n u (rw (parts_at (codes "uint" ++ bits_of width) (decimal x) (uint_word width), uint_kind width) refl)
may_have (arg.Text None text utf8) name unit names n u = absurd cc
may_have (arg.Text (Some m) text utf8) name unit names n u = empty_unit name unit (value_spelling (arg.Text (Some m) text utf8)) n u (names_are (m, []) (name, unit) names).1
may_have (arg.Raw None bytes) name unit names n u = absurd cc
may_have (arg.Raw (Some m) bytes) name unit names n u = empty_unit name unit (value_spelling (arg.Raw (Some m) bytes)) n u (names_are (m, []) (name, unit) names).1

-- a value that had none
nameless : (a : Arg) → IsValue a → names_of a ≡ None → alone a ≡ a
nameless (arg.Bool None truth) value none = refl
nameless (arg.Bool (Some n) truth) value none = absurd cc
nameless (arg.Sint None None width z) value none = refl
nameless (arg.Sint None (Some u) width z) value none = let same = value.0 in absurd cc
nameless (arg.Sint (Some n) None width z) value none = let same = value.0 in absurd cc
nameless (arg.Sint (Some n) (Some u) width z) value none = absurd cc
nameless (arg.Uint None None width x) value none = refl
nameless (arg.Uint None (Some u) width x) value none = let same = value.0 in absurd cc
nameless (arg.Uint (Some n) None width x) value none = let same = value.0 in absurd cc
nameless (arg.Uint (Some n) (Some u) width x) value none = absurd cc
nameless (arg.Text None text utf8) value none = ap (arg.Text None text) (sym value)
nameless (arg.Text (Some n) text utf8) value none = absurd cc
nameless (arg.Raw None bytes) value none = refl
nameless (arg.Raw (Some n) bytes) value none = absurd cc

-- ---- arguments

plain : (a : Arg) → argument_of (value_spelling a) ≡ value_of (value_spelling a)
plain (arg.Bool name true) = refl
plain (arg.Bool name false) = refl
plain (arg.Sint name unit width z) = refl
plain (arg.Uint name unit width x) = refl
plain (arg.Text name text utf8) = refl
plain (arg.Raw name bytes) = refl

with_names : (a : Arg) (name unit : List ℕ) → IsValue a → HasBytes a → names_of a ≡ Some (name, unit) → is_label name ≡ true → is_label unit ≡ true
    → named_of (with_colon name (with_colon unit (value_spelling a))) ≡ Ok (with_name name unit (alone a))
with_names a name unit value bytes names n u =
    rw (parts_at name (with_colon unit (value_spelling a)) (label name n), parts_at unit (value_spelling a) (label unit u), may_have a name unit names n u, value_says a value bytes) refl

by_names : (a : Arg) (names : Option (List ℕ × List ℕ)) → names_of a ≡ names → IsValue a → HasBytes a → IfSome names (λ n. (is_label n.0 ≡ true) × (is_label n.1 ≡ true))
    → argument_of (option_map_or (λ n. with_colon (codes "named") (with_colon n.0 (with_colon n.1 (value_spelling a)))) names (value_spelling a)) ≡ Ok a
by_names a None e value bytes labels = plain a ∙ value_says a value bytes ∙ ap Ok (nameless a value e)
by_names a (Some n) e value bytes labels = with_names a n.0 n.1 value bytes e labels.0 labels.1 ∙ ap Ok (renamed a n.0 n.1 value e)

pub said : (a : Arg) → IsSayable a → argument_of (spelling a) ≡ Ok a
said a is = by_names a (names_of a) refl is.value is.bytes is.labels
