-- An argument that a line can say is a field of it.
use Rattle.std.proofs.Common.{◌≡◌, ℕ, suc, ◌-◌, ◌*◌, ◌^◌, ◌<◌, ◌≤◌, ℤ, pos, negsuc, true, false, List, [], ◌∷◌, ◌++◌, Option, Some, None, refl, ◌∙◌, subst, arith}
use Rattle.std.specs.Prelude.{codes, IfSome, FitsSigned}
use Rattle.std.specs.Fmt.{decimal, signed_decimal}
use Rattle.std.specs.List.{list_all, list_any}
use Rattle.std.specs.Option.{option_map_or}
use Rattle.std.specs.Str.{IsUtf8}
use Rattle.std.proofs.lemmas.Bool.{or_from, or_parts}
use Rattle.std.proofs.lemmas.Fmt.{decimal_is_IsNumeral_wide}
use Rattle.std.proofs.lemmas.List.Folds.{list_any-append}
use Rattle.std.proofs.lemmas.List.Sums.{list_all-from_AllPass}
use Rattle.std.proofs.lemmas.Str.{IsUtf8-append, IsUtf8-from_ascii}
use Rattle.hex.specs.Hex.{encode_upper, is_hex_digit, IsBytes}
use Rattle.hex.proofs.HexLemmas.{decode_of-ok, decode_of-encode_upper}
use Rattle.dl_text.proofs.Digits.{own}
use Rattle.dl_args.specs.Argument.{IsValue}
use Rattle.dl_args.specs.Width.{byte_count, int_type}
use Rattle.dl_args.specs.declared.arg.Arg.{Arg}
use Rattle.dl_args.specs.declared.arg.Arg.TheVariants as arg
use Rattle.dl_args.specs.declared.width.Width.{Width}
use Rattle.dl_args.specs.declared.width.Width.TheVariants.{W8, W16, W32, W64, W128}
use Rattle.dl_text.specs.Lines.{is_blank}
use Rattle.dl_script_fields.specs.Argument.{is_label}
use Rattle.dl_script_fields.specs.Spelling.{with_colon, bits_of, escaped, value_spelling, names_of, spelling, HasBytes}
use Rattle.dl_script_fields.specs.Spells.{is_letter, IsText, HoldsText, IsSaid, quoted}
use Rattle.dl_script_fields.proofs.Letters.{no_blanks, ascii, is_whole, whole-append, digits_are, hex_are, label_are, letters-append, letters_whole, unquoted, IsGood}
use Rattle.dl_script_fields.proofs.Numbers.{half_bits, all_bits, fits_negative}
use Rattle.dl_script_fields.proofs.QuotedFields.{none_escaped, quoted_utf8, quoted_whole, quoted_good}
use Rattle.dl_script_fields.proofs.Spellings.{widest, half_widest}

-- ---- values of letters

decimal_letters : (n : ℕ) → n < 10 ^ 64 → list_all is_letter (decimal n) ≡ true
decimal_letters n small = digits_are (decimal n) (own.from (decimal n) (decimal_is_IsNumeral_wide n small).0.1)

unsigned_letters : (width : Width) (n : ℕ) → n < 256 ^ byte_count width → list_all is_letter (decimal n) ≡ true
unsigned_letters width n fits =
    let below : n < 2 ^ (8 * byte_count width) = subst (λ m. n < m) (all_bits width) fits in
    let wide = widest width in
    decimal_letters n (omega arith)

signed_letters : (width : Width) (z : ℤ) → FitsSigned (int_type width) z → list_all is_letter (signed_decimal z) ≡ true
signed_letters width (pos n) fits =
    let below : n < 2 ^ (8 * byte_count width - 1) = subst (λ m. n < m) (half_bits width) fits.sfits in
    let wide = half_widest width in
    decimal_letters n (omega arith)
signed_letters width (negsuc n) fits =
    let within : suc n ≤ 2 ^ (8 * byte_count width - 1) = subst (λ m. suc n ≤ m) (half_bits width) (fits_negative (int_type width) (suc n) fits) in
    let wide = half_widest width in
    decimal_letters (suc n) (omega arith)

upper_letters : (bytes : List ℕ) → IsBytes bytes → list_all is_letter (encode_upper bytes) ≡ true
upper_letters bytes are =
    hex_are (encode_upper bytes) (list_all-from_AllPass is_hex_digit (encode_upper bytes) (decode_of-ok (encode_upper bytes) bytes (decode_of-encode_upper bytes are)).1)

colon_letters : (front rest : List ℕ) → list_all is_letter front ≡ true → list_all is_letter rest ≡ true → list_all is_letter (with_colon front rest) ≡ true
colon_letters front rest first second = letters-append front (58 ∷ rest) first second

sint_letters : (width : Width) → list_all is_letter (codes "sint" ++ bits_of width) ≡ true
sint_letters W8 = refl
sint_letters W16 = refl
sint_letters W32 = refl
sint_letters W64 = refl
sint_letters W128 = refl

uint_letters : (width : Width) → list_all is_letter (codes "uint" ++ bits_of width) ≡ true
uint_letters W8 = refl
uint_letters W16 = refl
uint_letters W32 = refl
uint_letters W64 = refl
uint_letters W128 = refl

-- ---- what stands behind a name

record IsInner (bytes : List ℕ) : Type 0 where
  none : list_any is_blank bytes ≡ false
  utf8 : IsUtf8 bytes
  whole : is_whole bytes ≡ true

inner_letters : (bytes : List ℕ) → list_all is_letter bytes ≡ true → IsInner bytes
inner_letters bytes are = record { none = no_blanks bytes are; utf8 = IsUtf8-from_ascii bytes (ascii bytes are); whole = letters_whole bytes are }

inner-append : (front rest : List ℕ) → IsInner front → IsInner rest → IsInner (front ++ rest)
inner-append front rest first second = record {
  none = list_any-append is_blank front rest ∙ or_from _ _ first.none second.none;
  utf8 = IsUtf8-append front rest first.utf8 second.utf8;
  whole = whole-append front rest first.whole second.whole;
}

inner_colon : (front rest : List ℕ) → list_all is_letter front ≡ true → IsInner rest → IsInner (with_colon front rest)
inner_colon front rest letters inner = inner-append front (58 ∷ rest) (inner_letters front letters) (inner-append (58 ∷ []) rest (inner_letters (58 ∷ []) refl) inner)

inner_text : (text : List ℕ) → IsText text → list_any is_blank text ≡ false → IsInner (quoted text)
inner_text text is none = record {
  none = list_any-append is_blank (34 ∷ escaped text) (34 ∷ []) ∙ or_from _ _ (none_escaped is_blank text refl none) refl;
  utf8 = quoted_utf8 text is;
  whole = quoted_whole text is;
}

named_good : (name unit value : List ℕ) → is_label name ≡ true → is_label unit ≡ true → IsInner value → IsGood (with_colon (codes "named") (with_colon name (with_colon unit value)))
named_good name unit value n u inner =
    let labels = inner_colon name (with_colon unit value) (label_are name n) (inner_colon unit value (label_are unit u) inner) in
    let whole = inner_colon (codes "named") (with_colon name (with_colon unit value)) refl labels in
    record {
      is = unquoted 110 (with_colon (codes "amed") (with_colon name (with_colon unit value))) refl whole.none;
      utf8 = whole.utf8;
      whole = whole.whole;
    }

-- ---- arguments

abbrev IsNoText : Arg → Type 0
IsNoText (arg.Text name text utf8) = ⊥
IsNoText _ = Unit {0}

letters_value : (a : Arg) → IsNoText a → IsValue a → HasBytes a → IsInner (value_spelling a)
letters_value (arg.Bool name true) is value bytes = inner_letters (value_spelling (arg.Bool name true)) refl
letters_value (arg.Bool name false) is value bytes = inner_letters (value_spelling (arg.Bool name false)) refl
letters_value (arg.Sint name unit width z) is value bytes =
    inner_letters (with_colon (codes "sint" ++ bits_of width) (signed_decimal z)) (colon_letters (codes "sint" ++ bits_of width) (signed_decimal z) (sint_letters width) (signed_letters width z value.1))
letters_value (arg.Uint name unit width n) is value bytes =
    inner_letters (with_colon (codes "uint" ++ bits_of width) (decimal n)) (colon_letters (codes "uint" ++ bits_of width) (decimal n) (uint_letters width) (unsigned_letters width n value.1))
letters_value (arg.Text name text utf8) is value bytes = absurd is
letters_value (arg.Raw name raw) is value bytes =
    inner_letters (with_colon (codes "raw") (encode_upper raw)) (colon_letters (codes "raw") (encode_upper raw) refl (upper_letters raw bytes.1))

named_value : (a : Arg) (names : List ℕ × List ℕ) → names_of a ≡ Some names → IsValue a → HasBytes a → HoldsText a → IsInner (value_spelling a)
named_value (arg.Bool name truth) names e value bytes text = letters_value (arg.Bool name truth) tt value bytes
named_value (arg.Sint name unit width z) names e value bytes text = letters_value (arg.Sint name unit width z) tt value bytes
named_value (arg.Uint name unit width n) names e value bytes text = letters_value (arg.Uint name unit width n) tt value bytes
named_value (arg.Text None said utf8) names e value bytes text = absurd cc
named_value (arg.Text (Some name) said utf8) names e value bytes text = inner_text said text.0 text.1
named_value (arg.Raw name raw) names e value bytes text = letters_value (arg.Raw name raw) tt value bytes

-- a value that begins with a letter
begins_good : (b : ℕ) (rest : List ℕ) → is_letter b ≡ true → IsInner (b ∷ rest) → IsGood (b ∷ rest)
begins_good b rest letter inner =
    record { is = unquoted b rest letter (or_parts (is_blank b) (list_any is_blank rest) inner.none).1; utf8 = inner.utf8; whole = inner.whole }

plain_value : (a : Arg) → names_of a ≡ None → IsValue a → HasBytes a → HoldsText a → IsGood (value_spelling a)
plain_value (arg.Bool name true) e value bytes text = begins_good 98 _ refl (letters_value (arg.Bool name true) tt value bytes)
plain_value (arg.Bool name false) e value bytes text = begins_good 98 _ refl (letters_value (arg.Bool name false) tt value bytes)
plain_value (arg.Sint name unit width z) e value bytes text = begins_good 115 _ refl (letters_value (arg.Sint name unit width z) tt value bytes)
plain_value (arg.Uint name unit width n) e value bytes text = begins_good 117 _ refl (letters_value (arg.Uint name unit width n) tt value bytes)
plain_value (arg.Text None said utf8) e value bytes text = quoted_good said text
plain_value (arg.Text (Some name) said utf8) e value bytes text = absurd cc
plain_value (arg.Raw name raw) e value bytes text = begins_good 114 _ refl (letters_value (arg.Raw name raw) tt value bytes)

by_names : (a : Arg) (names : Option (List ℕ × List ℕ)) → names_of a ≡ names → IsValue a → HasBytes a → HoldsText a → IfSome names (λ n. (is_label n.0 ≡ true) × (is_label n.1 ≡ true))
    → IsGood (option_map_or (λ n. with_colon (codes "named") (with_colon n.0 (with_colon n.1 (value_spelling a)))) names (value_spelling a))
by_names a None e value bytes text labels = plain_value a e value bytes text
by_names a (Some n) e value bytes text labels = named_good n.0 n.1 (value_spelling a) labels.0 labels.1 (named_value a n e value bytes text)

pub argument_good : (a : Arg) → IsSaid a → IsGood (spelling a)
argument_good a is = by_names a (names_of a) refl is.sayable.value is.sayable.bytes is.held is.sayable.labels
