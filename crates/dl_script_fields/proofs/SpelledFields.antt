-- What a field that spells a value says, and that it can stand in a line.
use Rattle.std.proofs.Common.{◌≡◌, ℕ, zero, suc, ◌^◌, ◌<◌, ◌≤◌, true, false, not, eqb, ltb, List, [], ◌∷◌, length, Option, Some, None, Ok, refl, sym, ap, ◌∙◌, subst, lit≤, arith}
use Rattle.std.specs.Fmt.{decimal}
use Rattle.std.specs.List.{list_all, list_any}
use Rattle.std.proofs.lemmas.Bool.{and_parts, and_from, or_from, lt-ltb, le-ltb, le-leb, ltb-true, ne_eqb}
use Rattle.std.proofs.lemmas.List.Sums.{list_all-from_AllPass}
use Rattle.std.proofs.lemmas.Fmt.{decimal_is_IsNumeral_wide}
use Rattle.hex.specs.Hex.{encode_upper, is_hex_digit, IsBytes}
use Rattle.hex.proofs.HexLemmas.{decode_of-ok, decode_of-encode_upper}
use Rattle.dl_bytes.specs.Id.{is_visible}
use Rattle.dl_bytes.specs.Level.{severity_number}
use Rattle.dl_bytes.specs.declared.level.Severity.{Severity}
use Rattle.dl_bytes.specs.declared.level.Severity.TheVariants.{Fatal, Error, Warn, Info, Debug, Verbose}
use Rattle.dl_text.proofs.Digits.{own}
use Rattle.dl_script_fields.specs.Value.{id_field, digits_field, unsigned_field, number_field, count_field, ordinal_field, severity_field, level_field}
use Rattle.dl_script_fields.specs.Argument.{hex_field}
use Rattle.dl_script_fields.specs.Spells.{is_letter, SpellsId, SpellsNumber, SpellsBytes, SpellsLevel, severity_word}
use Rattle.dl_script_fields.proofs.Letters.{letter_range, digits_are, hex_are, letters_good, IsGood}

-- ---- ids

letters_seen : (xs : List ℕ) → list_all is_letter xs ≡ true → (list_all is_visible xs ≡ true) × (list_any (λ b. eqb b 34) xs ≡ false)
letters_seen [] are = (refl, refl)
letters_seen (b ∷ xs) are =
    let parts = and_parts (is_letter b) (list_all is_letter xs) are in
    let rest = letters_seen xs parts.1 in
    (and_from _ _ (and_parts (is_visible b) (not (eqb b 34)) parts.0).0 rest.0, or_from _ _ (letter_range b parts.0).2 rest.1)

pub id_good : (field id : List ℕ) → SpellsId field id → IsGood field
id_good field id is = letters_good field is.letters is.some

pub id_says : (field id : List ℕ) → SpellsId field id → id_field field ≡ Ok id
id_says field id is =
    let seen = letters_seen field is.letters in
    let some : eqb (length field) 0 ≡ false = let n = is.some in ne_eqb (length field) 0 (λ e. omega arith) in
    let few : ltb 4 (length field) ≡ false = le-ltb 4 (length field) is.few in
    rw (seen.1, some, few, seen.0, is.fills) refl

-- ---- numbers

pub number_good : (low high : ℕ) (field : List ℕ) (n : ℕ) → SpellsNumber low high field n → IsGood field
number_good low high field n is =
    let parts = and_parts (ltb 0 (length field)) _ is.digits in
    letters_good field (digits_are field parts.1) (ltb-true 0 (length field) parts.0)

digits_say : (low high : ℕ) (field : List ℕ) (n : ℕ) → SpellsNumber low high field n → digits_field field ≡ Some n
digits_say low high field n is = rw (is.digits, is.value) refl

unsigned_says : (bits low high : ℕ) (field : List ℕ) (n : ℕ) → SpellsNumber low high field n → n < 2 ^ bits → unsigned_field bits field ≡ Some n
unsigned_says bits low high field n is fits = rw (digits_say low high field n is, lt-ltb n (2 ^ bits) fits) refl

pub number_says : (low high : ℕ) (field : List ℕ) (n : ℕ) → high < 2 ^ 32 → SpellsNumber low high field n → number_field low high field ≡ Ok n
number_says low high field n fits is =
    let below = is.below in
    let small : n < 2 ^ 32 = omega arith in
    rw (unsigned_says 32 low high field n is small, le-leb low n is.above, le-leb n high is.below) refl

pub ordinal_says : (bits low high : ℕ) (field : List ℕ) (n : ℕ) → high < 2 ^ bits → SpellsNumber low high field n → ordinal_field bits field ≡ Ok n
ordinal_says bits low high field n fits is =
    let below = is.below in
    let small : n < 2 ^ bits = omega arith in
    rw (is.digits, is.value, lt-ltb n (2 ^ bits) small) refl

pub count_says : (low high : ℕ) (field : List ℕ) (n : ℕ) → high < 2 ^ 63 → SpellsNumber low high field n → count_field field ≡ Ok n
count_says low high field n fits is =
    let below = is.below in
    let small : n < 2 ^ 63 = omega arith in
    rw (unsigned_says 63 low high field n is small) refl

-- a number in decimal digits, as it is printed
pub decimal_spells : (low high n : ℕ) → low ≤ n → n ≤ high → n < 10 ^ 64 → SpellsNumber low high (decimal n) n
decimal_spells low high n above below small =
    let numeral = decimal_is_IsNumeral_wide n small in
    record {
      digits = and_from _ _ (lt-ltb 0 (length (decimal n)) numeral.0.0) (own.from (decimal n) numeral.0.1);
      value = numeral.1;
      above = above;
      below = below;
    }

-- ---- bytes

pub bytes_good : (field bytes : List ℕ) → SpellsBytes field bytes → IsGood field
bytes_good field bytes is =
    let ok = decode_of-ok field bytes is.digits in
    let some = is.some in
    letters_good field (hex_are field (list_all-from_AllPass is_hex_digit field ok.1)) (omega (arith, ok.2))

pub bytes_say : (field bytes : List ℕ) → SpellsBytes field bytes → hex_field field ≡ Ok bytes
bytes_say field bytes is =
    let ok = decode_of-ok field bytes is.digits in
    let some = is.some in
    let long : eqb (length field) 0 ≡ false = ne_eqb (length field) 0 (λ e. omega (arith, ok.2)) in
    rw (long, is.digits) refl

pub hex_spells : (bytes : List ℕ) → 1 ≤ length bytes → IsBytes bytes → SpellsBytes (encode_upper bytes) bytes
hex_spells bytes some are = record { digits = decode_of-encode_upper bytes are; some = some }

-- ---- severities and levels

pub severity_good : (s : Severity) → IsGood (severity_word s)
severity_good Fatal = letters_good _ refl (lit≤ tt)
severity_good Error = letters_good _ refl (lit≤ tt)
severity_good Warn = letters_good _ refl (lit≤ tt)
severity_good Info = letters_good _ refl (lit≤ tt)
severity_good Debug = letters_good _ refl (lit≤ tt)
severity_good Verbose = letters_good _ refl (lit≤ tt)

pub severity_says : (s : Severity) → severity_field (severity_word s) ≡ Ok s
severity_says Fatal = refl
severity_says Error = refl
severity_says Warn = refl
severity_says Info = refl
severity_says Debug = refl
severity_says Verbose = refl

pub level_good : (field : List ℕ) (level : Option ℕ) → SpellsLevel field level → IsGood field
level_good field None is = subst IsGood (sym is) (letters_good _ refl (lit≤ tt))
level_good field (Some zero) is = subst IsGood (sym is) (letters_good _ refl (lit≤ tt))
level_good field (Some (suc n)) is = subst IsGood (sym is.2) (severity_good is.0)

word_level : (s : Severity) → level_field (severity_word s) ≡ Ok (Some (severity_number s))
word_level Fatal = refl
word_level Error = refl
word_level Warn = refl
word_level Info = refl
word_level Debug = refl
word_level Verbose = refl

pub level_says : (field : List ℕ) (level : Option ℕ) → SpellsLevel field level → level_field field ≡ Ok level
level_says field None is = rw is refl
level_says field (Some zero) is = rw is refl
level_says field (Some (suc n)) is = ap level_field is.2 ∙ word_level is.0 ∙ ap (λ m. Ok (Some m)) is.1
