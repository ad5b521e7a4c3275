-- The written form is in the form that is read, lowest byte first.
use Rattle.std.proofs.Common.{◌≡◌, ℕ, ℤ, pos, negsuc, ◌+◌, ◌*◌, ◌%◌, ◌^◌, ◌<◌, Bool, true, false, List, [], ◌∷◌, ◌++◌, length, Some, None, Ok, refl, sym, ap, ◌∙◌, append_assoc, arith, inl}
use Rattle.std.specs.Prelude.{FitsSigned}
use Rattle.std.specs.List.{flat_map, AllByRecursion}
use Rattle.std.specs.Int.{w128, cast_unsigned, from_bool}
use Rattle.std.proofs.lemmas.Int.{to_z-of_z}
use Rattle.std.proofs.lemmas.List.{append-nil, length-append}
use Rattle.std.proofs.lemmas.List.Concat.{flat_map-cons}
use Rattle.std.proofs.Math.Nat.{div-one}
use Rattle.byteorder.specs.Endian.{little_bytes, little_number}
use Rattle.byteorder.specs.Numbers.{little_number-reads_back, little_from-bytes, length-bytes_low_first}
use Rattle.dl_bytes.specs.declared.cursor.Order.TheVariants.{Little}
use Rattle.dl_args.specs.declared.arg.Arg.{Arg}
use Rattle.dl_args.specs.declared.arg.Arg.TheVariants as arg
use Rattle.dl_args.specs.declared.type_info.Kind.{Kind}
use Rattle.dl_args.specs.declared.type_info.Kind.TheVariants as kind
use Rattle.dl_args.specs.declared.width.Width.{Width}
use Rattle.dl_args.specs.declared.width.Width.TheVariants.{W8, W16, W32, W64, W128}
use Rattle.dl_args.specs.Width.{tyle_of, byte_count, int_type}
use Rattle.dl_args.specs.Argument.{written, size, closed_size, number, signed, IsWritable}
use Rattle.dl_args.specs.Reading.{arguments_of}
use Rattle.dl_args.proofs.ArgForms.{args_again}
use Rattle.dl_args.proofs.InfoForms.{tyle_small}
use Rattle.dl_args.specs.ReadForm.{◌before◌, IsNumber, IsSigned, Allows, IsInfo, IsText, IsLength, IsName, AreNames, IsSpelling, AreSpellings, kind_bit}

little : (n x : ℕ) → x < 256 ^ n → IsNumber Little n x (little_bytes n x)
little n x small = record {
  len = length-bytes_low_first 0 n x;
  value = ap (λ (f : List ℕ). little_number n f) (sym (append-nil (little_bytes n x))) ∙ little_number-reads_back n x [] small;
}

closed_text : (text : List ℕ) → IsText text (text ++ 0 ∷ [])
closed_text text = inl refl

-- the lowest bytes of a signed number's two's complement are its two's complement at its own width
lowest : (width : Width) (z : ℤ) → FitsSigned (int_type width) z → cast_unsigned w128 z % 256 ^ byte_count width ≡ cast_unsigned (int_type width) z
lowest W8 (pos n) fits = omega (arith, fits.sfits)
lowest W8 (negsuc n) fits = omega (arith, fits.sfits)
lowest W16 (pos n) fits = omega (arith, fits.sfits)
lowest W16 (negsuc n) fits = omega (arith, fits.sfits)
lowest W32 (pos n) fits = omega (arith, fits.sfits)
lowest W32 (negsuc n) fits = omega (arith, fits.sfits)
lowest W64 (pos n) fits = omega (arith, fits.sfits)
lowest W64 (negsuc n) fits = omega (arith, fits.sfits)
lowest W128 (pos n) fits = omega (arith, fits.sfits)
lowest W128 (negsuc n) fits = omega (arith, fits.sfits)

signed_form : (width : Width) (z : ℤ) → FitsSigned (int_type width) z → IsSigned Little width z (signed width z)
signed_form width z fits =
    let bits = cast_unsigned w128 z in
    let n = byte_count width in
    record {
      bits = cast_unsigned (int_type width) z;
      number = record {
        len = length-bytes_low_first 0 n bits;
        value = ap (λ (f : List ℕ). little_number n f) (sym (append-nil (little_bytes n bits))) ∙ little_from-bytes n 0 bits [] ∙ ap (λ (m : ℕ). m % 256 ^ n) (div-one bits) ∙ lowest width z fits;
      };
      value = to_z-of_z (int_type width) z fits;
    }

-- ---- names

closed_length : (text : List ℕ) → length text + 1 < 2 ^ 16 → IsLength Little (text ++ 0 ∷ []) (closed_size text)
closed_length text fits = record { len = refl; value = (little 2 (length text + 1) fits).value ∙ sym (length-append text (0 ∷ [])) }

-- the field of a name
abbrev name_field : List ℕ → List ℕ
name_field name = closed_size name ++ (name ++ 0 ∷ [])

name_form : (name : List ℕ) → length name + 1 < 2 ^ 16 → IsName Little (Some name) (name_field name)
name_form name fits = (name ++ 0 ∷ [], closed_text name, record { front = closed_size name; back = name ++ 0 ∷ []; first = closed_length name fits; second = refl; parts = refl })

-- the fields of a name and a unit
abbrev name_fields : List ℕ → List ℕ → List ℕ
name_fields name unit = closed_size name ++ (closed_size unit ++ ((name ++ 0 ∷ []) ++ (unit ++ 0 ∷ [])))

names_form : (name unit : List ℕ) → length name + 1 < 2 ^ 16 → length unit + 1 < 2 ^ 16 → AreNames Little (Some name) (Some unit) (name_fields name unit)
names_form name unit name_fits unit_fits = (
  name ++ 0 ∷ [],
  unit ++ 0 ∷ [],
  closed_text name,
  closed_text unit,
  record {
    front = closed_size name;
    back = closed_size unit ++ ((name ++ 0 ∷ []) ++ (unit ++ 0 ∷ []));
    first = closed_length name name_fits;
    second = record {
      front = closed_size unit;
      back = (name ++ 0 ∷ []) ++ (unit ++ 0 ∷ []);
      first = closed_length unit unit_fits;
      second = record { front = name ++ 0 ∷ []; back = unit ++ 0 ∷ []; first = refl; second = refl; parts = refl };
      parts = refl;
    };
    parts = refl;
  },
)

-- ---- arguments

info_form : (k : Kind) (named : Bool) (info tyle scod : ℕ) → Allows k tyle scod → info ≡ tyle + kind_bit k + 0x800 * from_bool named + 0x8000 * scod → info < 2 ^ 32 → IsInfo Little k named (little_bytes 4 info)
info_form k named info tyle scod allowed bits small = record { info = info; says = record { tyle = tyle; scod = scod; allowed = allowed; bits = bits }; number = little 4 info small }

-- a type info, the name and the value
three : {P Q R : List ℕ → Type 0} (p q r bytes : List ℕ) → P p → Q q → R r → bytes ≡ p ++ (q ++ r) → (P before Q before R) bytes
three p q r bytes first second third parts = record { front = p; back = q ++ r; first = first; second = record { front = q; back = r; first = second; second = third; parts = refl }; parts = parts }

-- a type info, a length, the name and the bytes
four : {P Q R S : List ℕ → Type 0} (p q r s bytes : List ℕ) → P p → Q q → R r → S s → bytes ≡ p ++ (q ++ (r ++ s)) → (P before Q before R before S) bytes
four p q r s bytes first second third fourth parts = record { front = p; back = q ++ (r ++ s); first = first; second = three q r s (q ++ (r ++ s)) second third fourth refl; parts = parts }

pub written_is_spelling : (a : Arg) → IsWritable a → IsSpelling Little a (written a)
written_is_spelling (arg.Bool None value) fits =
    three (little_bytes 4 0x11) [] (from_bool value ∷ []) (written (arg.Bool None value)) (info_form kind.Bool false 0x11 1 0 (omega arith, omega arith) refl (omega arith)) refl refl refl
written_is_spelling (arg.Bool (Some name) value) fits =
    let name_fits : length name + 1 < 2 ^ 16 = omega (arith, fits.len, length-append name (0 ∷ from_bool value ∷ [])) in
    three (little_bytes 4 0x811) (name_field name) (from_bool value ∷ []) (written (arg.Bool (Some name) value)) (info_form kind.Bool true 0x811 1 0 (omega arith, omega arith) refl (omega arith)) (name_form name name_fits) refl (simp append_assoc)
written_is_spelling (arg.Sint None None width value) fits =
    let small = tyle_small width in
    three (little_bytes 4 (0x20 + tyle_of width)) [] (signed width value) (written (arg.Sint None None width value)) (info_form (kind.Sint width) false (0x20 + tyle_of width) (tyle_of width) 0 (refl, omega arith) (omega arith) (omega arith)) refl (signed_form width value fits.value.1) (simp append-nil)
written_is_spelling (arg.Sint (Some name) (Some unit) width value) fits =
    let after = unit ++ 0 ∷ (signed width value ++ []) in
    let len : length name + length unit + 2 < 2 ^ 16 = omega (arith, fits.len, length-append name (0 ∷ after), length-append unit (0 ∷ (signed width value ++ []))) in
    let small = tyle_small width in
    three (little_bytes 4 (0x820 + tyle_of width)) (name_fields name unit) (signed width value) (written (arg.Sint (Some name) (Some unit) width value)) (info_form (kind.Sint width) true (0x820 + tyle_of width) (tyle_of width) 0 (refl, omega arith) (omega arith) (omega arith)) (names_form name unit (omega arith) (omega arith)) (signed_form width value fits.value.1) (simp (append_assoc, append-nil))
written_is_spelling (arg.Sint None (Some unit) width value) fits = let same = fits.value.0 in absurd cc
written_is_spelling (arg.Sint (Some name) None width value) fits = let same = fits.value.0 in absurd cc
written_is_spelling (arg.Uint None None width value) fits =
    let small = tyle_small width in
    three (little_bytes 4 (0x40 + tyle_of width)) [] (number width value) (written (arg.Uint None None width value)) (info_form (kind.Uint width) false (0x40 + tyle_of width) (tyle_of width) 0 (refl, omega arith) (omega arith) (omega arith)) refl (little (byte_count width) value fits.value.1) (simp append-nil)
written_is_spelling (arg.Uint (Some name) (Some unit) width value) fits =
    let after = unit ++ 0 ∷ (number width value ++ []) in
    let len : length name + length unit + 2 < 2 ^ 16 = omega (arith, fits.len, length-append name (0 ∷ after), length-append unit (0 ∷ (number width value ++ []))) in
    let small = tyle_small width in
    three (little_bytes 4 (0x840 + tyle_of width)) (name_fields name unit) (number width value) (written (arg.Uint (Some name) (Some unit) width value)) (info_form (kind.Uint width) true (0x840 + tyle_of width) (tyle_of width) 0 (refl, omega arith) (omega arith) (omega arith)) (names_form name unit (omega arith) (omega arith)) (little (byte_count width) value fits.value.1) (simp (append_assoc, append-nil))
written_is_spelling (arg.Uint None (Some unit) width value) fits = let same = fits.value.0 in absurd cc
written_is_spelling (arg.Uint (Some name) None width value) fits = let same = fits.value.0 in absurd cc
written_is_spelling (arg.Text None text utf8) fits =
    let text_fits : length text + 1 < 2 ^ 16 = omega (arith, fits.len, length-append text (0 ∷ [])) in
    (text ++ 0 ∷ [], closed_text text, four (little_bytes 4 0x8200) (closed_size text) [] (text ++ 0 ∷ []) (written (arg.Text None text utf8)) (info_form (kind.Text utf8) false 0x8200 0 1 (omega arith, ap from_bool (sym fits.value)) refl (omega arith)) (closed_length text text_fits) refl refl refl)
written_is_spelling (arg.Text (Some name) text utf8) fits =
    let len : length name + length text + 2 < 2 ^ 16 = omega (arith, fits.len, length-append name (0 ∷ (text ++ 0 ∷ [])), length-append text (0 ∷ [])) in
    (text ++ 0 ∷ [], closed_text text, four (little_bytes 4 0x8a00) (closed_size text) (name_field name) (text ++ 0 ∷ []) (written (arg.Text (Some name) text utf8)) (info_form (kind.Text utf8) true 0x8a00 0 1 (omega arith, ap from_bool (sym fits.value)) refl (omega arith)) (closed_length text (omega arith)) (name_form name (omega arith)) refl (simp append_assoc))
written_is_spelling (arg.Raw None bytes) fits =
    let bytes_fit : length bytes < 2 ^ 16 = omega (arith, fits.len, length-append bytes []) in
    four (little_bytes 4 0x400) (size bytes) [] bytes (written (arg.Raw None bytes)) (info_form kind.Raw false 0x400 0 0 (omega arith, omega arith) refl (omega arith)) (little 2 (length bytes) bytes_fit) refl refl (simp append-nil)
written_is_spelling (arg.Raw (Some name) bytes) fits =
    let len : length name + length bytes + 1 < 2 ^ 16 = omega (arith, fits.len, length-append name (0 ∷ (bytes ++ [])), length-append bytes []) in
    four (little_bytes 4 0xc00) (size bytes) (name_field name) bytes (written (arg.Raw (Some name) bytes)) (info_form kind.Raw true 0xc00 0 0 (omega arith, omega arith) refl (omega arith)) (little 2 (length bytes) (omega arith)) (name_form name (omega arith)) refl (simp (append_assoc, append-nil))

-- arguments one after the other
pub written_are_spellings : (args : List Arg) → AllByRecursion IsWritable args → AreSpellings Little args (flat_map written args)
written_are_spellings [] fits = refl
written_are_spellings (a ∷ others) fits = record { front = written a; back = flat_map written others; first = written_is_spelling a fits.0; second = written_are_spellings others fits.1; parts = flat_map-cons written a others }

pub written_again : (args : List Arg) (rest : List ℕ) → AllByRecursion IsWritable args → arguments_of Little (length args) (flat_map written args ++ rest) ≡ Ok args
written_again args rest fits = args_again Little (length (flat_map written args ++ rest)) args (flat_map written args) rest (written_are_spellings args fits)
