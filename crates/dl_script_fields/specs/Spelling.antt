-- How a script can say an argument.
use Rattle.std.specs.Prelude.{◌≡◌, ℕ, ◌≤◌, true, false, List, [], ◌∷◌, ◌++◌, length, codes, Option, Some, None, IfSome, option_map, if◌then◌else◌}
use Rattle.std.specs.Fmt.{decimal, signed_decimal}
use Rattle.std.specs.Option.{option_map_or}
use Rattle.hex.specs.Hex.{encode_upper, IsBytes}
use Rattle.dl_args.specs.Argument.{IsValue}
use Rattle.dl_args.specs.declared.arg.Arg.{Arg}
use Rattle.dl_args.specs.declared.arg.Arg.TheVariants as arg
use Rattle.dl_args.specs.declared.width.Width.{Width}
use Rattle.dl_args.specs.declared.width.Width.TheVariants.{W8, W16, W32, W64, W128}
use Rattle.dl_script_fields.specs.Argument.{is_escapable, is_label}

-- a front, a colon, and what follows it
abbrev pub with_colon : List ℕ → List ℕ → List ℕ
with_colon front rest = front ++ (58 ∷ rest)

-- the bits of a width
abbrev pub bits_of : Width → List ℕ
bits_of W8 = codes "8"
bits_of W16 = codes "16"
bits_of W32 = codes "32"
bits_of W64 = codes "64"
bits_of W128 = codes "128"

-- a text with a backslash before each quote and each backslash
abbrev pub escaped : List ℕ → List ℕ
escaped [] = []
escaped (b ∷ rest) = if is_escapable b then 92 ∷ b ∷ escaped rest else b ∷ escaped rest

-- the value of an argument: numbers in decimal digits, bytes in hexadecimal ones, a text in quotes
abbrev pub value_spelling : Arg → List ℕ
value_spelling (arg.Bool name true) = with_colon (codes "bool") (codes "1")
value_spelling (arg.Bool name false) = with_colon (codes "bool") (codes "0")
value_spelling (arg.Sint name unit width z) = with_colon (codes "sint" ++ bits_of width) (signed_decimal z)
value_spelling (arg.Uint name unit width n) = with_colon (codes "uint" ++ bits_of width) (decimal n)
value_spelling (arg.Text name text utf8) = 34 ∷ (escaped text ++ (34 ∷ []))
value_spelling (arg.Raw name bytes) = with_colon (codes "raw") (encode_upper bytes)

-- the name and the unit, where there are any
abbrev pub names_of : Arg → Option (List ℕ × List ℕ)
names_of (arg.Bool name truth) = option_map (λ n. (n, [])) name
names_of (arg.Sint (Some name) (Some unit) width z) = Some (name, unit)
names_of (arg.Sint _ _ width z) = None
names_of (arg.Uint (Some name) (Some unit) width n) = Some (name, unit)
names_of (arg.Uint _ _ width n) = None
names_of (arg.Text name text utf8) = option_map (λ n. (n, [])) name
names_of (arg.Raw name bytes) = option_map (λ n. (n, [])) name

-- an argument, with its name and its unit before its value
abbrev pub spelling : Arg → List ℕ
spelling a = option_map_or (λ names. with_colon (codes "named") (with_colon names.0 (with_colon names.1 (value_spelling a)))) (names_of a) (value_spelling a)

-- raw bytes, one at least
abbrev pub HasBytes : Arg → Type 0
HasBytes (arg.Raw name bytes) = (1 ≤ length bytes) × IsBytes bytes
HasBytes _ = Unit {0}

-- what a script can say: a value that has a written form, with a name and a unit of letters, digits and `_`
pub record IsSayable (a : Arg) : Type 0 where
  pub value : IsValue a
  pub labels : IfSome (names_of a) (λ names. (is_label names.0 ≡ true) × (is_label names.1 ≡ true))
  pub bytes : HasBytes a
