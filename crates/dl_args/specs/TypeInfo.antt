-- The type info, four bytes with which each argument begins: AUTOSAR DLT, verbose mode.
use Rattle.std.specs.Prelude.{ℕ, Bool, true, false, not, Option, Some, None, option_map, ◌==◌, nat_le, if◌then◌else◌, bit_and}
use Rattle.dl_args.specs.declared.type_info.Kind.{Kind}
use Rattle.dl_args.specs.declared.type_info.Kind.TheVariants as kind
use Rattle.dl_args.specs.Width.{width_of}

-- TYLE, bits 0 to 3
abbrev pub tyle : ℕ → ℕ
tyle info = bit_and info 0xf

-- SCOD, bits 15 to 17, where they stand
abbrev pub coding : ℕ → ℕ
coding info = bit_and info 0x3_8000

-- VARI, bit 11: a name, and the unit of a number, come with the value
abbrev pub has_name : ℕ → Bool
has_name info = not (bit_and info 0x800 == 0)

-- all bits but those: BOOL, SINT, UINT, STRG, RAWD, and bits that say nothing that is read here
abbrev pub kind_bits : ℕ → ℕ
kind_bits info = bit_and info 0xfffc_77f0

-- a text by its coding: 0 is ASCII, 1 is UTF-8
abbrev pub text_kind : ℕ → Option Kind
text_kind scod = if scod == 0 then Some (kind.Text false) else if scod == 0x8000 then Some (kind.Text true) else None

-- the kind that a type info says
unfoldable pub kind_of : ℕ → Option Kind
kind_of info =
    if kind_bits info == 0x10 then (if nat_le (tyle info) 1 then Some kind.Bool else None)
    else if kind_bits info == 0x20 then option_map kind.Sint (width_of (tyle info))
    else if kind_bits info == 0x40 then option_map kind.Uint (width_of (tyle info))
    else if kind_bits info == 0x200 then text_kind (coding info)
    else if kind_bits info == 0x400 then Some kind.Raw
    else None
