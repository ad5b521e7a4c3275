-- The widths of numbers: TYLE, bits 0 to 3 of a type info.
use Rattle.std.specs.Prelude.{ℕ, Option, Some, None, ◌==◌, if◌then◌else◌}
use Rattle.std.specs.Int as int
use Rattle.dl_args.specs.declared.width.Width.{Width}
use Rattle.dl_args.specs.declared.width.Width.TheVariants.{W8, W16, W32, W64, W128}

-- TYLE of each width
abbrev pub tyle_of : Width → ℕ
tyle_of W8 = 1
tyle_of W16 = 2
tyle_of W32 = 3
tyle_of W64 = 4
tyle_of W128 = 5

-- the width of a TYLE
abbrev pub width_of : ℕ → Option Width
width_of tyle =
    if tyle == 1 then Some W8
    else if tyle == 2 then Some W16
    else if tyle == 3 then Some W32
    else if tyle == 4 then Some W64
    else if tyle == 5 then Some W128
    else None

-- how many bytes a number has
abbrev pub byte_count : Width → ℕ
byte_count W8 = 1
byte_count W16 = 2
byte_count W32 = 4
byte_count W64 = 8
byte_count W128 = 16

-- the type of such numbers: a signed one is two's complement
abbrev pub int_type : Width → int.Width
int_type W8 = int.w8
int_type W16 = int.w16
int_type W32 = int.w32
int_type W64 = int.w64
int_type W128 = int.w128
