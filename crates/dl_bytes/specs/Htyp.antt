-- HTYP, the first byte of a message, and LEN: AUTOSAR DLT, standard header.
use Rattle.std.specs.Prelude.{ℕ, ◌+◌, ◌/◌, Bool, not, ◌==◌, if◌then◌else◌, bit_and, List, drop, slice_index}
use Rattle.byteorder.specs.Endian.{big_number}

-- HTYP, the first byte of a message
abbrev pub htyp_of : List ℕ → ℕ
htyp_of message = slice_index message 0

-- LEN, the third and the fourth byte of a message, the highest first
abbrev pub len_of : List ℕ → ℕ
len_of message = big_number 2 (drop 2 message)

-- UEH, bit 0: an extended header follows
abbrev pub has_extended : ℕ → Bool
has_extended htyp = not (bit_and htyp 1 == 0)

-- MSBF, bit 1: the numbers of the payload have their highest byte first
abbrev pub has_big_numbers : ℕ → Bool
has_big_numbers htyp = not (bit_and htyp 2 == 0)

-- WEID, bit 2: the field ECU is there
abbrev pub has_ecu : ℕ → Bool
has_ecu htyp = not (bit_and htyp 4 == 0)

-- WSID, bit 3: the field SEID is there
abbrev pub has_session : ℕ → Bool
has_session htyp = not (bit_and htyp 8 == 0)

-- WTMS, bit 4: the field TMSP is there
abbrev pub has_ticks : ℕ → Bool
has_ticks htyp = not (bit_and htyp 16 == 0)

-- VERS, bits 5 to 7
abbrev pub version : ℕ → ℕ
version htyp = htyp / 32

-- the bytes of a standard header: HTYP, MCNT and LEN, and four for each of ECU, SEID and TMSP
abbrev pub standard_len : ℕ → ℕ
standard_len htyp =
    4 + (if has_ecu htyp then 4 else 0) + (if has_session htyp then 4 else 0) + (if has_ticks htyp then 4 else 0)

-- the bytes of all headers that HTYP tells: ten more where an extended header follows
abbrev pub header_len : ℕ → ℕ
header_len htyp = standard_len htyp + (if has_extended htyp then 10 else 0)
