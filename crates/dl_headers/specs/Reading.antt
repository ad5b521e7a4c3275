-- Why bytes are no header: the first cause that applies.
use Rattle.std.specs.Prelude.{ℕ, not, ◌==◌, nat_lt, if◌then◌else◌, List, length, slice_index, Option, Some, None}
use Rattle.std.specs.Option.{option_or}
use Rattle.dl_bytes.specs.Htyp.{htyp_of, len_of, version, standard_len, header_len}
use Rattle.dl_headers.specs.declared.fault.HeaderFault.{HeaderFault}
use Rattle.dl_headers.specs.declared.fault.HeaderFault.TheVariants.{Short, Version, Length}

-- MCNT, the second byte
abbrev pub mcnt_of : List ℕ → ℕ
mcnt_of bytes = slice_index bytes 1

-- in the four bytes that every standard header begins with
abbrev pub front_fault : List ℕ → Option HeaderFault
front_fault bytes =
    if nat_lt (length bytes) 4 then Some (Short 4)
    else if not (version (htyp_of bytes) == 1) then Some (Version (version (htyp_of bytes)))
    else if nat_lt (len_of bytes) (header_len (htyp_of bytes)) then Some (Length (len_of bytes))
    else None

-- in a standard header: its front decides first
abbrev pub standard_fault : List ℕ → Option HeaderFault
standard_fault bytes = option_or (front_fault bytes)
    (if nat_lt (length bytes) (standard_len (htyp_of bytes)) then Some (Short (standard_len (htyp_of bytes))) else None)

-- in an extended header
abbrev pub extended_fault : List ℕ → Option HeaderFault
extended_fault bytes = if nat_lt (length bytes) 10 then Some (Short 10) else None
