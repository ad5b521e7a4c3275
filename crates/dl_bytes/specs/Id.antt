-- Ids of four bytes, as the standard's fields ECU, APID and CTID have them.
use Rattle.std.specs.Prelude.{ℕ, ◌&&◌, Bool, List, [], ◌∷◌, ◌++◌, length, nat_le, nat_lt, ◌==◌, if◌then◌else◌, drop, Result, Ok, Err}
use Rattle.std.specs.List.{list_all}
use Rattle.dl_bytes.specs.declared.id.IdFault.{IdFault}
use Rattle.dl_bytes.specs.declared.id.IdFault.TheVariants.{Empty, Long, NotAscii}

-- a visible ASCII letter: 0x21 to 0x7E
abbrev pub is_visible : ℕ → Bool
is_visible b = nat_le 0x21 b && nat_le b 0x7e

-- the id that names nothing
abbrev pub zero_id : List ℕ
zero_id = 0 ∷ 0 ∷ 0 ∷ 0 ∷ []

-- a name of at most four letters, filled with zero bytes
abbrev pub filled : List ℕ → List ℕ
filled name = name ++ drop (length name) zero_id

-- the id of a name, or the first fault
abbrev pub id_of : List ℕ → Result (List ℕ) IdFault
id_of name =
    if length name == 0 then Err Empty
    else if nat_lt 4 (length name) then Err Long
    else if list_all is_visible name then Ok (filled name)
    else Err NotAscii
