-- The stored configuration: levels that outlive a run, one line for each.
use Rattle.std.specs.Prelude.{◌≡◌, ℕ, ◌+◌, ◌-◌, Bool, true, not, ◌==◌, ◌&&◌, ◌||◌, nat_le, nat_lt, List, [], ◌∷◌, ◌++◌, length, count_by, is_some, Option, Some, None, Result, Ok, Err, IsOk, if◌then◌else◌}
use Rattle.std.specs.List.{filter_map, flat_map, last_or, list_any, list_all}
use Rattle.std.specs.Str.{bytes_eq}
use Rattle.dl_bytes.specs.Id.{zero_id}
use Rattle.dl_bytes.specs.Number.{◌>>=◌}
use Rattle.dl_bytes.specs.declared.conf.Stored.{Stored}
use Rattle.dl_bytes.specs.declared.conf.StoredLevel.{StoredLevel}
use Rattle.dl_text.specs.Faults.{size_limit, first_fault}
use Rattle.dl_text.specs.IdText.{id_text, id_of_text}
use Rattle.dl_text.specs.Lines.{lines_of, parted_at}
use Rattle.dl_conf.specs.Conf.{unless_fault}
use Rattle.dl_conf.specs.declared.stored.StoredError.{StoredError}
use Rattle.dl_conf.specs.declared.stored.StoredError.TheVariants.{Fault, OutOfMemory}
use Rattle.dl_conf.specs.declared.stored.StoredKind.{StoredKind}
use Rattle.dl_conf.specs.declared.stored.StoredKind.TheVariants.{Line, TooMany, Size}
use Rattle.dl_conf.specs.declared.entry.StoredLine.{StoredLine}
use Rattle.dl_conf.specs.declared.entry.StoredLine.TheVariants.{Nothing, Default, Own}

-- ---- written

-- a level's digit, and the end of the line
abbrev pub level_end : ℕ → List ℕ
level_end level = (48 + level) ∷ 10 ∷ []

-- the line of the default level: `::L`
abbrev pub default_line : ℕ → List ℕ
default_line level = 58 ∷ 58 ∷ level_end level

-- the line of a context's own level: `APID:CTID:L`
abbrev pub own_line : StoredLevel → List ℕ
own_line own = id_text own.apid ++ (58 ∷ (id_text own.ctid ++ (58 ∷ level_end own.level)))

-- the text of a default level and of own levels, in their order
abbrev pub stored_text : ℕ → List StoredLevel → List ℕ
stored_text level own = default_line level ++ flat_map own_line own

-- ---- read: a line

-- a level, one digit
abbrev pub level_digit : List ℕ → Option ℕ
level_digit [] = None
level_digit (digit ∷ []) = if nat_le 48 digit && nat_le digit 54 then Some (digit - 48) else None
level_digit (digit ∷ more ∷ text) = None

-- the level of a context by its ids, which are both there
abbrev pub own_said : List ℕ → List ℕ → ℕ → Option StoredLine
own_said apid ctid level =
    if (length apid == 0) || (length ctid == 0) then None else do
      apid ← id_of_text apid
      ctid ← id_of_text ctid
      Some (Own (record { apid = apid; ctid = ctid; level = level }))

-- the default level where neither id is there
abbrev pub level_said : List ℕ → List ℕ → ℕ → Option StoredLine
level_said apid ctid level =
    if (length apid == 0) && (length ctid == 0) then Some (Default level) else own_said apid ctid level

-- what a line says: nothing where it is empty; it isn't of the form where this is none
unfoldable pub line_said : List ℕ → Option StoredLine
line_said [] = Some Nothing
line_said (b ∷ text) = do
  apid ← parted_at 58 (b ∷ text)
  ctid ← parted_at 58 apid.1
  level ← level_digit ctid.1
  level_said apid.0 ctid.0 level

-- ---- read: the whole text

-- the most lines with ids
abbrev pub entry_limit : ℕ
entry_limit = 1024

abbrev pub default_of : StoredLine → Option ℕ
default_of (Default level) = Some level
default_of _ = None

abbrev pub own_of : StoredLine → Option StoredLevel
own_of (Own own) = Some own
own_of _ = None

-- the default level that a line says
abbrev pub default_in : List ℕ → Option ℕ
default_in line = line_said line >>= default_of

-- the own level that a line says
abbrev pub own_in : List ℕ → Option StoredLevel
own_in line = line_said line >>= own_of

abbrev pub is_own : List ℕ → Bool
is_own line = is_some (own_in line)

abbrev pub fault_by : (entries : ℕ) → Option StoredLine → Option StoredKind
fault_by entries None = Some Line
fault_by entries (Some Nothing) = None
fault_by entries (Some (Default level)) = None
fault_by entries (Some (Own own)) = if nat_lt entries entry_limit then None else Some TooMany

-- what is wrong with a line behind others: it isn't of the form, or it has ids and 1024 lines before it have some
abbrev pub fault_in : (before : List (List ℕ)) → List ℕ → Option StoredKind
fault_in before line = fault_by (count_by is_own before) (line_said line)

-- both are for the same context
abbrev pub same_ids : StoredLevel → StoredLevel → Bool
same_ids a b = bytes_eq a.apid b.apid && bytes_eq a.ctid b.ctid

-- the own levels that hold: of several for the same context the last
abbrev pub held : List StoredLevel → List StoredLevel
held [] = []
held (own ∷ later) = if list_any (same_ids own) later then held later else own ∷ held later

-- what lines of the form say
abbrev pub levels_said : List (List ℕ) → Stored
levels_said lines = record { level = last_or None (filter_map default_in lines); own = held (filter_map own_in lines) }

-- what a text says, or its first fault: that of the whole text, or of its first line at fault
abbrev pub stored_said : List ℕ → Result Stored (ℕ × StoredKind)
stored_said text =
    if nat_lt size_limit (length text) then Err (0, Size)
    else unless_fault (first_fault fault_in (lines_of text)) (Ok (levels_said (lines_of text)))

abbrev pub IsAnswer : Result Stored (ℕ × StoredKind) → Result Stored StoredError → Type 0
IsAnswer said (Ok stored) = said ≡ Ok stored
IsAnswer said (Err (Fault line kind)) = said ≡ Err (line, kind)
IsAnswer said (Err OutOfMemory) = IsOk said

-- What a text says, or its first fault. Memory is wanted only for a text without fault.
abbrev pub ReadsStored : List ℕ → Result Stored StoredError → Type 0
ReadsStored text result = IsAnswer (stored_said text) result

-- ---- what is written is read

-- four bytes
abbrev pub is_id : List ℕ → Bool
is_id id = (length id == 4) && list_all (λ b. nat_lt b 256) id

-- what can be stored: an id of four bytes, which aren't all zero, for application and context, and a level
abbrev pub is_storable : StoredLevel → Bool
is_storable own = is_id own.apid && is_id own.ctid && not (bytes_eq own.apid zero_id) && not (bytes_eq own.ctid zero_id) && nat_le own.level 6

-- no two are for the same context
abbrev pub are_different : List StoredLevel → Bool
are_different [] = true
are_different (own ∷ later) = not (list_any (same_ids own) later) && are_different later
