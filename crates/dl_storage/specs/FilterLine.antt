-- What a line of `dlt_storage.cfg` says: which messages a filter stores, and how large its files may be.
use Rattle.std.specs.Prelude.{ℕ, ◌*◌, Bool, true, ◌==◌, ◌&&◌, ◌||◌, nat_le, nat_lt, List, [], ◌∷◌, length, codes, Option, Some, None, Result, Ok, Err, if◌then◌else◌}
use Rattle.std.specs.List.{list_all}
use Rattle.std.specs.Option.{ok_or}
use Rattle.std.specs.Str.{bytes_eq}
use Rattle.dl_bytes.specs.Id.{id_of}
use Rattle.dl_bytes.specs.declared.id.IdFault.{IdFault}
use Rattle.dl_bytes.specs.declared.level.Severity.{Severity}
use Rattle.dl_text.specs.Decimal.{number_of}
use Rattle.dl_text.specs.Lines.{trimmed}
use Rattle.dl_conf.specs.Setting.{map_ok}
use Rattle.dl_script_fields.specs.Value.{severity_of}
use Rattle.dl_startup.specs.declared.storage_kind.StorageKind.{StorageKind}
use Rattle.dl_startup.specs.declared.storage_kind.StorageKind.TheVariants as wrong
use Rattle.dl_storage.specs.FilterCutting.{Parts, parts_of}

-- What a filter wants: the messages of an application and of a context, or of all where it names none, whose severity is
-- none less grave than this. Its files have this name, and at most so many bytes each and together.
pub record Wanted : Type 0 where
  pub name : List ℕ
  pub apid : Option (List ℕ)
  pub ctid : Option (List ℕ)
  pub severity : Severity
  pub size : ℕ
  pub max : ℕ

-- one field after another, as far as none is at fault
infixl 10 ◌>>=◌
abbrev pub ◌>>=◌ : {A B : Type 0} → Result A StorageKind → (A → Result B StorageKind) → Result B StorageKind
(Ok x) >>= f = f x
(Err kind) >>= f = Err kind

-- ---- fields

-- a letter, a digit or `_`
abbrev pub is_name_letter : ℕ → Bool
is_name_letter b = (nat_le 48 b && nat_le b 57) || (nat_le 65 b && nat_le b 90) || (nat_le 97 b && nat_le b 122) || (b == 95)

-- a filter's name: 1 to 16 of them
abbrev pub is_name : List ℕ → Bool
is_name field = nat_le 1 (length field) && nat_le (length field) 16 && list_all is_name_letter field

abbrev pub name_said : List ℕ → Result (List ℕ) StorageKind
name_said field = if is_name field then Ok field else Err wrong.Name

abbrev pub one_id : Result (List ℕ) IdFault → Result (Option (List ℕ)) StorageKind
one_id (Ok id) = Ok (Some id)
one_id (Err fault) = Err wrong.Id

-- an id, or none, which stands for all, where the field is `*` alone
abbrev pub id_said : List ℕ → Result (Option (List ℕ)) StorageKind
id_said field = if bytes_eq field (codes "*") then Ok None else one_id (id_of field)

-- a severity by its word
abbrev pub severity_said : List ℕ → Result Severity StorageKind
severity_said field = ok_or (severity_of field) wrong.Level

-- a number of 1 to 10 decimal digits
abbrev pub digits_said : List ℕ → Result ℕ StorageKind
digits_said field = ok_or (if nat_lt 10 (length field) then None else number_of field) wrong.Number

-- the bytes of one file and of all files of a filter: at least two files of the size have room
abbrev pub are_sizes : (size max : ℕ) → Bool
are_sizes size max = nat_le 2000 size && nat_le size 100000000 && nat_le (2 * size) max && nat_le max 1000000000

-- ---- lines

-- what the fields say, or the first fault of them: the sizes are looked at last
unfoldable pub parts_said : Parts → Result Wanted StorageKind
parts_said parts = do
  name ← name_said parts.name
  apid ← id_said parts.apid
  ctid ← id_said parts.ctid
  severity ← severity_said parts.severity
  size ← digits_said parts.size
  max ← digits_said parts.max
  if are_sizes size max then Ok (record { name = name; apid = apid; ctid = ctid; severity = severity; size = size; max = max }) else Err wrong.Sizes

-- the filter that a line says, `NAME APID CTID SEV SIZE MAX`
abbrev pub filter_said : List ℕ → Result Wanted StorageKind
filter_said text = ok_or (parts_of text) wrong.Fields >>= parts_said

-- an empty line and a comment, which begins with `#`, say nothing
abbrev pub is_passed_over : List ℕ → Bool
is_passed_over [] = true
is_passed_over (b ∷ text) = b == 35

-- what a line says, without the blanks at its ends: a filter, or nothing
abbrev pub line_said : List ℕ → Result (Option Wanted) StorageKind
line_said line = if is_passed_over (trimmed line) then Ok None else map_ok Some (filter_said (trimmed line))
