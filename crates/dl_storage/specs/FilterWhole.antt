-- What `dlt_storage.cfg` says as a whole.
use Rattle.std.specs.Prelude.{◌≡◌, ℕ, nat_le, nat_lt, List, length, map, option_map, Option, Some, None, Result, Ok, Err, IsOk, if◌then◌else◌}
use Rattle.std.specs.List.{filter_map, list_any}
use Rattle.std.specs.Str.{bytes_eq}
use Rattle.dl_text.specs.Faults.{size_limit, first_fault}
use Rattle.dl_conf.specs.Conf.{conf_lines, unless_fault}
use Rattle.dl_startup.specs.declared.storage_kind.StorageKind.{StorageKind}
use Rattle.dl_startup.specs.declared.storage_kind.StorageKind.TheVariants as wrong
use Rattle.dl_storage.specs.FilterLine.{Wanted, line_said}
use Rattle.dl_storage.specs.declared.filter_whole.StorageError.{StorageError}
use Rattle.dl_storage.specs.declared.filter_whole.StorageError.TheVariants.{Fault, OutOfMemory}
use Rattle.dl_storage.specs.declared.filter.Filter.{Filter}

-- the most filters
abbrev pub filter_limit : ℕ
filter_limit = 16

abbrev pub said_by : Result (Option Wanted) StorageKind → Option Wanted
said_by (Ok said) = said
said_by (Err kind) = None

-- the filter that a line says, where it says one
abbrev pub wanted_in : List ℕ → Option Wanted
wanted_in line = said_by (line_said line)

-- the name of a line's filter, where it says one
abbrev pub name_in : List ℕ → Option (List ℕ)
name_in line = option_map (λ (wanted : Wanted). wanted.name) (wanted_in line)

-- what is wrong with a line that says this, behind filters of these names: one has its name, or there are 16
abbrev pub fault_by : (names : List (List ℕ)) → Result (Option Wanted) StorageKind → Option StorageKind
fault_by names (Err kind) = Some kind
fault_by names (Ok None) = None
fault_by names (Ok (Some wanted)) =
    if list_any (λ name. bytes_eq name wanted.name) names then Some wrong.Twice
    else if nat_le filter_limit (length names) then Some wrong.TooMany
    else None

-- what is wrong with a line behind others
abbrev pub fault_in : (before : List (List ℕ)) → List ℕ → Option StorageKind
fault_in before line = fault_by (filter_map name_in before) (line_said line)

-- the filters that a text says, in order, or its first fault: that of the whole text, or of its first line at fault
abbrev pub storage_said : List ℕ → Result (List Wanted) (ℕ × StorageKind)
storage_said text =
    if nat_lt size_limit (length text) then Err (0, wrong.Size)
    else unless_fault (first_fault fault_in (conf_lines text)) (Ok (filter_map wanted_in (conf_lines text)))

-- ---- what the code holds of it

-- what a filter wants
abbrev pub wanted_of : Filter → Wanted
wanted_of filter = record {
  name = filter.name;
  apid = filter.apid;
  ctid = filter.ctid;
  severity = filter.severity;
  size = filter.size;
  max = filter.max;
}

abbrev pub IsAnswer : Result (List Wanted) (ℕ × StorageKind) → Result (List Filter) StorageError → Type 0
IsAnswer said (Ok filters) = said ≡ Ok (map wanted_of filters)
IsAnswer said (Err (Fault line kind)) = said ≡ Err (line, kind)
IsAnswer said (Err OutOfMemory) = IsOk said

-- The filters that a text says, or its first fault. Memory is wanted only for a text without fault.
abbrev pub ReadsStorage : List ℕ → Result (List Filter) StorageError → Type 0
ReadsStorage text result = IsAnswer (storage_said text) result
