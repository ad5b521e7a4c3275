-- What the code holds of a line, and of the lines so far. (Of the code alone: no promise rests on these words.)
use Rattle.std.specs.Borrow.{Bor}
use Rattle.std.specs.Prelude.{◌≡◌, ℕ, true, List, Option, Some, None, map, Result, Ok, Err}
use Rattle.dl_startup.specs.declared.storage_kind.StorageKind.{StorageKind}
use Rattle.dl_storage.specs.FilterCutting.{Parts}
use Rattle.dl_storage.specs.FilterLine.{Wanted, are_sizes, is_name}
use Rattle.dl_storage.specs.declared.filter_parts.LineParts.{LineParts}
use Rattle.dl_storage.specs.declared.line_filter.LineFilter.{LineFilter}

-- the fields of a line
abbrev pub parts_held : LineParts → Parts
parts_held parts = record {
  name = parts.name.now;
  apid = parts.apid.now;
  ctid = parts.ctid.now;
  severity = parts.severity.now;
  size = parts.size.now;
  max = parts.max.now;
}

-- what a line wants
abbrev pub held_in : LineFilter → Wanted
held_in filter = record {
  name = filter.name.now;
  apid = filter.apid;
  ctid = filter.ctid;
  severity = filter.severity;
  size = filter.size;
  max = filter.max;
}

-- its name and its sizes are of the form
abbrev pub IsWell : LineFilter → Type 0
IsWell filter = (is_name filter.name.now ≡ true) × (are_sizes filter.size filter.max ≡ true)

-- names of filters so far
abbrev pub names_held : List (Bor (List ℕ)) → List (List ℕ)
names_held names = map (λ (name : Bor (List ℕ)). name.now) names

-- a fault, or none
abbrev pub refused_by : Option StorageKind → Result (Unit {0}) StorageKind
refused_by None = Ok tt
refused_by (Some kind) = Err kind
