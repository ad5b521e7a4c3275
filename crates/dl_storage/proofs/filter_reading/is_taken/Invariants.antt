use Rattle.std.proofs.Common.{◌≡◌, drop}
use Rattle.std.specs.List.{list_any}
use Rattle.std.specs.Str.{bytes_eq}
use Rattle.dl_storage.specs.FiltersHeld.{names_held}
use Rattle.dl_storage.proofs.filter_reading.is_taken.Given as goal

-- the names that are left have it where all have it
abbrev pub invariant-loop-other : goal.invariant-loop-other
invariant-loop-other l = list_any (λ other. bytes_eq other l.name) (names_held (drop l.other-index l.names)) ≡ list_any (λ other. bytes_eq other l.name) (names_held l.names)
