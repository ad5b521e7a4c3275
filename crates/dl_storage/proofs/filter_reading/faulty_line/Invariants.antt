use Rattle.std.proofs.Common.{◌≡◌, ◌+◌, ◌≤◌, ℕ, List, length}
use Rattle.std.specs.List.{filter_map}
use Rattle.dl_text.specs.Faults.{first_fault, first_fault_behind}
use Rattle.dl_text.specs.Lines.{lines_of}
use Rattle.dl_storage.specs.FilterWhole.{fault_in, name_in}
use Rattle.dl_storage.specs.FiltersHeld.{names_held}
use Rattle.dl_storage.proofs.filter_reading.faulty_line.Given as goal

-- the names are those of the lines so far, and the lines that are left are at fault as all lines are, behind them
abbrev pub invariant-loop-line : goal.invariant-loop-line
invariant-loop-line l = record {
  fault : (before : List (List ℕ)) × (length before ≡ l.number) × (names_held l.names.items ≡ filter_map name_in before)
      × (first_fault_behind fault_in before l.line-iterator ≡ first_fault fault_in (lines_of l.fn.text));
  room : l.number + length l.line-iterator ≤ length l.fn.text;
}
