use Rattle.std.proofs.Common.{◌≡◌, ◌+◌, ◌≤◌, ℕ, List, length, count_by}
use Rattle.dl_text.specs.Faults.{first_fault, first_fault_behind}
use Rattle.dl_text.specs.Lines.{lines_of}
use Rattle.dl_conf.specs.Stored.{fault_in, is_own}
use Rattle.dl_conf.proofs.stored.faulty_line.Given as goal

-- the lines that are left are at fault as all lines are, behind those so far
abbrev pub invariant-loop-line : goal.invariant-loop-line
invariant-loop-line l = record {
  fault : (before : List (List ℕ)) × (length before ≡ l.number) × (count_by is_own before ≡ l.entries)
      × (first_fault_behind fault_in before l.line-iterator ≡ first_fault fault_in (lines_of l.fn.text));
  room : l.number + length l.line-iterator ≤ length l.fn.text;
}
