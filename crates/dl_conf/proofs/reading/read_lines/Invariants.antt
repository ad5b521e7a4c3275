use Rattle.std.proofs.Common.{◌≡◌, ◌+◌, ◌≤◌, ℕ, List, length}
use Rattle.std.specs.List.{filter_map, enumerate_from}
use Rattle.dl_text.specs.Faults.{first_fault, first_fault_behind}
use Rattle.dl_text.specs.Lines.{lines_of}
use Rattle.dl_conf.specs.Conf.{set_to, setting_in, fault_in, size_line, values_said, last_after, last_size_line}
use Rattle.dl_conf.specs.Outcome.{drafted}
use Rattle.dl_conf.proofs.reading.read_lines.Given as goal

-- the lines that are left say what all lines say, after what was set so far
abbrev pub invariant-loop-line : goal.invariant-loop-line
invariant-loop-line l = record {
  fault : (before : List (List ℕ)) × (length before ≡ l.number) × (first_fault_behind fault_in before l.line-iterator ≡ first_fault fault_in (lines_of l.fn.text));
  values : set_to (drafted l.draft) (filter_map setting_in l.line-iterator) ≡ values_said (lines_of l.fn.text);
  sizes : last_after l.draft.sizes_line (filter_map size_line (enumerate_from (l.number + 1) l.line-iterator)) ≡ last_size_line (lines_of l.fn.text);
  room : l.number + length l.line-iterator ≤ length l.fn.text;
}
