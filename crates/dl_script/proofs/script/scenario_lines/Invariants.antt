use Rattle.std.proofs.Common.{◌≡◌, ◌+◌, ◌≤◌, length}
use Rattle.dl_script.specs.Earlier.{nothing}
use Rattle.dl_text.specs.Lines.{lines_of}
use Rattle.dl_script.specs.Line.{scenario_line_of}
use Rattle.dl_script.specs.Script.{entries}
use Rattle.dl_script.proofs.Entries.{all_before}
use Rattle.dl_script.proofs.script.scenario_lines.Given as goal

-- what was read, with what is left to read, is what all lines say
abbrev pub invariant-loop-line : goal.invariant-loop-line
invariant-loop-line l = record {
  told : all_before l.scenario.items (entries scenario_line_of l.known (l.place + 1) l.line-iterator) ≡ entries scenario_line_of nothing 1 (lines_of l.fn.text);
  lines : l.place + length l.line-iterator ≤ 16777216;
}
