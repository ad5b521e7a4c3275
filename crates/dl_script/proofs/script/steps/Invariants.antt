use Rattle.std.proofs.Common.{◌≡◌, ◌+◌, ◌≤◌, length}
use Rattle.dl_script.specs.Earlier.{nothing}
use Rattle.dl_text.specs.Lines.{lines_of}
use Rattle.dl_script.specs.Line.{step_of}
use Rattle.dl_script.specs.Script.{entries}
use Rattle.dl_script.proofs.Entries.{all_before}
use Rattle.dl_script.proofs.script.steps.Given as goal

-- what was read, with what is left to read, is what all lines say
abbrev pub invariant-loop-line : goal.invariant-loop-line
invariant-loop-line l = record {
  told : all_before l.steps.items (entries step_of l.known (l.number + 1) l.line-iterator) ≡ entries step_of nothing 1 (lines_of l.fn.text);
  lines : l.number + length l.line-iterator ≤ 16777216;
}
