use Rattle.std.proofs.Common.{◌≡◌, ◌≤◌, length}
use Rattle.dl_text.specs.Lines.{without_blanks_behind}
use Rattle.dl_text.proofs.line.without_end.Given as goal

-- what is left ends as the whole does
abbrev pub invariant-loop-rest : goal.invariant-loop-rest
invariant-loop-rest l = record {
  same : without_blanks_behind l.rest ≡ without_blanks_behind l.fn.text;
  within : length l.rest ≤ length l.fn.text;
}

abbrev pub decreases-loop-rest : goal.decreases-loop-rest
decreases-loop-rest l = length l.rest
