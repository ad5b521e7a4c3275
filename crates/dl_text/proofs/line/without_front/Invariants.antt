use Rattle.std.proofs.Common.{◌≡◌, ◌≤◌, length}
use Rattle.dl_text.specs.Lines.{without_blanks_before}
use Rattle.dl_text.proofs.line.without_front.Given as goal

-- what is left begins as the whole does
abbrev pub invariant-loop-rest : goal.invariant-loop-rest
invariant-loop-rest l = record {
  same : without_blanks_before l.rest ≡ without_blanks_before l.fn.text;
  within : length l.rest ≤ length l.fn.text;
}

abbrev pub decreases-loop-rest : goal.decreases-loop-rest
decreases-loop-rest l = length l.rest
