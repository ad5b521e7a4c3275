use Rattle.std.proofs.Common.{◌≡◌, ◌≤◌, map}
use Rattle.std.specs.Prelude.{vec_capacity}
use Rattle.std.specs.List.{range_with_len}
use Rattle.dl_settling.specs.Ends.{end_in}
use Rattle.dl_settling.proofs.ends.push_ends.Given as goal

-- the ends of the first links
abbrev pub invariant-loop-done : goal.invariant-loop-done
invariant-loop-done l = record {
  made : l.ends.items ≡ map (end_in l.hub) (range_with_len 1 l.done);
  room : 32 ≤ vec_capacity l.ends;
}
