use Rattle.std.proofs.Common.{◌≡◌, ◌-◌, ◌≤◌, vec_len}
use Rattle.dl_startup.specs.Input.{HasRead}
use Rattle.dl_text.specs.Faults.{size_limit}
use Rattle.dl_startup.proofs.input.read_text.Given as goal

abbrev pub invariant-loop-n : goal.invariant-loop-n
invariant-loop-n g l = record {
  read : HasRead (g.I.Source.told l.fn.input).left (g.I.Source.told l.input).left l.text.items;
  small : vec_len l.text ≤ size_limit;
  well : (g.I.Source.told l.input).faults ≡ (g.I.Source.told l.fn.input).faults;
}

abbrev pub decreases-loop-n : goal.decreases-loop-n
decreases-loop-n g l = 16777217 - vec_len l.text
