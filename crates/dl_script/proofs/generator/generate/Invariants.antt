use Rattle.std.proofs.Common.{◌≡◌, ◌+◌, ◌-◌, ◌++◌}
use Rattle.dl_script.specs.Generated.{turns, generated}
use Rattle.dl_script.proofs.generator.generate.Given as goal

-- the steps so far, with those of the calls that are left, are all
abbrev pub invariant-loop-i : goal.invariant-loop-i
invariant-loop-i l = l.steps.items ++ turns (l.calls - l.i) (l.i + 1) l.draws.word ≡ generated l.number l.calls
