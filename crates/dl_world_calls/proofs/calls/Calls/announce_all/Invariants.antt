use Rattle.std.proofs.Common.{◌-◌}
use Rattle.dl_script_model.specs.Steps.{announce_upto}
use Rattle.dl_world_calls.specs.State.{Calls}
use Rattle.dl_world_calls.specs.Follows.{Does}
use Rattle.dl_world_calls.proofs.calls.Calls.announce_all.Given as goal

-- who announces what is left, has announced all
abbrev pub invariant-loop-claim : goal.invariant-loop-claim
invariant-loop-claim l = (end : Calls) → Does (announce_upto (l.waiting - l._claim) l.writer) l.self end → Does (announce_upto l.waiting l.writer) l.fn.self end
