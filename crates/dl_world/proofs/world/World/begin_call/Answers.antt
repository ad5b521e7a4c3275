use Rattle.dl_world_calls.proofs.Acts.{on_ok}
use Rattle.dl_world.specs.Follows.{Loads}
use Rattle.dl_world.proofs.CallSteps.{begins_call}
use Rattle.dl_world.proofs.world.World.begin_call.Goals as goal

pub returns-clause-does : goal.returns-clause-does
returns-clause-does c =
    let old = c.args.self.now in
    let made = λ (loads : Loads c.args.call.now (record old { calls = c.finish.new.self }) c.load.new.self).
    begins_call c.args.call.now old c.finish.new.self c.load.new.self c.in_ok-finish.ensures c.load.ensures.core loads in
    on_ok c.load.result _ _ made c.load.ensures.loads
