use Rattle.dl_script_model.specs.Steps.{push}
use Rattle.dl_world_calls.specs.Follows as calls
use Rattle.dl_world_calls.proofs.Acts.{on_ok}
use Rattle.dl_world.proofs.CallSteps.{push_steps, steps_doing}
use Rattle.dl_world.proofs.world.World.push.Goals as goal

pub returns-clause-does : goal.returns-clause-does
returns-clause-does c =
    let made = λ (does : calls.Does (push c.args.writer) c.args.self.now.calls c.push.new.self). steps_doing (push c.args.writer) c.args.self.now c.push.new.self (push_steps c.args.writer) does in
    on_ok c.push.result _ _ made c.push.ensures
