use Rattle.dl_script_model.specs.Steps.{finish}
use Rattle.dl_world_calls.specs.Follows as calls
use Rattle.dl_world_calls.proofs.Acts.{on_ok}
use Rattle.dl_world.proofs.CallSteps.{finish_steps, steps_doing}
use Rattle.dl_world.proofs.world.World.finish.Goals as goal

pub returns-clause-does : goal.returns-clause-does
returns-clause-does c =
    let made = λ (does : calls.Does (finish c.args.writer) c.args.self.now.calls c.finish.new.self). steps_doing (finish c.args.writer) c.args.self.now c.finish.new.self (finish_steps c.args.writer) does in
    on_ok c.finish.result _ _ made c.finish.ensures
