use Rattle.dl_script_model.specs.Steps.{count}
use Rattle.dl_world_calls.specs.Follows as calls
use Rattle.dl_world_calls.proofs.Acts.{on_ok}
use Rattle.dl_world.proofs.CallSteps.{count_steps, steps_doing}
use Rattle.dl_world.proofs.world.World.count.Goals as goal

pub returns-clause-does : goal.returns-clause-does
returns-clause-does c =
    let made = λ (does : calls.Does (count c.args.writer) c.args.self.now.calls c.count.new.self). steps_doing (count c.args.writer) c.args.self.now c.count.new.self (count_steps c.args.writer) does in
    on_ok c.count.result _ _ made c.count.ensures
