use Rattle.dl_script_model.specs.Steps.{begin_call, finish}
use Rattle.dl_world_calls.proofs.Acts.{on_ok}
use Rattle.dl_world.specs.Follows.{Doing}
use Rattle.dl_world.proofs.Composing.{doing_two}
use Rattle.dl_world.proofs.world.World.whole_call.Goals as goal

pub returns-clause-does : goal.returns-clause-does
returns-clause-does c =
    let call = c.args.call.now in
    let made = λ (second : Doing (λ setting. finish call.writer) c.begin_call.new.self c.finish.new.self).
    doing_two (λ setting. begin_call setting call) (λ setting. finish call.writer) c.args.self.now c.begin_call.new.self c.finish.new.self c.in_ok-begin_call.ensures.does second in
    on_ok c.finish.result _ _ made c.finish.ensures.does
