use Rattle.dl_script_model.specs.Steps.{count}
use Rattle.dl_world_calls.specs.Follows.{Does}
use Rattle.dl_world_calls.proofs.Acts.{on_ok, finish-does}
use Rattle.dl_world_calls.proofs.calls.Calls.finish.Goals as goal

pub returns : goal.returns
returns c =
    let made = λ (second : Does (count c.args.writer) c.push.new.self c.count.new.self). finish-does c.args.writer c.args.self.now c.push.new.self c.count.new.self c.in_ok-push.ensures second in
    on_ok c.count.result _ _ made c.count.ensures
