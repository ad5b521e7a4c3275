use Rattle.std.proofs.Common.{ap, sym, ◌∙◌}
use Rattle.dl_core.specs.State.{Core}
use Rattle.dl_world_calls.proofs.Acts.{on_ok}
use Rattle.dl_script_model.specs.Steps.{take_log}
use Rattle.dl_world.specs.Follows.{Does}
use Rattle.dl_core.proofs.LeftFiles.{leaves_alone}
use Rattle.dl_world.proofs.Drains.{logs_with_take, logs_alone}
use Rattle.dl_world.proofs.world.World.log.Goals as goal

pub returns-in_err-whole_call-clause-leaves : goal.returns-in_err-whole_call-clause-leaves
returns-in_err-whole_call-clause-leaves g c = leaves_alone _ _ _ (ap (λ (k : Core). k.trace) c.whole_call.ensures.core)

pub returns-in-None-clause-does : goal.returns-in-None-clause-does
returns-in-None-clause-does g c = logs_alone c.args.call.now c.args.self.now c.whole_call.new.self _ c.in_ok-whole_call.ensures.does (sym c.owner.ensures ∙ c.in-None.is)

pub returns-in-None-clause-leaves : goal.returns-in-None-clause-leaves
returns-in-None-clause-leaves g c = leaves_alone _ _ _ (ap (λ (k : Core). k.trace) c.whole_call.ensures.core)

pub returns-in-Some-clause-does : goal.returns-in-Some-clause-does
returns-in-Some-clause-does g c =
    let made = λ (takes : Does (λ setting answers. take_log setting c.in-Some.app) c.whole_call.new.self c.take_log.new.self
    (g.F.Folder.told c.args.folder.now) (g.F.Folder.told c.take_log.new.folder)).
    logs_with_take c.args.call.now c.args.self.now c.whole_call.new.self c.take_log.new.self _ _ c.in-Some.app c.in_ok-whole_call.ensures.does (sym c.owner.ensures ∙ c.in-Some.is) takes in
    on_ok c.take_log.result _ _ made c.take_log.ensures.does
