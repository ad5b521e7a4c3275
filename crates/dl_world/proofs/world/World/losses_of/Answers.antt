use Rattle.std.proofs.Common.{refl, sym}
use Rattle.dl_script_model.specs.Steps.{take_losses}
use Rattle.dl_world_calls.proofs.Acts.{on_ok}
use Rattle.dl_core.proofs.LeftFiles.{leaves_alone}
use Rattle.dl_world.proofs.Named.{does_on_app, does_on_nobody}
use Rattle.dl_world.proofs.world.World.losses_of.Goals as goal

pub returns-in-Some-clause-does : goal.returns-in-Some-clause-does
returns-in-Some-clause-does g c =
    on_ok c.take_losses.result _ _ (does_on_app c.args.apid take_losses c.in-Some.app c.args.self.now c.take_losses.new.self _ _ (sym c.in-Some.ensures.number)) c.take_losses.ensures.does

pub returns-in-None-clause-does : goal.returns-in-None-clause-does
returns-in-None-clause-does g c = does_on_nobody c.args.apid take_losses c.args.self.now _ (sym c.in-None.ensures.number)

pub returns-in-None-clause-leaves : goal.returns-in-None-clause-leaves
returns-in-None-clause-leaves g c = leaves_alone c.args.self.now.core c.args.self.now.core _ refl
