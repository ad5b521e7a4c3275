use Rattle.std.proofs.Common.{sym}
use Rattle.dl_script_model.specs.Steps.{take_injection}
use Rattle.dl_world.proofs.Named.{does_injection, does_on_nobody}
use Rattle.dl_world.proofs.world.World.injection_of.Goals as goal

pub returns-in-Some-clause-does : goal.returns-in-Some-clause-does
returns-in-Some-clause-does c =
    does_injection c.args.apid c.in-Some.app c.args.self.now c.take_injection.new.self (sym c.in-Some.ensures.number) c.in-Some.ensures.range c.take_injection.ensures.core c.take_injection.ensures.does

pub returns-in_default-clause-does : goal.returns-in_default-clause-does
returns-in_default-clause-does c told = does_on_nobody c.args.apid (λ setting. take_injection) c.args.self.now told (sym c.in_default.ensures.number)
