use Rattle.dl_world.proofs.OneMark.{sets_clock}
use Rattle.dl_world.proofs.world.World.set_clock.Goals as goal

pub returns-clause-does : goal.returns-clause-does
returns-clause-does c = sets_clock c.args.self.now c.args.secs c.args.micros _
