use Rattle.dl_world.proofs.ClaimLines.{announces_one}
use Rattle.dl_world.proofs.world.World.announce.Goals as goal

pub returns-clause-does : goal.returns-clause-does
returns-clause-does c = announces_one c.args.writer c.args.self.now c.finish.new.self c.announce.new.self c.in_ok-finish.ensures c.in_ok-_went.ensures.does
