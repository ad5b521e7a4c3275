use Rattle.dl_world_calls.proofs.Acts.{on_ok}
use Rattle.dl_world.proofs.HandingOut.{hands_later, hands_now}
use Rattle.dl_world.proofs.world.World.note_levels_now.Goals as goal

pub returns-then-self-clause-does : goal.returns-then-self-clause-does
returns-then-self-clause-does c = hands_later c.args.self.now c.if-self.true

pub returns-clause-does : goal.returns-clause-does
returns-clause-does c = on_ok c.note_levels.result _ _ (hands_now c.args.self.now c.note_levels.new.self c.if-self.false) c.note_levels.ensures.does
