use Rattle.dl_script_model.specs.Steps.{announce_all}
use Rattle.dl_world_calls.specs.Follows as calls
use Rattle.dl_world_calls.proofs.Acts.{on_ok}
use Rattle.dl_world.proofs.ClaimLines.{registers}
use Rattle.dl_world.proofs.world.World.register.Goals as goal

pub returns-clause-does : goal.returns-clause-does
returns-clause-does c =
    let asked = c.args.asked.now in
    let made = λ (does : calls.Does (announce_all asked.writer) c.claim.new.self.calls c.announce_all.new.self).
    registers asked c.args.self.now c.claim.new.self c.announce_all.new.self c.in_ok-claim.ensures.does does in
    on_ok c.announce_all.result _ _ made c.announce_all.ensures
