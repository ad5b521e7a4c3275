use Rattle.dl_script_model.specs.Steps.{claim}
use Rattle.dl_world_calls.specs.Follows as calls
use Rattle.dl_world_calls.proofs.Acts.{on_ok}
use Rattle.dl_world.proofs.ClaimLines.{claims_one, has_room, place_left}
use Rattle.dl_world.proofs.world.World.claim.Goals as goal

pub claim-requires-clause-room : goal.claim-requires-clause-room
claim-requires-clause-room c =
    let writer = c.args.asked.now.writer in
    has_room writer c.finish.new.self (place_left writer c.args.self.now.calls c.finish.new.self c.requires.place c.in_ok-finish.ensures)

pub returns-clause-does : goal.returns-clause-does
returns-clause-does c =
    let asked = c.args.asked.now in
    let made = λ (does : calls.Does (claim asked) c.finish.new.self c.claim.new.self).
    claims_one asked c.args.self.now c.finish.new.self c.claim.new.self c.in_ok-finish.ensures does in
    on_ok c.claim.result _ _ made c.claim.ensures
