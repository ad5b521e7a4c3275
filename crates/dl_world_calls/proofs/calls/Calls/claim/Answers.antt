use Rattle.std.proofs.Common.{arith}
use Rattle.dl_world_calls.proofs.Acts.{can_claim, can_here, app_of_claimer, place_left, claim-does}
use Rattle.dl_world_calls.proofs.calls.Calls.claim.Goals as goal

pub overflow_sub-number : goal.overflow_sub-number
overflow_sub-number c = let some = (can_claim c.args.self.now c.args.asked.now.writer c.requires.room).some in omega (arith, some)

pub index-requires : goal.index-requires
index-requires c = let at = (can_here c.self.inside.apps.items c.self.inside.writers.items c.args.self.now c.self.view_is c.args.asked.now.writer c.requires.room).below in omega (arith, at, c.self.inside.writers.ok.0)

pub index-requires-2 : goal.index-requires-2
index-requires-2 c =
    let at = app_of_claimer c.self.inside.apps.items c.self.inside.writers.items c.args.self.now c.self.view_is c.args.asked.now.writer c.requires.room c.index.result.now c.app-app.result c.index.ensures c.app-app.ensures in
    omega (arith, at, c.self.inside.apps.ok.0)

pub of-claim-requires-clause-place : goal.of-claim-requires-clause-place
of-claim-requires-clause-place c =
    let room = place_left c.self.inside.apps.items c.self.inside.writers.items c.args.self.now c.self.view_is c.args.asked.now.writer c.requires.room c.index.result.now c.app-app.result c.index-2.result.now c.index.ensures c.app-app.ensures c.index-2.ensures in
    omega (arith, room, c.next_place-place.ensures.value)

pub index_mut-requires : goal.index_mut-requires
index_mut-requires c = let at = (can_here c.self.inside.apps.items c.self.inside.writers.items c.args.self.now c.self.view_is c.args.asked.now.writer c.requires.room).below in omega (arith, at, c.self.inside.writers.ok.0)

pub index_mut-requires-2 : goal.index_mut-requires-2
index_mut-requires-2 c =
    let at = app_of_claimer c.self.inside.apps.items c.self.inside.writers.items c.args.self.now c.self.view_is c.args.asked.now.writer c.requires.room c.index.result.now c.app-app.result c.index.ensures c.app-app.ensures in
    omega (arith, at, c.self.inside.apps.ok.0)

pub claim_place-requires : goal.claim_place-requires
claim_place-requires c = place_left c.self.inside.apps.items c.self.inside.writers.items c.args.self.now c.self.view_is c.args.asked.now.writer c.requires.room c.index.result.now c.app-app.result c.index_mut-2.result.now c.index.ensures c.app-app.ensures c.index_mut-2.ensures.value

pub returns : goal.returns
returns c =
    claim-does c.self.inside.apps.items c.self.inside.writers.items c.args.self.now c.self.view_is c.args.asked.now (can_here c.self.inside.apps.items c.self.inside.writers.items c.args.self.now c.self.view_is c.args.asked.now.writer c.requires.room)
    c.index.result.now c.index_mut.result.now c.add_claim.new.self c.app-app.result c.next_place-place.result c.index-2.result.now c.index_mut-2.result.now c.claim_place.new.self c.of-claim.result
    c.index.ensures c.app-app.ensures c.index-2.ensures c.next_place-place.ensures.value (rw c.copy-text.ensures at c.of-claim.ensures) c.index_mut.ensures.value c.in_ok-add_claim.ensures.made c.index_mut-2.ensures.value c.claim_place.ensures
