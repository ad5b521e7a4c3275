use Rattle.std.proofs.Common.{List, ◌∙◌, refl, ap, arith}
use Rattle.dl_lemmas.proofs.Options.{some_is}
use Rattle.dl_bytes.specs.declared.outcome.Done.TheVariants as did
use Rattle.dl_script_model.specs.Marks.{Mark}
use Rattle.dl_world_calls.proofs.Acts.{on_ok}
use Rattle.dl_core.specs.Follows.{Run}
use Rattle.dl_core.specs.State.{Core}
use Rattle.dl_core.proofs.LeftFiles.{leaves_alone}
use Rattle.dl_world.specs.Follows.{IsAfter, IsBefore}
use Rattle.dl_world.specs.declared.world.World.{World}
use Rattle.dl_core.proofs.AskedFiles.{request_leaves}
use Rattle.dl_world.proofs.Served.{does_request, has_served, room_for, wanted_by}
use Rattle.dl_world.proofs.world.World.serve.Goals as goal

pub returns-in_err-need-clause-leaves : goal.returns-in_err-need-clause-leaves
returns-in_err-need-clause-leaves g c = leaves_alone c.args.self.now.core c.args.self.now.core _ refl

pub returns-then-room-need-clause-leaves : goal.returns-then-room-need-clause-leaves
returns-then-room-need-clause-leaves g c = leaves_alone c.args.self.now.core c.args.self.now.core _ refl

pub returns-in_err-ready-clause-leaves : goal.returns-in_err-ready-clause-leaves
returns-in_err-ready-clause-leaves g c = leaves_alone c.args.self.now.core c.prepare.new.self _ (ap (λ (core : Core). core.trace) c.prepare.ensures.unchanged)

pub request-requires-clause-spare : goal.request-requires-clause-spare
request-requires-clause-spare g c = omega (arith, c.in_ok-ready.ensures.reserved did.Yes)

pub request-requires-clause-room : goal.request-requires-clause-room
request-requires-clause-room g c answer =
    room_for c.args.self.now.core c.prepare.new.self c.args.client c.args.frame c.all.result.now c.in_ok-ready.ready c.hub.result.now c.room.result c.in_ok-need.need answer
    c.prepare.ensures.unchanged c.in_ok-ready.ensures.client.0 c.in_ok-ready.ensures.client.1 c.all.ensures c.hub.ensures c.room.ensures.value (omega (arith, c.if-room-need.false)) (c.in_ok-need.ensures.size answer)

pub returns-clause-does : goal.returns-clause-does
returns-clause-does g c =
    let old : World = c.args.self.now in
    let mid : World = record old { core = c.request.new.self; injections = c.push_injection-pushed.new.injections; journal = c.request.new.journal } in
    let new : World = c.deliver.new.self in
    let told = (g.F.Folder.told c.args.folder.now) in
    let told_now = (g.F.Folder.told c.request.new.folder) in
    let ready = c.in_ok-ready.ready in
    let pushed = c.push_injection-pushed.result in
    let serves = c.request.ensures.served in
    let is_ready = c.in_ok-ready.ensures.ready in
    let names = c.in_ok-ready.ensures.client in
    on_ok c.deliver.result _ _
    (λ (takes : (run : Run) (done : List Mark) → IsBefore run done mid → IsAfter run done new).
    does_request c.args.client c.args.frame serves.answer old mid new told told_now
    (has_served c.args.client c.args.frame ready pushed old mid new c.prepare.new.self told told_now c.prepare.new.journal.events serves c.prepare.ensures.unchanged names.0 names.1
    (some_is c.prepare.ensures.events) (ap (λ (core : Core). core.trace) c.request.ensures.rest) refl refl refl refl refl takes c.deliver.ensures.trace)
    ready.want pushed (wanted_by c.args.frame ready old is_ready names.1) serves.acts c.push_injection-pushed.ensures)
    c.deliver.ensures.takes

pub returns-clause-leaves : goal.returns-clause-leaves
returns-clause-leaves g c =
    let told = (g.F.Folder.told c.args.folder.now) in
    let told_now = (g.F.Folder.told c.request.new.folder) in
    let serves = c.request.ensures.served in
    request_leaves c.in_ok-ready.ready.want c.push_injection-pushed.result serves.answer c.args.self.now.core c.deliver.new.self.core told told_now serves.acts
    (c.deliver.ensures.trace ∙ ap (λ (core : Core). core.trace) c.request.ensures.rest ∙ ap (λ (core : Core). core.trace) c.prepare.ensures.unchanged)
