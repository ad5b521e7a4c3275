use Rattle.std.proofs.Common.{List, Option, refl, sym, ap, subst, arith}
use Rattle.dl_bytes.specs.declared.outcome.Done.TheVariants as did
use Rattle.dl_events.specs.declared.event.Event.{Event}
use Rattle.dl_hub.specs.State.{client_of}
use Rattle.dl_core.specs.Serving.{IsReady, Serves, reply_now, served_now}
use Rattle.dl_core.specs.State.{Core}
use Rattle.dl_core.specs.Waiting.{waiting}
use Rattle.dl_turns.proofs.DeskKept.{desk_served, injection_within}
use Rattle.dl_turns.proofs.LevelWords.{desk_as}
use Rattle.dl_turns.proofs.ServedRequests.{asks, counted, desk_posted, few_served, hub_as, left_as, room_as, serves_on, serving_as}
use Rattle.dl_turns.proofs.serving.serve_one.Goals as goal

pub prepare-requires-clause-counted : goal.prepare-requires-clause-counted
prepare-requires-clause-counted g c = counted (client_of c.args.core.now.hub c.args.client) c.args.served.now c.requires.serving.served_so

pub push_injection-pushed-requires : goal.push_injection-pushed-requires
push_injection-pushed-requires g c =
    let is_for = c.in_ok-ready.ensures.ready in
    injection_within c.args.core.now c.in_ok-ready.ready.frame c.in_ok-ready.ready.want (g.D.WriterControl.told c.args.desk.now) is_for.is_ready.want c.requires.serving.desk_so

pub request-requires-clause-ready : goal.request-requires-clause-ready
request-requires-clause-ready g c = subst (λ (k : Core). IsReady k c.in_ok-ready.ready) (sym c.prepare.ensures.core) c.in_ok-ready.ensures.ready.is_ready

pub request-requires-clause-room : goal.request-requires-clause-room
request-requires-clause-room g c =
    let is_for = c.in_ok-ready.ensures.ready in
    room_as c.args.client c.in_ok-ready.ready.client c.args.message.now c.in_ok-ready.ready.frame c.args.core.now c.prepare.new.core is_for.of_client is_for.of_frame c.prepare.ensures.core is_for.room

pub request-requires-clause-spare : goal.request-requires-clause-spare
request-requires-clause-spare g c = omega (arith, c.in_ok-ready.ensures.ready.reserved did.Yes)

pub note_levels-requires-clause-spare : goal.note_levels-requires-clause-spare
note_levels-requires-clause-spare g c =
    let is_for = c.in_ok-ready.ensures.ready in
    let serves = c.request.ensures.served in
    let left = left_as c.args.message.now c.in_ok-ready.ready.frame c.args.core.now c.prepare.new.core c.request.new.self.registry serves.answer is_for.of_frame c.prepare.ensures.core serves.registry in
    omega (arith, is_for.reserved serves.answer, c.request.ensures.spare, ap waiting left)

pub note_levels-requires-clause-desk : goal.note_levels-requires-clause-desk
note_levels-requires-clause-desk g c =
    let is_for = c.in_ok-ready.ensures.ready in
    let serves = c.request.ensures.served in
    let pushed = c.push_injection-pushed.ensures in
    let left = left_as c.args.message.now c.in_ok-ready.ready.frame c.args.core.now c.prepare.new.core c.request.new.self.registry serves.answer is_for.of_frame c.prepare.ensures.core serves.registry in
    desk_posted c.request.new.self.registry c.in_ok-ready.ready.want c.push_injection-pushed.result (g.D.WriterControl.told c.args.desk.now) _ pushed.posts
    (desk_as (served_now c.args.core.now c.args.message.now serves.answer) c.request.new.self.registry (g.D.WriterControl.told c.args.desk.now) _ left refl
    (desk_served c.args.core.now c.args.message.now serves.answer (g.D.WriterControl.told c.args.desk.now) c.requires.serving.desk_so))

pub returns-clause-serves : goal.returns-clause-serves
returns-clause-serves g c =
    let is_for = c.in_ok-ready.ensures.ready in
    let pushed = c.push_injection-pushed.ensures in
    let levels = c.note_levels.ensures.levels (g.F.Folder.told c.request.new.folder) in (
      _,
      asks c.args.client c.args.message.now c.in_ok-ready.ready c.push_injection-pushed.result c.args.core.now c.prepare.new.core c.request.new.self
          (g.J.Journal.spare c.args.journal.now) (g.J.Journal.spare c.prepare.new.journal) _ _ (g.J.Journal.events c.args.journal.now) (g.J.Journal.events c.request.new.journal) _ _
          is_for c.requires.serving.settled_so c.prepare.ensures.core pushed.posts
          (subst (λ (events : Option (List Event)). Serves c.in_ok-ready.ready c.push_injection-pushed.result c.prepare.new.core c.request.new.self (g.F.Folder.told c.args.folder.now)
          (g.F.Folder.told c.request.new.folder) events (g.J.Journal.events c.request.new.journal)) c.prepare.ensures.events c.request.ensures.served) c.request.ensures.rest,
      levels,
    )

pub returns-clause-serving : goal.returns-clause-serving
returns-clause-serving g c =
    let is_for = c.in_ok-ready.ensures.ready in
    let serving = c.requires.serving in
    let serves = c.request.ensures.served in
    let few = few_served (client_of c.args.core.now.hub c.args.client) c.args.served.now serving.served_so is_for.few.1 in
    serves_on c.args.client c.args.served.now c.args.core.now c.note_levels.new.core c.request.new.self.hub _ (reply_now c.args.core.now c.args.message.now serves.answer)
    (ap (λ (k : Core). k.hub) c.note_levels.ensures.core)
    (hub_as c.args.client c.in_ok-ready.ready.client c.args.message.now c.in_ok-ready.ready.frame c.args.core.now c.prepare.new.core c.request.new.self.hub serves.answer is_for.of_client is_for.of_frame
    c.prepare.ensures.core serves.reply)
    serving.open_so serving.served_so few c.note_levels.ensures.settled c.note_levels.ensures.desk

pub returns-clause-spare : goal.returns-clause-spare
returns-clause-spare g c =
    let is_for = c.in_ok-ready.ensures.ready in
    let serves = c.request.ensures.served in
    let left = left_as c.args.message.now c.in_ok-ready.ready.frame c.args.core.now c.prepare.new.core c.request.new.self.registry serves.answer is_for.of_frame c.prepare.ensures.core serves.registry in
    omega (arith, is_for.reserved serves.answer, c.request.ensures.spare, ap waiting left, c.note_levels.ensures.spare)

pub returns-clause-rest : goal.returns-clause-rest
returns-clause-rest g c = g.met.D.WriterControl.rest_trans c.args.desk.now c.push_injection-pushed.new.desk c.note_levels.new.desk c.push_injection-pushed.ensures.rest c.note_levels.ensures.rest

pub returns-in_err-ready-clause-serving : goal.returns-in_err-ready-clause-serving
returns-in_err-ready-clause-serving g c = serving_as c.args.client c.args.served.now c.args.core.now c.prepare.new.core _ c.prepare.ensures.core c.requires.serving
