use Rattle.std.proofs.Common.{length, subst, sym}
use Rattle.dl_hub.specs.State.{HasRoom}
use Rattle.dl_core.specs.Serving.{IsReady, Ready, Serves, reply_now}
use Rattle.dl_core.proofs.Prepared.{ready_wants, ready_long, ready_kind, ready_room, serves}
use Rattle.dl_core.proofs.daemon.Core.request.Goals as goal

pub answer-requires-clause-want : goal.answer-requires-clause-want
answer-requires-clause-want g c =
    let is = subst (λ (ready : Ready). IsReady c.args.self.now ready) (sym c.ready.view_is) c.requires.ready in
    ready_wants c.args.self.now _ c.ready.inside.request c.ready.inside.target is c.ready.invariant.0 c.ready.invariant.1

pub answer-requires-clause-long : goal.answer-requires-clause-long
answer-requires-clause-long g c =
    let is = subst (λ (ready : Ready). IsReady c.args.self.now ready) (sym c.ready.view_is) c.requires.ready in
    ready_long c.args.self.now _ c.ready.inside.request c.ready.inside.target is c.ready.invariant.0 c.ready.invariant.1 c.carry_out-done.result

pub answer-requires-clause-kind : goal.answer-requires-clause-kind
answer-requires-clause-kind g c =
    let is = subst (λ (ready : Ready). IsReady c.args.self.now ready) (sym c.ready.view_is) c.requires.ready in
    ready_kind c.args.self.now _ c.ready.inside.request c.ready.inside.target is c.ready.invariant.0 c.ready.invariant.1

pub answer-requires-clause-room : goal.answer-requires-clause-room
answer-requires-clause-room g c =
    let core = c.args.self.now in
    let is = subst (λ (ready : Ready). IsReady core ready) (sym c.ready.view_is) c.requires.ready in
    let room = subst (λ (ready : Ready). HasRoom (length (reply_now core ready.frame c.carry_out-done.result)) core.hub ready.client) (sym c.ready.view_is)
    (c.requires.room c.carry_out-done.result) in
    ready_room core _ c.ready.inside.request c.ready.inside.target is c.ready.invariant.0 c.ready.invariant.1 c.carry_out-done.result room

pub returns-clause-served : goal.returns-clause-served
returns-clause-served g c =
    let core = c.args.self.now in
    let told = g.F.Folder.told c.args.folder.now in
    let told_now = g.F.Folder.told c.carry_out-done.new.folder in
    let events = g.J.Journal.events c.args.journal.now in
    let events_now = g.J.Journal.events c.note.new.self in
    let is = subst (λ (ready : Ready). IsReady core ready) (sym c.ready.view_is) c.requires.ready in
    subst (λ (ready : Ready). Serves ready c.args.pushed core c.answer.new.self told told_now events events_now) c.ready.view_is
    (serves core _ c.ready.inside.request c.ready.inside.target is c.ready.invariant.0 c.ready.invariant.1
    c.answer.new.self c.args.pushed c.carry_out-done.result told told_now events events_now
    c.carry_out-done.ensures.answers c.note.ensures.events c.answer.ensures.registry c.answer.ensures.reply c.answer.ensures.value c.answer.ensures.rest)
