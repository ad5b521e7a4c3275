use Rattle.std.proofs.Common.{◌≡◌, ◌+◌, ap, ◌∙◌, arith}
use Rattle.std.proofs.lemmas.Grind.{common_steps}
use Rattle.dl_core.specs.Serving.{changes_of}
use Rattle.dl_core.specs.State.{Core}
use Rattle.dl_core.proofs.Prepared.{made_ready, asked_in, target_in, reserved}
use Rattle.dl_core.proofs.daemon.Core.prepare.Goals as goal

pub returns-clause-ready : goal.returns-clause-ready
returns-clause-ready g c =
    made_ready c.args.self.now _ c.args.client c.args.frame c.asked_by-request.result.0 c.asked_by-request.result.1 c.in_ok-want.want c.in_ok-reply.reply
    c.self.view_is c.requires.request
    (asked_in c.all.result.now c.args.frame c.asked_by-request.result.0 c.asked_by-request.ensures.request c.all.ensures)
    (target_in c.all.result.now c.args.frame c.asked_by-request.result.1 c.asked_by-request.ensures.target c.all.ensures)
    c.in_ok-want.ensures.want c.in_ok-reply.ensures.long c.in_ok-reply.ensures.kind

pub returns-clause-reserved : goal.returns-clause-reserved
returns-clause-reserved g c =
    let sum : c.in-Some.spare ≡ g.J.Journal.spare c.args.journal.now + (1 + c.changes_of.result) = grind (arith, common_steps) in
    let bound : c.changes_of.result ≡ changes_of c.args.self.now.level c.args.self.now.registry c.asked_by-request.result.0 =
    c.changes_of.ensures.value ∙ ap (λ (core : Core). changes_of core.level core.registry c.asked_by-request.result.0) c.long_reply.ensures.unchanged in
    reserved c.args.self.now c.args.frame c.asked_by-request.result.0 (g.J.Journal.spare c.args.journal.now) c.changes_of.result c.in-Some.spare (g.J.Journal.spare c.reserve.new.self)
    (asked_in c.all.result.now c.args.frame c.asked_by-request.result.0 c.asked_by-request.ensures.request c.all.ensures)
    c.requires.settled bound sum c.in_ok-reserve.ensures.room
