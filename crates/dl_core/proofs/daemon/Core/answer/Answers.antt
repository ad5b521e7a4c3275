use Rattle.std.proofs.Common.{◌≡◌, ap, subst, sym, ◌∙◌, arith}
use Rattle.std.proofs.lemmas.Grind.{common_steps}
use Rattle.dl_control.specs.Reply.{control_reply}
use Rattle.dl_model.specs.Reply.{reply_to}
use Rattle.dl_model.specs.Traffic as traffic
use Rattle.dl_hub.specs.Follows as hub
use Rattle.dl_hub.specs.State.{Hub}
use Rattle.dl_registry.specs.Kept.{slots}
use Rattle.dl_core.specs.Settings.{seen}
use Rattle.dl_core.specs.State.{Core}
use Rattle.dl_core.proofs.Asked.{adds_reply}
use Rattle.dl_core.proofs.Prepared.{is_written}
use Rattle.dl_core.proofs.daemon.Core.answer.Goals as goal

pub returns-in-Some-clause-reply : goal.returns-in-Some-clause-reply
returns-in-Some-clause-reply c =
    let core = c.args.self.now in
    let whole = control_reply core.ecu (reply_to (seen core) (slots core.registry) core.registry.registry c.args.target.0 c.args.target.1 c.args.request.now c.args.done) in
    let same : c.match-want.self.hub ≡ c.reply-in-Some.new.self = grind (arith, common_steps) in
    subst (λ (h : Hub). hub.Adds (traffic.Reply c.args.client whole) core.hub h) (sym same)
    (adds_reply c.args.client c.all.result.now whole core.hub c.self.inside.hub c.reply-in-Some.new.self
    (c.all.ensures ∙ is_written c.args.reply c.in-Some.reply whole c.in-Some.is c.requires.long)
    (ap (λ (k : Core). k.hub) c.self.view_is) c.reply-in-Some.ensures.adds)
