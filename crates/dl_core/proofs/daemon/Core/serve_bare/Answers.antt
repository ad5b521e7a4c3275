use Rattle.std.proofs.Common.{ap, ◌∙◌}
use Rattle.dl_control.specs.Reply.{control_reply}
use Rattle.dl_control.specs.declared.reply.Reply.{Reply}
use Rattle.dl_model.specs.Reply.{reply_to}
use Rattle.dl_registry.specs.Kept.{slots}
use Rattle.dl_core.specs.Settings.{seen}
use Rattle.dl_core.specs.State.{Core}
use Rattle.dl_core.proofs.Asked.{adds_reply}
use Rattle.dl_core.proofs.daemon.Core.serve_bare.Goals as goal

pub returns-in-Ok-clause-reply : goal.returns-in-Ok-clause-reply
returns-in-Ok-clause-reply c =
    let core = c.args.self.now in
    let reply = reply_to (seen core) (slots core.registry) core.registry.registry c.args.target.0 c.args.target.1 c.args.request.now c.args.done in
    let same = c.self.view_is ∙ c.serve.ensures.rest in
    adds_reply c.args.client c.bytes.result.now (control_reply core.ecu reply) core.hub c.self.inside.hub c.reply.new.self
    (c.bytes.ensures.value ∙ c.bare_reply-frame.ensures.value ∙ ap (λ (r : Reply). control_reply c.self.inside.ecu r) c.in-Ok.ensures.reply
    ∙ ap (λ (k : Core). control_reply k.ecu reply) same)
    (ap (λ (k : Core). k.hub) same) c.reply.ensures.adds
