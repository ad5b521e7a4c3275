use Rattle.dl_opening.proofs.ClientScripts.{scripts_more}
use Rattle.dl_opening.proofs.clients.scripts.Goals as goal

pub loop-client-preserved : goal.loop-client-preserved
loop-client-preserved c =
    scripts_more c.args.lines.now c.loop-client.client c.loop-client.scripts.items c.push.new.self.items c.in_ok-script.field-0 c.in_ok-push.ensures.items c.in_ok-script.ensures
    c.loop-client.invariant
