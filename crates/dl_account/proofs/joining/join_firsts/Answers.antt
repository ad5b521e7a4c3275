use Rattle.std.proofs.Common.{◌∙◌}
use Rattle.dl_account.proofs.Loops.{joins_first}
use Rattle.dl_account.proofs.joining.join_firsts.Goals as goal

pub loop-first-preserved : goal.loop-first-preserved
loop-first-preserved c = joins_first c.args.handles.now c.loop-first.handles c.join_passes.new.self c.args.firsts.items c.loop-first.firsts.items c.pop.new.self.items c.in-Some.first
    c.len-app.result c.in-Some.ensures.items (c.len-app.ensures ∙ c.pop.new.self.ok.0) c.join_passes.ensures.joined c.loop-first.invariant
