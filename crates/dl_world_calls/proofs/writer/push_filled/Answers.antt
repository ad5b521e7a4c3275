use Rattle.std.proofs.Common.{◌∙◌}
use Rattle.dl_world_calls.proofs.OpenCalls.{filled_last}
use Rattle.dl_world_calls.proofs.writer.push_filled.Goals as goal

pub returns-clause-added : goal.returns-clause-added
returns-clause-added c = rw c.fill.ensures (filled_last c.args.records.now.items c.len-place.result c.args.call c.args.arguments.now c.push.new.self.items c.index_mut-last.result.now
    (c.len-place.ensures ∙ c.args.records.now.ok.0) c.in_ok-push.ensures.items c.index_mut-last.ensures.value)
