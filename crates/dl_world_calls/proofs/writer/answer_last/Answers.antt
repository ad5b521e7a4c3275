use Rattle.std.proofs.Common.{◌∙◌}
use Rattle.dl_world_calls.proofs.OpenCalls.{answered_last}
use Rattle.dl_world_calls.proofs.writer.answer_last.Goals as goal

pub returns : goal.returns
returns c = answered_last c.args.records.now.items c.len-last.result c.index_mut.result.now c.args.answer c.requires (c.len-last.ensures ∙ c.args.records.now.ok.0) c.index_mut.ensures.value
