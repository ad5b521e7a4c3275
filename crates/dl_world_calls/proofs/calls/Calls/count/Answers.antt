use Rattle.std.proofs.Common.{sym, ◌∙◌}
use Rattle.dl_world_calls.proofs.Acts.{count-nothing}
use Rattle.dl_world_calls.proofs.calls.Calls.count.Goals as goal

pub returns-in-None : goal.returns-in-None
returns-in-None c = count-nothing c.args.self.now c.args.writer (sym c.counter.ensures ∙ c.in-None.is)
