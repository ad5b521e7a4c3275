use Rattle.std.proofs.Common.{sym, ◌∙◌}
use Rattle.dl_world_calls.proofs.Acts.{push-nothing}
use Rattle.dl_world_calls.proofs.calls.Calls.push.Goals as goal

pub returns-in-None : goal.returns-in-None
returns-in-None c = push-nothing c.args.self.now c.args.writer (sym c.pusher.ensures ∙ c.in-None.is)
