use Rattle.std.proofs.Common.{sym, ◌∙◌}
use Rattle.dl_world_calls.proofs.Acts.{announce-none, refused-none}
use Rattle.dl_world_calls.proofs.calls.Calls.announce.Goals as goal

pub returns-in-None-clause-does : goal.returns-in-None-clause-does
returns-in-None-clause-does c = announce-none c.args.self.now c.args.writer (sym c.announcer.ensures ∙ c.in-None.is)

pub returns-in-None-clause-refused : goal.returns-in-None-clause-refused
returns-in-None-clause-refused c = refused-none c.args.self.now c.args.writer (sym c.announcer.ensures ∙ c.in-None.is)
