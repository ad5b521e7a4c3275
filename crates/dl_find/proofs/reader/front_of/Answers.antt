use Rattle.std.proofs.Common.{sym, ◌∙◌}
use Rattle.dl_sessions.proofs.Readings.{stays_bad}
use Rattle.dl_find.proofs.reader.front_of.Goals as goal

pub returns-in-Bad : goal.returns-in-Bad
returns-in-Bad c = stays_bad c.args.rest.now c.if-rest-ge-FRONT.true (sym c.end_of.ensures ∙ c.in-Bad.is)
