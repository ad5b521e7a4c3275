use Rattle.dl_live.proofs.Assembled.{is_begun, is_untouched}
use Rattle.dl_live.proofs.players.assemble.Goals as goal

pub make-requires-2-clause-begun : goal.make-requires-2-clause-begun
make-requires-2-clause-begun g c = is_begun c.args.begun c.in_ok-conf.field-0 c.in_ok-conf.ensures

pub make-requires-2-clause-untouched : goal.make-requires-2-clause-untouched
make-requires-2-clause-untouched g c = is_untouched c.args.begun c.in_ok-conf.field-0 c.requires.runnable c.in_ok-conf.ensures
