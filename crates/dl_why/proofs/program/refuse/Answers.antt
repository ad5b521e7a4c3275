use Rattle.dl_why.proofs.Ending.{says}
use Rattle.dl_why.proofs.program.refuse.Goals as goal

pub returns-clause-said : goal.returns-clause-said
returns-clause-said g c = says c.args.status (g.E.Sink.told c.args.err.now) (g.E.Sink.told c.say.new.err) c.say.ensures.silent c.say.ensures.told
