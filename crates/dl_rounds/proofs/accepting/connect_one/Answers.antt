use Rattle.dl_rounds.proofs.Connected.{connected}
use Rattle.dl_rounds.proofs.accepting.connect_one.Goals as goal

pub returns-then-may_connect-clause-connects : goal.returns-then-may_connect-clause-connects
returns-then-may_connect-clause-connects g c =
    let e = c.connect.ensures in
    connected c.connect.result c.ok.result c.args.core.now c.connect.new.self (g.J.Journal.events c.args.journal.now) (g.J.Journal.events c.connect.new.journal) c.ok.ensures.value
    (c.may_connect.ensures.0 c.if-may_connect.true) e.number e.after e.event e.comes e.same e.admitted e.rest
