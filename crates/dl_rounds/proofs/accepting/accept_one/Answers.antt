use Rattle.std.proofs.Common.{refl}
use Rattle.dl_rounds.proofs.Connected.{heard_comes}
use Rattle.dl_rounds.proofs.accepting.accept_one.Goals as goal

pub returns-in-Some-clause-unused : goal.returns-in-Some-clause-unused
returns-in-Some-clause-unused g c = λ none. absurd (none c.in-Some.client refl)

pub returns-in-Some-clause-heard : goal.returns-in-Some-clause-heard
returns-in-Some-clause-heard g c =
    heard_comes c.in-Some.client c.args.core.now c.connect_one.new.core (g.J.Journal.events c.args.journal.now) (g.J.Journal.events c.connect_one.new.journal) c.in-Some.ensures.connects
