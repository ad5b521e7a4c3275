use Rattle.dl_serve.proofs.ServedJournals.{served_to}
use Rattle.dl_serve.proofs.laws.what_was_served_is_its_journal.Goals as goal

pub returns : goal.returns
returns g c = λ begun old new full closed first begins quiet has.
    served_to g.L.Link.told c.a_round_is_its_events.ensures c.a_closing_is_its_events.ensures c.who_has_an_outbox.ensures begun old new full closed first begins quiet has
