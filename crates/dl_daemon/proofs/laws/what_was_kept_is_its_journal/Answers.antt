use Rattle.dl_daemon.proofs.KeptJournals.{kept_to}
use Rattle.dl_daemon.proofs.laws.what_was_kept_is_its_journal.Goals as goal

pub returns : goal.returns
returns g c = λ most begun old new why closed first begins quiet has.
    kept_to g.L.Link.told c.a_round_is_its_events.ensures c.a_closing_is_its_events.ensures c.who_has_an_outbox.ensures most begun first begins old new why closed quiet has
