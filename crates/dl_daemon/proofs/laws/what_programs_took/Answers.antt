use Rattle.dl_daemon.proofs.TookLevels.{took_so}
use Rattle.dl_daemon.proofs.laws.what_programs_took.Goals as goal

pub returns : goal.returns
returns g c = λ most begun old new why closed first begins has.
    let later = c.a_round_is_its_events.ensures in
    took_so g.L.Link.told later.closed most begun old new why closed first begins has
