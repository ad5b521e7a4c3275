use Rattle.dl_serve.proofs.TookServings.{took_so}
use Rattle.dl_serve.proofs.laws.what_programs_took.Goals as goal

pub returns : goal.returns
returns g c = λ begun old new full closed first begins has.
    let later = c.a_round_is_its_events.ensures in
    took_so g.L.Link.told later.closed begun old new full closed first begins has
