use Rattle.dl_serve.proofs.FewRounds.{handed_out_few}
use Rattle.dl_serve.proofs.laws.who_was_handed_out.Goals as goal

pub returns : goal.returns
returns g c = λ begun old new full closed last has frames served room unwanted stand.
    let later = c.a_round_is_its_events.ensures in
    handed_out_few g.L.Link.told later.heard later.pumped begun old new full closed last has frames served room unwanted stand
