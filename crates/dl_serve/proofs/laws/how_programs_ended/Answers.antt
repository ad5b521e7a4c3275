use Rattle.dl_serve.proofs.ShownEnds.{ended_so}
use Rattle.dl_serve.proofs.laws.how_programs_ended.Goals as goal

pub returns : goal.returns
returns g c = λ begun old new full closed has. ended_so g.L.Link.told begun old new full closed has
