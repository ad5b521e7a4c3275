use Rattle.dl_serve.proofs.DroppedLinks.{dropped_so}
use Rattle.dl_serve.proofs.laws.why_links_were_dropped.Goals as goal

pub returns : goal.returns
returns g c = λ begun old new full closed first begins has. dropped_so g.L.Link.told begun old new full closed has
