use Rattle.dl_serve.proofs.AdmittedSteps.{sent}
use Rattle.dl_serve.proofs.laws.what_programs_sent_is_admitted.Goals as goal

pub returns : goal.returns
returns g c = λ begun old new full closed has tells. sent g.L.Link.told tells begun old new full closed has
