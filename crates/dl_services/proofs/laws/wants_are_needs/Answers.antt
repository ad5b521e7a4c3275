use Rattle.dl_services.proofs.Requests.{wants-needs}
use Rattle.dl_services.proofs.laws.wants_are_needs.Goals as goal

pub returns : goal.returns
returns c = wants-needs
