use Rattle.dl_settling.proofs.NotedDrains.{noted_drain}
use Rattle.dl_settling.proofs.laws.clients_stay_as_noted.Goals as goal

pub returns : goal.returns
returns c = noted_drain
