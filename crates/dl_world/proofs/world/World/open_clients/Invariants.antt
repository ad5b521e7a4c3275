use Rattle.dl_world.proofs.Counting.{IsCounting}
use Rattle.dl_world.proofs.world.World.open_clients.Lts.Given as given

abbrev pub invariant-loop-client : given.Live-loop-client → Type 0
invariant-loop-client l = IsCounting l.self l.client l.open
