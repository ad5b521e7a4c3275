use Rattle.dl_world.proofs.Delivering.{IsDelivering}
use Rattle.dl_world.proofs.world.World.deliver.Lts.Given as given

abbrev pub invariant-loop-client : given.Live-loop-client → Type 0
invariant-loop-client l = IsDelivering l.fn.self l.self l.client
