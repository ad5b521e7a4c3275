use Rattle.std.proofs.Common.{◌≡◌, take}
use Rattle.dl_hub.specs.State.{left_by}
use Rattle.dl_hub.proofs.hub.left_by.Given as goal

abbrev pub invariant-loop-client : goal.invariant-loop-client
invariant-loop-client l = l.bytes ≡ left_by (take l.client-index l.clients)
