use Rattle.std.proofs.Common.{◌≡◌, take}
use Rattle.dl_hub.specs.State.{messages_left_by}
use Rattle.dl_hub.proofs.hub.messages_left_by.Given as goal

abbrev pub invariant-loop-client : goal.invariant-loop-client
invariant-loop-client l = l.messages ≡ messages_left_by (take l.client-index l.clients)
