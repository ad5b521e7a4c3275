use Rattle.std.proofs.Common.{◌≡◌, ◌++◌, drop}
use Rattle.dl_client.specs.Area.{held}
use Rattle.dl_own_log.specs.Said.{clients_payload}
use Rattle.dl_own_log.proofs.said.push_clients.Given as goal

abbrev pub invariant-loop-client : goal.invariant-loop-client
invariant-loop-client l = held l.payload ++ clients_payload (drop l.client-index l.clients) ≡ held l.fn.payload ++ clients_payload l.fn.clients
