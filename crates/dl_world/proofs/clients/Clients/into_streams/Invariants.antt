use Rattle.std.proofs.Common.{◌≡◌, ◌≤◌, ◌+◌, ◌++◌, length}
use Rattle.std.specs.Prelude.{map}
use Rattle.std.specs.Vec.Iter.{into_iter_items}
use Rattle.dl_world.specs.State.{Client}
use Rattle.dl_world.proofs.clients.Clients.into_streams.Given as goal

abbrev pub invariant-loop-client : goal.invariant-loop-client
invariant-loop-client l = record {
  all : l.streams.items ++ map (λ (client : Client). client.frames) (into_iter_items l.client-iterator) ≡ map (λ (client : Client). client.frames) l.fn.self;
  limit : length l.streams.items + length (into_iter_items l.client-iterator) ≤ 32;
}
