use Rattle.std.proofs.Common.{◌≡◌, length}
use Rattle.dl_bytes.specs.Limits.{message_limit}
use Rattle.dl_world.proofs.FedStreams.{IsFeeding}
use Rattle.dl_world.proofs.clients.feed.Given as goal

-- the front of the bytes was fed
abbrev pub invariant-loop-rest : goal.invariant-loop-rest
invariant-loop-rest l = record {
  limit : l.cutter.limit ≡ message_limit;
  so : IsFeeding l.fn.bytes l.rest l.fn.cutter l.cutter l.fn.requests.items l.requests.items;
}

abbrev pub decreases-loop-rest : goal.decreases-loop-rest
decreases-loop-rest l = length l.rest
