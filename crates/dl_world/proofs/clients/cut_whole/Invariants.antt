use Rattle.std.proofs.Common.{◌≡◌, length}
use Rattle.std.specs.List.{All}
use Rattle.dl_bytes.specs.Limits.{message_limit}
use Rattle.dl_core.specs.Serving.{IsRequest}
use Rattle.dl_world.proofs.FedClients.{Gave}
use Rattle.dl_world.proofs.clients.cut_whole.Given as goal

-- the messages so far were given
abbrev pub invariant-loop-cutter : goal.invariant-loop-cutter
invariant-loop-cutter l = record {
  limit : l.cutter.limit ≡ message_limit;
  gave : Gave l.fn.cutter.unread l.cutter.unread l.fn.requests.items l.requests.items;
  each : All IsRequest l.fn.requests.items → All IsRequest l.requests.items;
}

abbrev pub decreases-loop-cutter : goal.decreases-loop-cutter
decreases-loop-cutter l = length l.cutter.unread
