use Rattle.std.proofs.Common.{length}
use Rattle.std.specs.List.{All}
use Rattle.dl_world.specs.Fed.{CanBeTold}
use Rattle.dl_world.proofs.HeardChannels.{HasTold}
use Rattle.dl_world.proofs.channels.cut_whole.Given as goal

-- the messages so far were given
abbrev pub invariant-loop-message : goal.invariant-loop-message
invariant-loop-message l = record {
  so : HasTold l.fn.cutter.unread l.cutter.unread l.fn.messages.items l.messages.items;
  each : All CanBeTold l.fn.messages.items → All CanBeTold l.messages.items;
}

abbrev pub decreases-loop-message : goal.decreases-loop-message
decreases-loop-message l = length l.cutter.unread
