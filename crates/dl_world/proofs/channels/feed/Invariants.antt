use Rattle.std.proofs.Common.{length}
use Rattle.dl_world.proofs.HeardChannels.{IsHearing}
use Rattle.dl_world.proofs.channels.feed.Given as goal

-- the front of the bytes was fed
abbrev pub invariant-loop-rest : goal.invariant-loop-rest
invariant-loop-rest l = IsHearing l.fn.bytes l.rest l.fn.cutter l.cutter l.fn.messages.items l.messages.items

abbrev pub decreases-loop-rest : goal.decreases-loop-rest
decreases-loop-rest l = length l.rest
