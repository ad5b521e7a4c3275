use Rattle.std.proofs.Common.{◌+◌, ◌-◌, ◌*◌, ◌++◌, length}
use Rattle.dl_channel.proofs.Looking.{IsLooking}
use Rattle.dl_channel.proofs.finding.next_message.Given as goal

-- so many bytes of the piece were fed, and no message was found
abbrev pub invariant-loop-msg : goal.invariant-loop-msg
invariant-loop-msg l = IsLooking (l.fn.cutter.unread ++ l.fn.piece) l.fn.piece l.taken l.cutter

-- each feed takes bytes from the piece
abbrev pub decreases-loop-msg : goal.decreases-loop-msg
decreases-loop-msg l = length l.cutter.unread + 2 * (length l.fn.piece - l.taken)
