use Rattle.std.proofs.Common.{◌+◌, ◌-◌, ◌*◌, ◌++◌, length}
use Rattle.dl_turns.proofs.SentBytes.{IsLooking}
use Rattle.dl_turns.proofs.cutting.next_request.Given as goal

-- so many bytes of the piece were fed, and no request was found
abbrev pub invariant-loop-cutter : goal.invariant-loop-cutter
invariant-loop-cutter l = IsLooking (l.fn.cutter.unread ++ l.fn.piece) l.fn.piece l.taken l.cutter

-- a message takes bytes from the cutter, and a feed from the piece
abbrev pub decreases-loop-cutter : goal.decreases-loop-cutter
decreases-loop-cutter l = length l.cutter.unread + 2 * (length l.fn.piece - l.taken)
