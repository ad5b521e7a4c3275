use Rattle.std.proofs.Common.{◌-◌, ◌≤◌, length}
use Rattle.dl_daemon.proofs.counting.open_channels.Given as goal

abbrev pub invariant-loop-channel : goal.invariant-loop-channel
invariant-loop-channel l = l.count ≤ length l.channels.inboxes

abbrev pub decreases-loop-channel : goal.decreases-loop-channel
decreases-loop-channel l = length l.channels.inboxes - l.count
