use Rattle.std.proofs.Common.{◌≡◌, take}
use Rattle.dl_hub.specs.Untaken.{messages_in}
use Rattle.dl_hub.proofs.ring.messages_of.Given as goal

abbrev pub invariant-loop-told : goal.invariant-loop-told
invariant-loop-told l = l.messages ≡ messages_in (take l.told-index l.due)
