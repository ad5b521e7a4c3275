use Rattle.dl_socket.proofs.LearntSlots.{HasLearnt}
use Rattle.dl_socket.proofs.messenger.Messenger.learn.Given as goal

-- the slots up to this one were learnt
abbrev pub invariant-loop-slot : goal.invariant-loop-slot
invariant-loop-slot l = HasLearnt l.fn.registry l.slot l.fn.self l.self
