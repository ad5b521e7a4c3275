use Rattle.dl_ring.proofs.InjectionStates.{one_taken}
use Rattle.dl_ring.proofs.InjectionKeeping.{gives, empties}
use Rattle.dl_ring.proofs.injection_take.InjectTake.take.Goals as goal

pub pop_as-requires-clause-rule : goal.pop_as-requires-clause-rule
pop_as-requires-clause-rule g c = (gives _ _ c.self.invariant.1.takes, empties _ _ c.self.invariant.1.takes)

pub returns-in-Some-clause-taken : goal.returns-in-Some-clause-taken
returns-in-Some-clause-taken g c = let h = c.in-Some.ensures in one_taken _ _ _ _ _ _ _ h.queue.0 h.rule.0 c.self.view_is
