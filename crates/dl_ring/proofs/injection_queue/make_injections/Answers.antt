use Rattle.dl_ring.proofs.InjectionKeeping.{begins, opens}
use Rattle.dl_ring.proofs.injection_queue.make_injections.Goals as goal

pub ruled-requires-clause-rule : goal.ruled-requires-clause-rule
ruled-requires-clause-rule c = begins

pub another-taker-requires-clause-rule : goal.another-taker-requires-clause-rule
another-taker-requires-clause-rule c = opens _ _ c.in_ok-made.ensures.3
