use Rattle.std.proofs.Common.{◌∙◌, ap}
use Rattle.dl_ring.specs.InjectionState.{TakeState}
use Rattle.dl_ring.proofs.InjectionKeeping.{forks}
use Rattle.dl_ring.proofs.injection_take.InjectTake.split.Goals as goal

pub another-pass-requires-clause-rule : goal.another-pass-requires-clause-rule
another-pass-requires-clause-rule c = forks _ _ (ap (λ (s : TakeState). s.first) c.self.view_is ∙ c.requires.first)
