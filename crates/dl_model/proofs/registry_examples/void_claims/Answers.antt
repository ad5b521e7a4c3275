-- The events of the example, each in its turn.
use Rattle.std.proofs.Common.{refl, lit<, lit≤}
use Rattle.dl_model.proofs.registry_examples.void_claims.Goals as goal

pub returns-clause-well_formed : goal.returns-clause-well_formed
returns-clause-well_formed c = λ source at. (
  (refl, refl),
  (
    record { settled = refl; running = refl; there = refl },
    (
      refl,
      (
        record { settled = refl; running = refl; there = refl },
        (refl, (record { settled = refl; running = refl; number = refl; limit = lit≤ tt; at_most = lit< tt }, tt)),
      ),
    ),
  ),
)
