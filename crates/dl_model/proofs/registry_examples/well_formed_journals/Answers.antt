-- The events of the example, each in its turn.
use Rattle.std.proofs.Common.{refl, lit<, lit≤}
use Rattle.dl_control.specs.Reading.{request_of, log_level_at}
use Rattle.dl_model.proofs.registry_examples.well_formed_journals.Goals as goal

pub returns-clause-good : goal.returns-clause-good
unfolding request_of log_level_at
returns-clause-good c = λ source at. (
  (refl, refl),
  (
    (refl, refl),
    (
      refl,
      (
        (refl, refl),
        (
          refl,
          (
            record { settled = refl; running = refl; number = refl; limit = lit≤ tt; at_most = lit< tt },
            (
              record { settled = refl; is_open = refl; limit = lit< tt; answered = refl },
              (
                refl,
                (
                  refl,
                  (
                    record { settled = refl; is_open = refl; slow = tt },
                    (
                      record { settled = refl; running = refl; number = refl; limit = lit≤ tt; at_most = lit< tt },
                      (record { settled = refl; is_open = refl; slow = tt }, tt),
                    ),
                  ),
                ),
              ),
            ),
          ),
        ),
      ),
    ),
  ),
)
