-- Slow clients, each event in its turn.
use Rattle.std.proofs.Common.{◌≡◌, ℕ, ◌+◌, ◌≤◌, List, [], ◌∷◌, length, Option, Some, refl, ap, lit<, lit≤, arith, inl, inr}
use Rattle.dl_bytes.specs.declared.outcome.Done.TheVariants.{Yes}
use Rattle.dl_model.specs.Backlog.{size_of}
use Rattle.dl_model.proofs.journal_examples.slow_clients.Goals as goal

pub returns-clause-two : goal.returns-clause-two
returns-clause-two c = λ source at first next long hundred. (
  record { settled = refl; running = refl; number = refl; limit = lit≤ tt; at_most = lit< tt },
  (
    record { settled = refl; running = refl; number = refl; limit = lit≤ tt; at_most = lit< tt },
    (
      (refl, refl),
      (
        record { settled = refl; is_open = refl; slow = record { short = lit< tt; needed = inl (needs next hundred); held = omega (arith, holds first long) } },
        (
          record { settled = refl; is_open = refl; slow = record { short = lit< tt; needed = inl (needs next hundred); held = omega (arith, holds first long) } },
          ((refl, refl), tt),
        ),
      ),
    ),
  ),
) where
  holds : (first : List ℕ) → length first ≡ 141000 → size_of (first ∷ []) ≡ 141000
  holds first long = omega (arith, long)

  needs : (next : List ℕ) → length next ≡ 100 → ◌≡◌ {A = Option ℕ} (Some (size_of (next ∷ []))) (Some 100)
  needs next hundred = let size : size_of (next ∷ []) ≡ 100 = omega (arith, hundred) in ap (λ (n : ℕ). Some n) size
