use Rattle.std.proofs.Common.{◌≡◌}
use Rattle.std.specs.Prelude.{replicate}
use Rattle.dl_bytes.specs.Limits.{message_limit}
use Rattle.dl_message.specs.Cutting.{unfed}
use Rattle.dl_rounds.proofs.listener.listeners.Given as goal

-- so many were made, all of them alike
abbrev pub invariant-loop-made : goal.invariant-loop-made
invariant-loop-made l = l.listeners.items ≡ replicate l._made (record { cutter = unfed message_limit; served = 0 })
