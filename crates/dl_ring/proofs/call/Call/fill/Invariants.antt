use Rattle.std.proofs.Common.{◌≡◌}
use Rattle.dl_ring.specs.Items.{item_with}
use Rattle.dl_ring.proofs.call.Call.fill.Given as goal

-- all bytes are there, and so many arguments are counted
abbrev pub invariant-loop-argument : goal.invariant-loop-argument
invariant-loop-argument l = l.item ≡ item_with l.self (record { bytes = l.payload.bytes; args = l._argument })
