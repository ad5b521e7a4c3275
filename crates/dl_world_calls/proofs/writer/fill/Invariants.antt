use Rattle.std.proofs.Common.{◌≡◌}
use Rattle.dl_world_calls.proofs.writer.fill.Given as goal

-- all bytes are there, and so many arguments are counted
abbrev pub invariant-loop-argument : goal.invariant-loop-argument
invariant-loop-argument l = l.payload ≡ record { bytes = l.arguments.bytes; args = l._argument }
