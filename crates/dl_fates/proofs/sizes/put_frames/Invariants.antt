use Rattle.std.proofs.Common.{◌≡◌}
use Rattle.dl_fates.specs.Sizes.{with_frames}
use Rattle.dl_fates.proofs.sizes.put_frames.Given as goal

abbrev pub invariant-loop : goal.invariant-loop
invariant-loop l = l.sizes.items ≡ with_frames l.limit l.bytes l.counter l.initial.sizes.items
