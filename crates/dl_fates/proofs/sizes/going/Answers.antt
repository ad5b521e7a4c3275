use Rattle.std.proofs.Common.{ℕ, ◌+◌, ◌-◌, drop, ap, arith}
use Rattle.std.specs.Prelude.{sum}
use Rattle.dl_fates.proofs.FileSizes.{going_at, sum_at}
use Rattle.dl_fates.proofs.sizes.going.Goals as goal

pub returns-else-sizes-first : goal.returns-else-sizes-first
returns-else-sizes-first c =
    let k = c.loop-first.first in
    let sizes = c.args.sizes.now in
    let sums = sum_at sizes (k - 1) (omega (arith, c.loop-first-test.true, c.loop-first.invariant)) in
    let more = ap (λ (n : ℕ). sum (drop n sizes)) {x = k - 1 + 1} {y = k} (omega arith) in
    going_at c.args.limit sizes k c.loop-first.invariant.0 (omega (arith, c.loop-first.invariant.1)) (λ pos. omega (arith, sums, c.loop-first.invariant.1, c.if-sizes-first.false, more))

pub returns-after-loop-first : goal.returns-after-loop-first
returns-after-loop-first c = going_at c.args.limit c.args.sizes.now c.loop-first.first c.loop-first.invariant.0 (omega (arith, c.loop-first.invariant.1)) (λ pos. absurd (omega (arith, c.loop-first-test.false, pos)))
