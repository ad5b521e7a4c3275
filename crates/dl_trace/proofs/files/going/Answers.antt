use Rattle.std.proofs.Common.{ℕ, ◌+◌, ◌-◌, drop, ap, arith}
use Rattle.std.specs.Prelude.{sum_by}
use Rattle.dl_trace.specs.Steps.{bytes_in}
use Rattle.dl_trace.proofs.Removing.{going_at, sum_at}
use Rattle.dl_trace.proofs.files.going.Goals as goal

pub returns-else-files-first-clause-value : goal.returns-else-files-first-clause-value
returns-else-files-first-clause-value c =
    let k = c.loop-first.first in
    let file = c.index-files-first.result in
    let sums = sum_at c.args.files.now (k - 1) file (omega (arith, c.loop-first.invariant)) c.index-files-first.is in
    let more = ap (λ (n : ℕ). sum_by bytes_in (drop n c.args.files.now)) {x = k - 1 + 1} {y = k} (omega arith) in
    going_at c.args.limit c.args.files.now k c.loop-first.invariant.0 (omega (arith, c.loop-first.invariant.1)) (λ pos. let here = ap bytes_in c.index-files-first.is in omega (arith, sums, here, c.loop-first.invariant.1, c.if-files-first.false, more))

pub returns-after-loop-first-clause-value : goal.returns-after-loop-first-clause-value
returns-after-loop-first-clause-value c = going_at c.args.limit c.args.files.now c.loop-first.first c.loop-first.invariant.0 (omega (arith, c.loop-first.invariant.1)) (λ pos. absurd (omega arith))
