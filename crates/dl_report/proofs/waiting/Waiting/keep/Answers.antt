use Rattle.std.proofs.Common.{ℕ, ◌-◌, sym, subst}
use Rattle.dl_report.specs.Batches.{IsMost}
use Rattle.dl_report.proofs.Buffers.{keeps, refuses}
use Rattle.dl_report.proofs.waiting.Waiting.keep.Goals as goal
use Rattle.dl_report.proofs.waiting.Waiting.keep.Goals.{then-self-eq0, else-self-eq0}

pub returns-clause-waits : goal.returns-clause-waits
returns-clause-waits c = λ frames more was are.
    let old = c.args.self.now.backlog in
    let limit = c.args.self.now.limit in
    elim c.if-self-eq0.branch [
      | then-self-eq0 w ↦
          let most : IsMost c.args.batch (limit - old.bytes) c.if-self-eq0.fits = subst (λ (k : ℕ). IsMost c.args.batch (limit - old.bytes) k) (sym w.fits-is) w.fitting-fits.ensures in
          keeps limit frames more c.args.batch old c.if-self-eq0.fits was w.if-self-eq0.true are most
      | else-self-eq0 w ↦
          refuses limit frames more c.args.batch old c.if-self-eq0.fits was w.if-self-eq0.false are w.fits-is
    ]
