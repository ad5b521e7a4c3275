use Rattle.std.proofs.Common.{◌≡◌, ◌-◌, None, length}
use Rattle.dl_taking.specs.Filling.{Fills}
use Rattle.dl_taking.proofs.filling.fill.Given as goal

-- The calls that were taken so far are the batch, and no take found the ring empty.
abbrev pub invariant-loop-batch : goal.invariant-loop-batch
invariant-loop-batch g l = record {
  fills : Fills l.fn.app l.fn.most None (g.D.CallSource.took l.fn.desk) (g.D.CallSource.took l.desk) l.batch;
  empties : g.D.CallSource.empties l.desk ≡ g.D.CallSource.empties l.fn.desk;
  told : g.D.WriterControl.told l.desk ≡ g.D.WriterControl.told l.fn.desk;
  same : g.D.CallSource.same_but_taken l.fn.desk l.desk;
}

abbrev pub decreases-loop-batch : goal.decreases-loop-batch
decreases-loop-batch g l = l.fn.most - length l.batch
