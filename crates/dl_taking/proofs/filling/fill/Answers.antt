use Rattle.std.proofs.Common.{◌∙◌, arith}
use Rattle.dl_taking.proofs.Steps.{fills_claim, fills_more}
use Rattle.dl_taking.proofs.filling.fill.Goals as goal

pub loop-batch-preserved : goal.loop-batch-preserved
loop-batch-preserved g c =
    let so = c.loop-batch.invariant in
    let one = c.in-Call.ensures.takes in
    record {
      fills = fills_more c.args.app c.args.most _ _ _ _ _ one.0 so.fills one.1 one.2 (omega (arith, c.loop-batch-test.true));
      empties = c.in-Call.ensures.full (λ none. cc none) ∙ so.empties;
      told = c.take.ensures.told ∙ so.told;
      same = g.met.D.CallSource.taken_trans c.args.desk.now c.loop-batch.desk c.take.new.desk so.same c.take.ensures.rest;
    }

pub returns-in-Claim-clause-fills : goal.returns-in-Claim-clause-fills
returns-in-Claim-clause-fills g c =
    let one = c.in-Claim.ensures.takes in
    fills_claim c.args.app c.args.most c.in-Claim.claim _ _ _ _ _ c.loop-batch.invariant.fills one.0 one.1 (omega (arith, c.loop-batch-test.true))
