use Rattle.std.proofs.Common.{◌∙◌, refl}
use Rattle.dl_core.proofs.Untold.{next_of_unstored}
use Rattle.dl_core.proofs.anew.gather.Goals as goal

pub loop-left-preserved : goal.loop-left-preserved
loop-left-preserved c =
    next_of_unstored c.args.ecu c.args.moment c.args.unstored c.loop-left.left c.min-counter.result c.bytes.result.now c.loop-left.batch c.push.new.self c.loop-left-test.true c.min-counter.ensures
    (c.bytes.ensures.value ∙ c.overflow_frame-record.ensures ∙ rw (c.from_bytes.ensures, c.from_bytes-in-loop-left.ensures) refl) c.push.ensures c.loop-left.invariant
