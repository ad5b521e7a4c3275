use Rattle.std.proofs.Common.{◌∙◌, refl}
use Rattle.dl_hub.proofs.Overflow.{step}
use Rattle.dl_hub.proofs.store.add_refused.Goals as goal

pub add-requires-clause-room : goal.add-requires-clause-room
add-requires-clause-room c =
    (step c.args.ecu c.loop-left.left c.min-counter.result c.bytes.result.now c.loop-left.client c.args.client.now _ c.loop-left-test.true c.min-counter.ensures
    (c.bytes.ensures.value ∙ c.overflow_frame-frame.ensures ∙ rw (c.from_bytes.ensures, c.from_bytes-in-loop-left.ensures) refl) c.loop-left.invariant).0.0

pub add-requires-clause-bytes : goal.add-requires-clause-bytes
add-requires-clause-bytes c =
    (step c.args.ecu c.loop-left.left c.min-counter.result c.bytes.result.now c.loop-left.client c.args.client.now _ c.loop-left-test.true c.min-counter.ensures
    (c.bytes.ensures.value ∙ c.overflow_frame-frame.ensures ∙ rw (c.from_bytes.ensures, c.from_bytes-in-loop-left.ensures) refl) c.loop-left.invariant).0.1

pub loop-left-preserved : goal.loop-left-preserved
loop-left-preserved c =
    rw c.add.ensures
    (step c.args.ecu c.loop-left.left c.min-counter.result c.bytes.result.now c.loop-left.client c.args.client.now _ c.loop-left-test.true c.min-counter.ensures
    (c.bytes.ensures.value ∙ c.overflow_frame-frame.ensures ∙ rw (c.from_bytes.ensures, c.from_bytes-in-loop-left.ensures) refl) c.loop-left.invariant).1
