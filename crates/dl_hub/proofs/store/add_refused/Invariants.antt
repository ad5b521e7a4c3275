use Rattle.std.proofs.Common.{◌≡◌}
use Rattle.dl_model.specs.Overflow.{overflow_frames}
use Rattle.dl_control.specs.Reply.{daemon_apid, daemon_ctid}
use Rattle.dl_hub.specs.Overflow.{with_frames, records_due, CanTake}
use Rattle.dl_hub.proofs.store.add_refused.Given as goal

abbrev pub invariant-loop-left : goal.invariant-loop-left
invariant-loop-left l =
    (with_frames (overflow_frames l.ecu daemon_apid daemon_ctid l.left) (records_due l.ecu l.left) l.client ≡ with_frames (overflow_frames l.ecu daemon_apid daemon_ctid l.fn.refused) (records_due l.ecu l.fn.refused) l.fn.client)
    × CanTake (overflow_frames l.ecu daemon_apid daemon_ctid l.left) l.client

abbrev pub decreases-loop-left : goal.decreases-loop-left
decreases-loop-left l = l.left
