use Rattle.std.proofs.Common.{◌≡◌, ◌≤◌, ◌*◌, take}
use Rattle.dl_core.specs.Admission.{message_frames}
use Rattle.dl_model.specs.Backlog.{size_of}
use Rattle.dl_core.proofs.daemon.Core.messages_need.Given as goal

abbrev pub invariant-loop-place : goal.invariant-loop-place
invariant-loop-place l = record {
  sum : l.need ≡ size_of (message_frames l.fn.self.ecu (take l.place l.fn.msgs.items));
  small : l.need ≤ 1984 * l.place;
}
