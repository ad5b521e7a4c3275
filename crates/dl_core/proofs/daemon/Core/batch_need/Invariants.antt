use Rattle.std.proofs.Common.{◌≡◌, ◌≤◌, ◌*◌, map, take}
use Rattle.dl_message.specs.Frames.{log_message}
use Rattle.dl_model.specs.Backlog.{size_of}
use Rattle.dl_core.proofs.daemon.Core.batch_need.Given as goal

abbrev pub invariant-loop-item : goal.invariant-loop-item
invariant-loop-item l = record {
  sum : l.need ≡ size_of (map (log_message l.fn.self.ecu) (take l.item-index l.items));
  small : l.need ≤ 1416 * l.item-index;
}
