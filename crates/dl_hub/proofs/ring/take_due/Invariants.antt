use Rattle.std.proofs.Common.{◌≡◌, ◌≤◌, length}
use Rattle.dl_hub.specs.Untaken.{AreDue, AreShort, in_front, past}
use Rattle.dl_hub.proofs.ring.take_due.Given as goal

abbrev pub invariant-loop-left : goal.invariant-loop-left
invariant-loop-left l = record {
  due : past l.left l.due.items ≡ past l.fn.count l.fn.due.items;
  front : in_front l.begun l.left l.due.items ≡ in_front l.fn.begun l.fn.count l.fn.due.items;
  large : AreDue 1 l.due.items;
  short : AreShort l.begun l.due.items;
  room : length l.due.items ≤ l.due.capacity;
  same : l.due.capacity ≡ l.fn.due.capacity;
}

abbrev pub decreases-loop-left : goal.decreases-loop-left
decreases-loop-left l = l.left
