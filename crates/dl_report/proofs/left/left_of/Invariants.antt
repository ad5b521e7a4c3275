use Rattle.std.proofs.Common.{◌≡◌, take}
use Rattle.dl_report.specs.Following.{IsAfter}
use Rattle.dl_report.proofs.left.left_of.Given as goal

-- what waits is that of the events so far
abbrev pub invariant-loop-event : goal.invariant-loop-event
invariant-loop-event l = record {
  after : IsAfter l.sources (take l.event-index l.events) l.waiting;
  limit : l.waiting.limit ≡ l.initial.waiting.limit;
}
