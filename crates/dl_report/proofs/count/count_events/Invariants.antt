use Rattle.std.proofs.Common.{◌≡◌, take}
use Rattle.std.specs.List.{filter_map}
use Rattle.dl_report.specs.Counts.{HasNoted, close_in}
use Rattle.dl_report.proofs.count.count_events.Given as goal

-- the events so far were noted
abbrev pub invariant-loop-event : goal.invariant-loop-event
invariant-loop-event l = record {
  noted : HasNoted (take l.event-index l.events) l.initial.table l.table;
  closes : l.closes.items ≡ filter_map close_in (take l.event-index l.events);
}
