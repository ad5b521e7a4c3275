use Rattle.std.proofs.Common.{◌≡◌, ◌++◌, List, drop}
use Rattle.std.specs.List.{flat_map}
use Rattle.dl_events.specs.declared.event.Event.{Event}
use Rattle.dl_events.specs.declared.record.Record.{Record}
use Rattle.dl_model.specs.Report.{app_lines}
use Rattle.dl_report.specs.Counts.{Each, IsCount}
use Rattle.dl_report.proofs.whole.push_apps.Given as goal

-- the lines so far, and those of the applications that are left, are all lines
abbrev pub invariant-loop-number : goal.invariant-loop-number
invariant-loop-number l = (records : List (List Record)) (events : List Event) → Each (IsCount (flat_map (λ (rs : List Record). rs) records) events) l.table
    → l.text.items ++ app_lines records events l.number (drop l.number l.specs) ≡ l.initial.text.items ++ app_lines records events 0 l.specs
