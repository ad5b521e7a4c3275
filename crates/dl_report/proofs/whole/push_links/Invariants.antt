use Rattle.std.proofs.Common.{◌≡◌, ◌++◌, List, take}
use Rattle.std.specs.Prelude.{option_map}
use Rattle.std.specs.List.{flat_map, filter_map}
use Rattle.dl_events.specs.declared.event.Event.{Event}
use Rattle.dl_model.specs.Report.{client_lines}
use Rattle.dl_report.specs.Counts.{close_in}
use Rattle.dl_report.proofs.whole.push_links.Given as goal

-- the lines of the clients so far were added
abbrev pub invariant-loop-link : goal.invariant-loop-link
invariant-loop-link l = (events : List Event) → l.closes ≡ filter_map close_in events
    → l.text.items ≡ l.initial.text.items ++ flat_map (client_lines events (option_map (λ f. f.now) l.frames)) (take l.link-index l.links)
