-- What the whole report needs of records and events.
use Rattle.std.specs.Prelude.{◌≡◌, ℕ, List, length}
use Rattle.std.specs.List.{filter_map}
use Rattle.dl_events.specs.declared.event.Event.{Event}
use Rattle.dl_events.specs.declared.record.Record.{Record}
use Rattle.dl_report.specs.declared.count.Tally.{Tally}
use Rattle.dl_report.specs.Counts.{Each, IsCount, AreAtMost, close_in}

-- so many applications, with the counts of each, and all clients that went
pub record IsTally (records : List Record) (events : List Event) (apps : ℕ) (tally : Tally) : Type 0 where
  pub size : length tally.apps.items ≡ apps
  pub counts : Each (IsCount records events) tally.apps.items
  pub bounds : Each (AreAtMost 4722366482869645213696 340282366920938463463374607431768211456) tally.apps.items
  pub closes : tally.closes.items ≡ filter_map close_in events
