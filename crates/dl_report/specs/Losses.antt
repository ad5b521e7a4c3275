-- The losses that a journal tells.
use Rattle.std.specs.Prelude.{ℕ, List, sum_by}
use Rattle.dl_events.specs.declared.event.Event.{Event}
use Rattle.dl_events.specs.declared.event.Event.TheVariants.{Lost}

-- how many lost calls an event tells, whichever their application
abbrev pub told_in : Event → ℕ
told_in (Lost app count moment) = count
told_in _ = 0

-- how many a journal tells
abbrev pub told : List Event → ℕ
told events = sum_by told_in events
