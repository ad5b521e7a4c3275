-- What a journal tells that keeps no event.
use Rattle.std.specs.Prelude.{ℕ, ◌-◌, ◌^◌, min, length, List}
use Rattle.dl_events.specs.declared.event.Event.{Event}

-- all events that were noted, the first one first; how many there were, as it counts; and how many more it can take with no memory
pub record Told : Type 0 where
  pub events : List Event
  pub noted : ℕ
  pub spare : ℕ

-- how many events a list has, as a count of 64 bits has it: at the top it stands
abbrev pub count : List Event → ℕ
count events = min (length events) (2 ^ 64 - 1)
