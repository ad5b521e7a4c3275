-- How clients went, counted.
use Rattle.std.specs.Prelude.{ℕ, ◌-◌, ◌^◌, Bool, true, false, min, count_by, List}
use Rattle.dl_events.specs.declared.closes.Closes.{Closes}
use Rattle.dl_events.specs.declared.event.Event.{Event}
use Rattle.dl_events.specs.declared.event.Event.TheVariants as event
use Rattle.dl_events.specs.declared.event.Why.{Why}
use Rattle.dl_events.specs.declared.event.Why.TheVariants as why

-- ---- causes

abbrev pub is_left : Why → Bool
is_left why.Left = true
is_left other = false

abbrev pub is_broken : Why → Bool
is_broken why.Broken = true
is_broken other = false

abbrev pub is_slow : Why → Bool
is_slow (why.Slow room need) = true
is_slow other = false

abbrev pub is_malformed : Why → Bool
is_malformed why.Malformed = true
is_malformed other = false

abbrev pub is_too_many : Why → Bool
is_too_many why.TooMany = true
is_too_many other = false

abbrev pub is_no_memory : Why → Bool
is_no_memory why.NoMemory = true
is_no_memory other = false

-- a client was closed, for such a cause
abbrev pub is_close : (Why → Bool) → Event → Bool
is_close is (event.Close client why) = is why
is_close is other = false

-- how many were, as a count of 64 bits has it: at the top it stands
abbrev pub closed_for : (Why → Bool) → List Event → ℕ
closed_for is events = min (count_by (is_close is) events) (2 ^ 64 - 1)

-- how many were for each cause but the daemon's stop
abbrev pub closes_in : List Event → Closes
closes_in events = record {
  left = closed_for is_left events;
  broken = closed_for is_broken events;
  slow = closed_for is_slow events;
  malformed = closed_for is_malformed events;
  too_many = closed_for is_too_many events;
  no_memory = closed_for is_no_memory events;
}
