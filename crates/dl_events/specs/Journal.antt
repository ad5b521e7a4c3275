-- What a journal keeps.
use Rattle.std.specs.Prelude.{◌≡◌, ℕ, ◌+◌, ◌-◌, ◌^◌, min, List, [], ◌∷◌, ◌++◌, Option, Some, None}
use Rattle.dl_events.specs.declared.event.Event.{Event}

-- the events, and how many more it can take with no memory
pub record Journaled : Type 0 where
  pub events : List Event
  pub spare : ℕ

-- how many events there were, and how many more it can take
pub record Count : Type 0 where
  pub noted : ℕ
  pub spare : ℕ

-- one more, as a count of 64 bits has it: at the top it stands
abbrev pub one_more : ℕ → ℕ
one_more count = min (count + 1) (2 ^ 64 - 1)

-- the event stands at the end of the list, where the list is kept; where it isn't, it isn't afterwards
abbrev pub Adds : Option (List Event) → Option (List Event) → Event → Type 0
Adds (Some events) new event = new ≡ Some (events ++ event ∷ [])
Adds None new event = new ≡ None
