-- What the links of programs took: the levels that these were told.
use Rattle.std.specs.Prelude.{◌≡◌, ◌<◌, ◌+◌, ◌++◌, ◌∷◌, ℕ, List, [], length, slice_get, Option, Some, None}
use Rattle.std.specs.List.{concat}
use Rattle.dl_channel.specs.State.{waiting_limit}
use Rattle.dl_channel.specs.declared.outcome.ChannelEnd.{ChannelEnd}
use Rattle.dl_channel.specs.declared.outcome.ChannelEnd.TheVariants.{Slow}
use Rattle.dl_channel_turns.specs.Levels.{answer_to, registration_of}
use Rattle.dl_channel_turns.specs.Put.{answer_for, message_for}
use Rattle.dl_events.specs.declared.event.Event.{Event}
use Rattle.dl_events.specs.declared.event.Event.TheVariants as event
use Rattle.dl_model.specs.Along.{along}
use Rattle.dl_model.specs.Journal.{owed, registry_of, slots_of}
use Rattle.dl_model.specs.Registry.{applied}
use Rattle.dl_model.specs.Setting.{Setting}
use Rattle.dl_outside.specs.Told.{LinkTold}

-- The message that an event puts for a channel, after the events before it: that of a level, where its slot is of an application of the channel; and the
-- answer to a registration of its own, which tells the context's level where no Level event is owed for it.
abbrev pub message_at : Setting → ℕ → List Event → Event → List (List ℕ)
message_at setting channel before (event.Level slot level) = message_for (registry_of setting before) channel (record { slot = slot; level = level })
message_at setting channel before (event.User other msg moment) =
    answer_for channel other
    (answer_to (registration_of msg) (applied (slots_of setting before) (registry_of setting before) other msg)
    (owed setting (before ++ event.User other msg moment ∷ [])))
message_at setting channel before other = []

-- the bytes of all of them, in the journal's order
abbrev pub levels_put : Setting → ℕ → List Event → List ℕ
levels_put setting channel events = concat (along (message_at setting channel) events)

-- The link of a channel took the front of these bytes, where links tell that, and all of them where the channel is open at the end and the link never had
-- to wait; and a channel ended as slow only where they are more than may wait.
pub record TookLevels (Tells : Type 0) (setting : Setting) (events : List Event) (channel : ℕ) (link : LinkTold) (end : Option ChannelEnd) : Type 0 where
  pub taken : List ℕ
  pub rest : List ℕ
  pub all : levels_put setting channel events ≡ taken ++ rest
  pub told : Tells → link.taken ≡ Some taken
  pub complete : end ≡ None → link.waits ≡ 0 → rest ≡ []
  pub slow : end ≡ Some Slow → waiting_limit < length (levels_put setting channel events)

-- so it is of each channel that came, by number
abbrev pub AllTookLevels : Type 0 → Setting → List Event → List LinkTold → List (Option ChannelEnd) → Type 0
AllTookLevels Tells setting events links ends = (place : ℕ) (link : LinkTold) (end : Option ChannelEnd) → slice_get links place ≡ Some link → slice_get ends place ≡ Some end
    → TookLevels Tells setting events (place + 1) link end
