-- Which levels are put for a channel.
use Rattle.std.specs.Prelude.{◌≡◌, ◌==◌, ◌/◌, ◌+◌, ◌<◌, ◌⊎◌, ℕ, true, false, List, [], ◌∷◌, ◌++◌, length, map, Option, Some, None, Ok, if◌then◌else◌}
use Rattle.std.specs.List.{concat, flat_map}
use Rattle.std.specs.Option.{option_map}
use Rattle.dl_bytes.specs.Limits.{context_limit}
use Rattle.dl_events.specs.declared.event.Event.{Event}
use Rattle.dl_events.specs.declared.event.Event.TheVariants as event
use Rattle.dl_model.specs.Registry.{Registry, context_named, effective}
use Rattle.dl_model.specs.declared.registry.LevelChange.{LevelChange}
use Rattle.dl_registry.specs.Kept.{channel_at, position_at}
use Rattle.dl_channel.specs.Levels.{level_message}
use Rattle.dl_channel.specs.State.{Outbox, waiting_limit}
use Rattle.dl_core.specs.Admission.{AddsEach}
use Rattle.dl_channel_turns.specs.Levels.{answer_to}
use Rattle.dl_channel_turns.specs.State.{Side, outbox_of}

-- the message of a level for this channel, where the application is the channel's and its context has a position
abbrev pub to_channel : ℕ → Option ℕ → Option ℕ → ℕ → List (List ℕ)
to_channel channel (Some other) (Some position) level = if other == channel then level_message level position ∷ [] else []
to_channel channel (Some other) None level = []
to_channel channel None position level = []

-- that of a level that was set in a slot
abbrev pub message_for : Registry → ℕ → LevelChange → List (List ℕ)
message_for registry channel change = to_channel channel (channel_at registry (change.slot / context_limit)) (position_at registry change.slot) change.level

-- that of an answer to a channel, where it is this one
abbrev pub answer_for : ℕ → ℕ → Option (List ℕ) → List (List ℕ)
answer_for channel other (Some message) = if other == channel then message ∷ [] else []
answer_for channel other None = []

-- the messages for a channel of levels that were set one after the other
abbrev pub messages_for : Registry → ℕ → List LevelChange → List (List ℕ)
messages_for registry channel changes = flat_map (message_for registry channel) changes

-- their events
abbrev pub level_event : LevelChange → Event
level_event change = event.Level change.slot change.level

-- Messages were put, one behind the other, up to the first that found no room: those that were are the first of them, and all where the outbox
-- isn't full. The next one would not have fit, unless the outbox was full before.
pub record ArePut (messages : List (List ℕ)) (old new : Outbox) : Type 0 where
  pub fitting : List (List ℕ)
  pub others : List (List ℕ)
  pub all : messages ≡ fitting ++ others
  pub waiting : new.waiting ≡ old.waiting ++ concat fitting
  pub every : new.full ≡ false → others ≡ []
  pub first_out : (next : List ℕ) (behind : List (List ℕ)) → others ≡ next ∷ behind → (old.full ≡ true) ⊎ (waiting_limit < length new.waiting + length next)

-- The Level events are just those of the levels, and the channel's outbox is as their messages for it leave it.
pub record IsPut (channel : ℕ) (changes : List LevelChange) (outbox : Outbox) (old new : Side) : Type 0 where
  pub events : AddsEach old.events new.events (map level_event changes)
  pub outbox_now : Outbox
  pub is_now : outbox_of new.outboxes channel ≡ Some outbox_now
  pub put : ArePut (messages_for old.core.registry.registry channel changes) outbox outbox_now

-- ---- answers

-- A context that was registered is answered: it has a level in what the message left, and where no Level event is owed the answer is just the one message
-- that tells it, for the position that the message gave.
abbrev pub IsAnswered : List ℕ → List ℕ → ℕ → Registry → Type 0
IsAnswered apid ctid position left =
    (level : ℕ) × (option_map (λ named. effective left.level named.1) (context_named left apid ctid) ≡ Some level)
    × (answer_to (Some (record { apid = apid; ctid = ctid; position = position })) (Ok left) None ≡ Some (level_message level position))
