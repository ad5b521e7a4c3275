-- Level events, each told the program that has the context.
use Rattle.std.specs.Prelude.{◌≡◌, ℕ, ◌/◌, List, [], ◌∷◌, Option, Some, None, Result, Ok, Err}
use Rattle.std.specs.Option.{option_and_then, option_map}
use Rattle.dl_bytes.specs.Limits.{context_limit}
use Rattle.dl_bytes.specs.declared.user.UserMsg.{UserMsg}
use Rattle.dl_bytes.specs.declared.user.UserMsg.TheVariants.{RegisterContext}
use Rattle.dl_events.specs.declared.event.Event.TheVariants as event
use Rattle.dl_model.specs.Registry.{Registry, level_at}
use Rattle.dl_model.specs.declared.registry.LevelChange.{LevelChange}
use Rattle.dl_model.specs.declared.registry.RegistryFault.{RegistryFault}
use Rattle.dl_registry.specs.Kept.{channel_at, owed_change, position_at, slot_named, with_change}
use Rattle.dl_channel.specs.Levels.{level_message, with_level, with_message}
use Rattle.dl_channel.specs.State.{Outbox}
use Rattle.dl_core.specs.Admission.{AddsEach}
use Rattle.dl_core.specs.Follows.{AddsAlone}
use Rattle.dl_channel_turns.specs.State.{Side, changed}
use Rattle.dl_channel_turns.specs.declared.registration.Registration.{Registration}

-- A level is put for a channel, with the position of the context, where there is such a context.
abbrev pub put_for : Option ℕ → Option ℕ → ℕ → List (ℕ × Outbox) → List (ℕ × Outbox)
put_for (Some channel) (Some position) level outboxes = changed channel (with_level level position) outboxes
put_for (Some channel) None level outboxes = outboxes
put_for None position level outboxes = outboxes

-- a level that was set in a slot is put for the channel of the application that has the slot
abbrev pub told : Registry → LevelChange → List (ℕ × Outbox) → List (ℕ × Outbox)
told registry change outboxes = put_for (channel_at registry (change.slot / context_limit)) (position_at registry change.slot) change.level outboxes

-- the next Level event that is owed was noted, and is put for its channel
pub record TellsLevel (next : LevelChange) (old new : Side) : Type 0 where
  pub owed : owed_change old.core.registry ≡ Some next
  pub core : new.core ≡ record old.core { registry = with_change old.core.registry (Some next) }
  pub after : AddsAlone (event.Level next.slot next.level ∷ []) old.core new.core
  pub events : AddsEach old.events new.events (event.Level next.slot next.level ∷ [])
  pub outboxes : new.outboxes ≡ told old.core.registry.registry next old.outboxes
  pub folder : new.folder ≡ old.folder

-- all Level events that are owed were noted, one after the other
abbrev pub TellsLevels : List LevelChange → Side → Side → Type 0
TellsLevels [] old new = (new ≡ old) × (owed_change old.core.registry ≡ None)
TellsLevels (next ∷ others) old new = (between : Side) × TellsLevel next old between × TellsLevels others between new

abbrev pub HaveToldLevels : Side → Side → Type 0
HaveToldLevels old new = (changes : List LevelChange) × TellsLevels changes old new

-- ---- the answer to a registration

-- what a message registers, where it registers a context
abbrev pub registration_of : UserMsg → Option Registration
registration_of (RegisterContext apid ctid position level trace pid text) = Some (record { apid = apid; ctid = ctid; position = position })
registration_of other = None

-- the message that tells the level of a context that is there, for the position that it was registered with
abbrev pub level_of : Registry → Registration → Option (List ℕ)
level_of registry asked = option_map (λ level. level_message level asked.position) (option_and_then (level_at registry) (slot_named registry asked.apid asked.ctid))

-- A registration that is accepted is answered with the context's level. Where it owes a Level event, that is the answer, and so there is none here; and
-- none where the registration is refused.
abbrev pub answer_to : Option Registration → Result Registry RegistryFault → Option LevelChange → Option (List ℕ)
answer_to (Some asked) (Ok registry) None = level_of registry asked
answer_to (Some asked) (Ok registry) (Some owed) = None
answer_to (Some asked) (Err refusal) owed = None
answer_to None outcome owed = None

-- what was asked for, where it was not refused
abbrev pub unless_refused : Option RegistryFault → Option Registration → Option Registration
unless_refused None asked = asked
unless_refused (Some refusal) asked = None

-- an answer is put for the channel that asked
abbrev pub answered : ℕ → Option (List ℕ) → List (ℕ × Outbox) → List (ℕ × Outbox)
answered channel (Some message) outboxes = changed channel (with_message message) outboxes
answered channel None outboxes = outboxes
