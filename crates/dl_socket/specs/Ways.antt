-- The ways that levels take to the programs that have their contexts.
use Rattle.std.specs.Prelude.{◌≡◌, ◌/◌, ◌<◌, ℕ, List, [], ◌∷◌, slice_get, Option, Some, None}
use Rattle.std.specs.List.{AllByRecursion}
use Rattle.dl_bytes.specs.Limits.{context_limit}
use Rattle.dl_cells.specs.declared.level_history.Change.{Change}
use Rattle.dl_model.specs.Registry.{Registry}
use Rattle.dl_registry.specs.Kept.{channel_at, position_at}
use Rattle.dl_channel.specs.Levels.{with_level}
use Rattle.dl_channel.specs.State.{Outbox}
use Rattle.dl_channel_turns.specs.State.{changed}
use Rattle.dl_socket.specs.declared.ways.Way.{Way}

-- the way to a channel and to a position, where there are both
abbrev pub way_to : Option ℕ → Option ℕ → Option Way
way_to (Some channel) (Some position) = Some (record { channel = channel; position = position })
way_to (Some channel) None = None
way_to None position = None

-- the way of a slot: to the channel of the application that has it, and to the position of its context
abbrev pub way_of : Registry → ℕ → Option Way
way_of registry slot = way_to (channel_at registry (slot / context_limit)) (position_at registry slot)

-- these are the ways of all slots
abbrev pub AreWaysOf : Registry → List (Option Way) → Type 0
AreWaysOf registry ways = (slot : ℕ) → slot < 1024 → slice_get ways slot ≡ Some (way_of registry slot)

-- A level goes its way: it is put for the channel. Where there is no way it goes nowhere.
abbrev pub sent_by : Option Way → ℕ → List (ℕ × Outbox) → List (ℕ × Outbox)
sent_by (Some way) level outboxes = changed way.channel (with_level level way.position) outboxes
sent_by None level outboxes = outboxes

-- that of a slot
abbrev pub sent_along : Option (Option Way) → ℕ → List (ℕ × Outbox) → List (ℕ × Outbox)
sent_along (Some way) level outboxes = sent_by way level outboxes
sent_along None level outboxes = outboxes

-- levels that were set one after the other, each by the way of its slot
abbrev pub sent_each : List (Option Way) → List Change → List (ℕ × Outbox) → List (ℕ × Outbox)
sent_each ways [] outboxes = outboxes
sent_each ways (c ∷ changes) outboxes = sent_each ways changes (sent_along (slice_get ways c.slot) c.level outboxes)

-- all of them in slots that there are
abbrev pub AreInSlots : List Change → Type 0
AreInSlots changes = AllByRecursion (λ (c : Change). c.slot < 1024) changes
