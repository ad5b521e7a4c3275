-- What becomes of a user message of a channel.
use Rattle.std.specs.Prelude.{◌≡◌, ℕ, Bool, true, false, List, [], ◌∷◌}
use Rattle.std.specs.List.{AllByRecursion, flat_map}
use Rattle.dl_bytes.specs.declared.moment.Moment.{Moment}
use Rattle.dl_bytes.specs.declared.user.UserMsg.{UserMsg}
use Rattle.dl_core.specs.Admission.{IsLog, has_frames}
use Rattle.dl_core.specs.Noting.{NotesMessage}
use Rattle.dl_core.specs.Registering.{Registers, applied_now}
use Rattle.dl_registry.specs.Kept.{owed_change}
use Rattle.dl_admission.specs.Admission.{Forwards, ForwardsAll}
use Rattle.dl_channel_turns.specs.Levels.{HaveToldLevels, answer_to, answered, registration_of}
use Rattle.dl_channel_turns.specs.State.{Side, part_of}

-- A message without frames was handed to the registry, and its event is noted. A context that it registers is told its level at once, where it owes
-- no Level event.
pub record Notes (channel : ℕ) (moment : Moment) (msg : UserMsg) (old new : Side) : Type 0 where
  pub notes : NotesMessage moment channel msg old.core new.core old.folder new.folder old.events new.events
  pub registers : Registers channel msg old.core new.core.registry
  pub outboxes : new.outboxes
      ≡ answered channel (answer_to (registration_of msg) (applied_now old.core channel msg) (owed_change new.core.registry)) old.outboxes
  pub rest : new.core ≡ record old.core { registry = new.core.registry; hub = new.core.hub; trace = new.core.trace }

-- A message that has frames is admitted, behind the Closes of the clients that are too slow for it, and nothing is told. Any other one is
-- noted, and the Level events that it owes follow, each told its channel. So a context that registers is told its level in any case.
abbrev pub Serves : Bool → ℕ → Moment → UserMsg → Side → Side → Type 0
Serves true channel moment msg old new = Forwards moment channel msg (part_of old) (part_of new) × (new.outboxes ≡ old.outboxes)
Serves false channel moment msg old new = (between : Side) × Notes channel moment msg old between × HaveToldLevels between new

abbrev pub ServesOne : ℕ → Moment → UserMsg → Side → Side → Type 0
ServesOne channel moment msg old new = Serves (has_frames msg) channel moment msg old new

-- ---- in groups

-- What is taken in at once: log messages, or a message by itself.
pub data Group : Type 0 where
  Together : List UserMsg → Group
  Alone : UserMsg → Group

abbrev pub messages_in_group : Group → List UserMsg
messages_in_group (Together msgs) = msgs
messages_in_group (Alone msg) = msg ∷ []

-- the messages of groups, in order
abbrev pub messages_of : List Group → List UserMsg
messages_of groups = flat_map messages_in_group groups

-- Log messages are admitted, each behind the Closes of the clients that are too slow for it, and nothing is told.
abbrev pub ServesGroup : ℕ → Moment → Group → Side → Side → Type 0
ServesGroup channel moment (Together msgs) old new =
    AllByRecursion IsLog msgs × ForwardsAll moment channel msgs (part_of old) (part_of new) × (new.outboxes ≡ old.outboxes)
ServesGroup channel moment (Alone msg) old new = ServesOne channel moment msg old new
