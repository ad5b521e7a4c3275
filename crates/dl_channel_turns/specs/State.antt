-- What a turn of a channel sees and changes.
use Rattle.std.specs.Prelude.{ℕ, nat_eq, not, List, Option}
use Rattle.std.specs.List.{filter}
use Rattle.std.specs.Map.{lookup, set_value}
use Rattle.std.specs.Option.{option_map_or}
use Rattle.dl_events.specs.declared.event.Event.{Event}
use Rattle.dl_outside.specs.Told.{FolderTold, LinkTold}
use Rattle.dl_user.specs.Channel as cutter
use Rattle.dl_channel.specs.State.{Outbox}
use Rattle.dl_core.specs.State.{Core}
use Rattle.dl_admission.specs.Part.{Part}

-- ---- outboxes by the numbers of their channels

-- that of a channel, where it is open
abbrev pub outbox_of : List (ℕ × Outbox) → ℕ → Option Outbox
outbox_of outboxes channel = lookup (nat_eq channel) outboxes

-- with that of a channel changed, where it is open
abbrev pub changed : ℕ → (Outbox → Outbox) → List (ℕ × Outbox) → List (ℕ × Outbox)
changed channel change outboxes = option_map_or (λ outbox. set_value (nat_eq channel) outboxes (change outbox)) (outbox_of outboxes channel) outboxes

-- without that of a channel
abbrev pub without : ℕ → List (ℕ × Outbox) → List (ℕ × Outbox)
without channel outboxes = filter (λ entry. not (nat_eq channel entry.0)) outboxes

-- ---- the sides

-- The daemon's side: the core, what waits for the channels, the events of the journal where it keeps them, and what the folder tells.
pub record Side : Type 0 where
  pub core : Core
  pub outboxes : List (ℕ × Outbox)
  pub events : Option (List Event)
  pub folder : FolderTold

abbrev pub side : Core → List (ℕ × Outbox) → Option (List Event) → FolderTold → Side
side core outboxes events folder = record { core = core; outboxes = outboxes; events = events; folder = folder }

-- without what waits for the channels
abbrev pub part_of : Side → Part
part_of side = record { core = side.core; events = side.events; folder = side.folder }

-- what a channel's link tells, what is held of what its program sent, and the daemon's side
pub record Stage : Type 0 where
  pub link : LinkTold
  pub inbox : cutter.Channel
  pub side : Side

-- the stage of a link, an inbox, a core, outboxes, a journal and a folder, where these are the words for what they tell
abbrev pub seen : {L J F : Type 0} → (L → LinkTold) → (J → Option (List Event)) → (F → FolderTold) → L → cutter.Channel → Core → List (ℕ × Outbox) → J → F → Stage
seen link_told events folder_told link inbox core outboxes journal folder =
    record { link = link_told link; inbox = inbox; side = side core outboxes (events journal) (folder_told folder) }
