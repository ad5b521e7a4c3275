-- What the calls of channels come to.
use Rattle.std.specs.Prelude.{◌≡◌, ◌++◌, ℕ, List, [], ◌∷◌, Option, Some}
use Rattle.dl_bytes.specs.declared.moment.Moment.{Moment}
use Rattle.dl_channel.specs.State.{Outbox}
use Rattle.dl_channel.specs.declared.outcome.ChannelEnd.{ChannelEnd}
use Rattle.dl_channel_turns.specs.Levels.{told}
use Rattle.dl_channel_turns.specs.Pumping.{PumpsOne}
use Rattle.dl_channel_turns.specs.State.{Side, Stage, side}
use Rattle.dl_channel_turns.specs.Turns as one
use Rattle.dl_core.specs.State.{Core}
use Rattle.dl_desk.specs.Told.{ControlTold}
use Rattle.dl_events.specs.declared.event.Event.{Event}
use Rattle.dl_events.specs.declared.event.Why.{Why}
use Rattle.dl_cells.specs.declared.level_history.Change.{Change}
use Rattle.dl_message.specs.Cutting.{Cutting}
use Rattle.dl_model.specs.Registry.{Registry}
use Rattle.dl_outside.specs.Told.{FolderTold, LinkTold}
use Rattle.dl_turns.specs.Events.{IsDeskOf}
use Rattle.dl_turns.specs.State.{stage}
use Rattle.dl_turns.specs.Turns as client
use Rattle.dl_user.specs.Channel as cutter
use Rattle.dl_socket.specs.Channels.{Channels, inbox_of, with_turn}
use Rattle.dl_socket.specs.Messenger.{full_queue}

-- what a call sees and changes beside the channels: a link, the core, the events of the journal where it keeps them, and what the folder tells
pub record ChannelView : Type 0 where
  pub link : LinkTold
  pub core : Core
  pub events : Option (List Event)
  pub folder : FolderTold

abbrev pub sight : LinkTold → Core → Option (List Event) → FolderTold → ChannelView
sight link core events folder = record { link = link; core = core; events = events; folder = folder }

-- the same of a link, a journal and a folder, by what these tell
abbrev pub seen : {L J F : Type 0} → (L → LinkTold) → (J → Option (List Event)) → (F → FolderTold) → L → Core → J → F → ChannelView
seen link_told events folder_told link core journal folder = sight (link_told link) core (events journal) (folder_told folder)

-- the daemon's side with what waits for channels, by what a journal and a folder tell
abbrev pub side_of : {J F : Type 0} → (J → Option (List Event)) → (F → FolderTold) → Core → Channels → J → F → Side
side_of events folder_told core channels journal folder = side core channels.outboxes (events journal) (folder_told folder)

-- what a channel's turn sees before it, and after it
abbrev pub stage_before : ChannelView → cutter.Channel → Channels → Stage
stage_before before inbox old = record { link = before.link; inbox = inbox; side = side before.core old.outboxes before.events before.folder }

abbrev pub stage_after : ChannelView → cutter.Channel → Channels → Stage
stage_after after inbox new = record { link = after.link; inbox = inbox; side = side after.core new.outboxes after.events after.folder }

-- A channel had its turn: what it holds of what its program sent is as that leaves it, and so is what waits for all channels.
pub record HasTurned (channel : ℕ) (moment : Moment) (end : Option ChannelEnd) (before after : ChannelView) (old new : Channels) : Type 0 where
  pub inbox : cutter.Channel
  pub inbox_now : cutter.Channel
  pub was : inbox_of old.inboxes channel ≡ Some inbox
  pub turn : one.IsTurn channel moment end
      (stage_before before inbox old) (stage_after after inbox_now new)
  pub is : new ≡ with_turn channel inbox_now new.outboxes old

-- What waits for a channel was sent.
pub record HasPumped (channel : ℕ) (end : Option ChannelEnd) (link link_now : LinkTold) (old new : Channels) : Type 0 where
  pub pumps : PumpsOne channel end old.outboxes new.outboxes link link_now
  pub is : new ≡ record old { outboxes = new.outboxes }

-- levels that were set one after the other, each told the program that has its context
abbrev pub told_each : Registry → List Change → List (ℕ × Outbox) → List (ℕ × Outbox)
told_each registry [] outboxes = outboxes
told_each registry (c ∷ changes) outboxes = told_each registry changes (told registry (record { slot = c.slot; level = c.level }) outboxes)

-- A client had its turn: the levels that its requests set are told the programs that have their contexts, in order. What sets the levels has the
-- versions of the registry before it, and no queue took an injection.
pub record HasAsked (number : ℕ) (why : Option Why) (cutter cutter_now : Cutting) (before after : ChannelView) (old new : Channels) : Type 0 where
  pub desk : ControlTold
  pub desk_now : ControlTold
  pub desk_so : IsDeskOf before.core.registry desk
  pub turn : client.IsTurn number why (stage before.link cutter before.core desk before.events before.folder)
      (stage after.link cutter_now after.core desk_now after.events after.folder)
  pub changes : List Change
  pub sets : desk_now.sets ≡ desk.sets ++ changes
  pub pushed : (app : ℕ) → (desk.pushed app ≡ full_queue) × (desk_now.pushed app ≡ full_queue)
  pub told_so : new.outboxes ≡ told_each before.core.registry.registry changes old.outboxes
  pub is : new ≡ record old { outboxes = new.outboxes }
