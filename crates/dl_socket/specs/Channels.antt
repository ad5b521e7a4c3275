-- What contracts see of the channels.
use Rattle.std.specs.Prelude.{◌≡◌, ◌<◌, ◌≤◌, ◌+◌, ℕ, nat_eq, List, [], ◌∷◌, ◌++◌, length, filter, not, Option, is_some, IsSome}
use Rattle.std.specs.Map.{keys_of, lookup, set_value}
use Rattle.dl_channel.specs.State.{Outbox, empty}
use Rattle.dl_channel_turns.specs.State.{outbox_of}
use Rattle.dl_user.specs.Channel as cutter
use Rattle.dl_user.specs.Channel.{unfed}
use Rattle.dl_socket.specs.declared.fault.ChannelFault.{ChannelFault}
use Rattle.dl_socket.specs.declared.fault.ChannelFault.TheVariants as fault

-- The channels that are open, by their numbers: what waits for each, and what each sent that is no message yet. So many were opened; so many may be
-- open at once, and so many in all.
pub record Channels : Type 0 where
  pub outboxes : List (ℕ × Outbox)
  pub inboxes : List (ℕ × cutter.Channel)
  pub opened : ℕ
  pub at_once : ℕ
  pub in_all : ℕ

-- what a channel sent that is no message yet, where it is open
abbrev pub inbox_of : List (ℕ × cutter.Channel) → ℕ → Option cutter.Channel
inbox_of inboxes channel = lookup (nat_eq channel) inboxes

-- the channels that are open, in order
abbrev pub open_in : Channels → List ℕ
open_in channels = keys_of channels.inboxes

abbrev pub IsOpen : ℕ → Channels → Type 0
IsOpen channel channels = IsSome (inbox_of channels.inboxes channel)

-- the most that may be open at once, and in all, in a run that ends
abbrev pub open_channel_limit : ℕ
open_channel_limit = 16

abbrev pub channel_limit : ℕ
channel_limit = 256

-- none was opened yet
abbrev pub none_opened : ℕ → ℕ → Channels
none_opened at_once in_all = record { outboxes = []; inboxes = []; opened = 0; at_once = at_once; in_all = in_all }

-- with a channel more, which sent nothing yet, and for which nothing waits
abbrev pub with_channel : ℕ → Channels → Channels
with_channel channel channels = record channels {
  outboxes = channels.outboxes ++ (channel, empty) ∷ [];
  inboxes = channels.inboxes ++ (channel, unfed) ∷ [];
  opened = channel;
}

-- with what a channel sent changed, and with what waits
abbrev pub with_turn : ℕ → cutter.Channel → List (ℕ × Outbox) → Channels → Channels
with_turn channel inbox outboxes channels = record channels { inboxes = set_value (nat_eq channel) channels.inboxes inbox; outboxes = outboxes }

-- without that of a channel
abbrev pub without_inbox : ℕ → List (ℕ × cutter.Channel) → List (ℕ × cutter.Channel)
without_inbox channel inboxes = filter (λ entry. not (nat_eq channel entry.0)) inboxes

-- A channel opens under the next number, where fewer are open than may be at once, and fewer were opened than may be in all.
abbrev pub Opens : ℕ → Channels → Channels → Type 0
Opens channel old new = (old.opened < old.in_all) × (length old.inboxes < old.at_once) × (channel ≡ old.opened + 1) × (new ≡ with_channel channel old)

-- why none opens: as many were opened as may be in all; or as many are open as may be at once
abbrev pub Refuses : ChannelFault → Channels → Type 0
Refuses fault.Spent channels = channels.opened ≡ channels.in_all
Refuses fault.Full channels = (channels.opened < channels.in_all) × (channels.at_once ≤ length channels.inboxes)
Refuses fault.OutOfMemory channels = (channels.opened < channels.in_all) × (length channels.inboxes < channels.at_once)

-- ---- what always holds

-- Each open channel has both an inbox and an outbox, and its number was given.
pub record Fits (channels : Channels) : Type 0 where
  pub both : (channel : ℕ) → is_some (outbox_of channels.outboxes channel) ≡ is_some (inbox_of channels.inboxes channel)
  pub numbered : (channel : ℕ) → IsSome (inbox_of channels.inboxes channel) → (0 < channel) × (channel ≤ channels.opened)
  pub few : channels.opened ≤ channels.in_all
