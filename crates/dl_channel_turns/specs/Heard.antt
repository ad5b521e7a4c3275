-- What became of all that a program sent.
use Rattle.std.specs.Prelude.{◌≡◌, ◌==◌, ◌⊎◌, ℕ, List, ◌++◌, Option, Some, None, if◌then◌else◌}
use Rattle.std.specs.List.{filter_map}
use Rattle.dl_bytes.specs.Cutting.{AreCut}
use Rattle.dl_bytes.specs.declared.user.UserMsg.{UserMsg}
use Rattle.dl_events.specs.declared.event.Event.{Event}
use Rattle.dl_events.specs.declared.event.Event.TheVariants as event
use Rattle.dl_outside.specs.Outside.{Grows}
use Rattle.dl_user.specs.Channel as cutter
use Rattle.dl_user.specs.Cut.{Begins, IsCut, Stops}
use Rattle.dl_user.specs.declared.fault.Stop.TheVariants as stops
use Rattle.dl_user.specs.declared.fault.UserFault.{UserFault}
use Rattle.dl_channel.specs.declared.outcome.ChannelEnd.{ChannelEnd}
use Rattle.dl_channel.specs.declared.outcome.ChannelEnd.TheVariants.{Bad, NoMemory}
use Rattle.dl_core.specs.Admission.{AddsEach}
use Rattle.dl_channel_turns.specs.State.{Stage}

-- the message of an event of this channel
abbrev pub message_of : ℕ → Event → Option UserMsg
message_of channel (event.User other msg moment) = if other == channel then Some msg else None
message_of channel other = None

-- the messages of a channel's User events, in order
abbrev pub messages_in : ℕ → List Event → List UserMsg
messages_in channel events = filter_map (message_of channel) events

-- These are all messages of a stream, and the inbox holds what is behind them, which is less than a message.
pub record HasHeard (stream : List ℕ) (msgs : List UserMsg) (inbox : cutter.Channel) : Type 0 where
  pub cut : AreCut Begins stream msgs inbox.unread
  pub open_so : Stops inbox.unread stops.NeedMore

-- The link gave these bytes more, and these messages more were taken in: the User events of the channel that were noted meanwhile are just they.
-- They are the first of all that the link gave, and all of them where the channel goes on. It ends as bad only where a fault shows behind them, and
-- where one does it ends so, unless memory was wanting.
pub record HearsMore (channel : ℕ) (end : Option ChannelEnd) (stream : List ℕ) (msgs : List UserMsg) (old new : Stage) : Type 0 where
  pub given : List ℕ
  pub link_gave : Grows old.link.given new.link.given given
  pub more : List UserMsg
  pub left : List ℕ
  pub cut : AreCut Begins (stream ++ given) (msgs ++ more) left
  pub goes_on : end ≡ None → HasHeard (stream ++ given) (msgs ++ more) new.inbox
  pub is_bad : (fault : UserFault) → end ≡ Some (Bad fault) → Stops left (stops.Bad fault)
  pub bad_ends : (all : List UserMsg) (rest : List ℕ) (fault : UserFault) → IsCut (stream ++ given) all rest (stops.Bad fault)
      → (end ≡ Some (Bad fault)) ⊎ (end ≡ Some NoMemory)
  pub events : List Event
  pub noted : AddsEach old.side.events new.side.events events
  pub of_channel : messages_in channel events ≡ more
