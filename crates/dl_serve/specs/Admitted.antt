-- What became of all that programs outside sent.
use Rattle.std.specs.Prelude.{◌≡◌, ◌++◌, ◌+◌, ℕ, List, slice_get, Option, Some, None, IsSome}
use Rattle.std.specs.List.{AllByRecursion}
use Rattle.dl_bytes.specs.Cutting.{AreCut}
use Rattle.dl_bytes.specs.declared.user.UserMsg.{UserMsg}
use Rattle.dl_bytes.specs.declared.user.UserMsg.TheVariants.{UnregisterApp}
use Rattle.dl_channel.specs.declared.outcome.ChannelEnd.{ChannelEnd}
use Rattle.dl_channel.specs.declared.outcome.ChannelEnd.TheVariants.{Left, Broken, Bad, Slow, NoMemory}
use Rattle.dl_channel_turns.specs.Heard.{messages_in}
use Rattle.dl_events.specs.declared.event.Event.{Event}
use Rattle.dl_outside.specs.Told.{LinkTold}
use Rattle.dl_user.specs.Cut.{Begins, Stops}
use Rattle.dl_user.specs.declared.fault.Stop.TheVariants as stops

-- links of this kind tell what they gave
abbrev pub TellGiven : {L : Type 0} → (L → LinkTold) → Type 0
TellGiven {L} told = (link : L) → IsSome (told link).given

-- what the end of a channel says of an application of it: it is gone
abbrev pub IsFarewell : UserMsg → Type 0
IsFarewell (UnregisterApp apid pid) = pid ≡ 0
IsFarewell other = ⊥

-- Why no more of what a program sent is a message: it ends in less than one; or what is left shows the fault for which the channel ended. Where memory
-- was wanting nothing is said.
abbrev pub StopsFor : Option ChannelEnd → List ℕ → Type 0
StopsFor None left = Stops left stops.NeedMore
StopsFor (Some Left) left = Stops left stops.NeedMore
StopsFor (Some Broken) left = Stops left stops.NeedMore
StopsFor (Some Slow) left = Stops left stops.NeedMore
StopsFor (Some (Bad fault)) left = Stops left (stops.Bad fault)
StopsFor (Some NoMemory) left = Unit {0}

-- The User events of a channel that ended so: all messages of what its link gave, in their order, each once, however the bytes came; and behind them
-- those of its applications that were there at its end. Where memory was wanting they are the first of the messages.
pub record AreAdmitted (events : List Event) (channel : ℕ) (end : Option ChannelEnd) (stream : List ℕ) : Type 0 where
  pub msgs : List UserMsg
  pub left : List ℕ
  pub farewells : List UserMsg
  pub all : messages_in channel events ≡ msgs ++ farewells
  pub each : AllByRecursion IsFarewell farewells
  pub cut : AreCut Begins stream msgs left
  pub stops : StopsFor end left

-- so it is of each channel that came, by number
abbrev pub AllAdmitted : List Event → List LinkTold → List (Option ChannelEnd) → Type 0
AllAdmitted events links ends = (place : ℕ) (link : LinkTold) (end : Option ChannelEnd) → slice_get links place ≡ Some link → slice_get ends place ≡ Some end
    → (stream : List ℕ) × (link.given ≡ Some stream) × AreAdmitted events (place + 1) end stream
