-- What a visit to a channel comes to.
use Rattle.std.specs.Prelude.{◌≡◌, ◌<◌, ◌+◌, ◌⊎◌, ℕ, Bool, true, false, Option, Some, None}
use Rattle.dl_bytes.specs.Limits.{admitted_limit}
use Rattle.dl_bytes.specs.declared.moment.Moment.{Moment}
use Rattle.dl_channel.specs.declared.outcome.ChannelEnd.{ChannelEnd}
use Rattle.dl_channel_turns.specs.State.{Side, side}
use Rattle.dl_rounds.specs.Visits.{IsShut}
use Rattle.dl_socket.specs.Channels.{Channels}
use Rattle.dl_socket.specs.Closing.{HasBegunToClose, HasClosed}
use Rattle.dl_socket.specs.Turns.{HasPumped, HasTurned, ChannelView}

-- the daemon's side of these channels
abbrev pub side_of : ChannelView → Channels → Side
side_of sight channels = side sight.core channels.outboxes sight.events sight.folder

-- All applications of a channel were unregistered, and it ended; or memory was wanting, and it stays open with the first ones unregistered.
abbrev pub Closes : Bool → ℕ → Moment → Side → Side → Channels → Channels → Type 0
Closes true channel moment before after old new = HasClosed channel moment before after old new
Closes false channel moment before after old new = HasBegunToClose channel moment before after old new

-- A channel ends: its link is shut, and it is closed, or its close has begun.
pub record Ends (channel : ℕ) (moment : Moment) (closed : Bool) (before after : ChannelView) (old new : Channels) : Type 0 where
  pub shut : IsShut before.link after.link
  pub closes : Closes closed channel moment (side_of before old) (side_of after new) old new

-- it ended where there is a cause
abbrev pub EndsFor : Option ChannelEnd → ℕ → Moment → ChannelView → ChannelView → Channels → Channels → Type 0
EndsFor None channel moment before after old new = (after ≡ before) × (new ≡ old)
EndsFor (Some end) channel moment before after old new = (closed : Bool) × Ends channel moment closed before after old new

-- A channel had its turn, and ended where that gave a cause. It had none where the core may not admit so many frames more as a turn may need.
abbrev pub HearsOpen : ℕ → Moment → Option ChannelEnd → ChannelView → ChannelView → Channels → Channels → Type 0
HearsOpen channel moment end before after old new =
    ((between : ChannelView) × (turned : Channels) × HasTurned channel moment end before between old turned
    × EndsFor end channel moment between after turned new)
    ⊎ ((admitted_limit < before.core.hub.admitted + 4096) × (end ≡ None) × (after ≡ before) × (new ≡ old))

-- A channel without a cause to end was listened to. One that had a cause before, goes on ending for it.
abbrev pub Hears : ℕ → Moment → Option ChannelEnd → Option ChannelEnd → ChannelView → ChannelView → Channels → Channels → Type 0
Hears channel moment None end before after old new = HearsOpen channel moment end before after old new
Hears channel moment (Some cause) end before after old new = (end ≡ Some cause) × (closed : Bool) × Ends channel moment closed before after old new

-- What waited for a channel was sent, and it ended where that gave a cause.
abbrev pub PumpsOpen : ℕ → Moment → Option ChannelEnd → ChannelView → ChannelView → Channels → Channels → Type 0
PumpsOpen channel moment end before after old new =
    (between : ChannelView) × (sent : Channels) × HasPumped channel end before.link between.link old sent
    × (between ≡ record before { link = between.link })
    × EndsFor end channel moment between after sent new

-- That of one without a cause to end. One that had a cause before is left.
abbrev pub Pumps : ℕ → Moment → Option ChannelEnd → Option ChannelEnd → ChannelView → ChannelView → Channels → Channels → Type 0
Pumps channel moment None end before after old new = PumpsOpen channel moment end before after old new
Pumps channel moment (Some cause) end before after old new = (end ≡ Some cause) × (after ≡ before) × (new ≡ old)
