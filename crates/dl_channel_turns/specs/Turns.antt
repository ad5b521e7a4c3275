-- What a turn of a channel comes to.
use Rattle.std.specs.Prelude.{◌≡◌, ℕ, List, [], ◌∷◌, ◌++◌, ◌⊎◌, length, take, Option, Some, None}
use Rattle.dl_bytes.specs.Cutting.{AreCut}
use Rattle.dl_bytes.specs.declared.moment.Moment.{Moment}
use Rattle.dl_bytes.specs.declared.user.UserMsg.{UserMsg}
use Rattle.dl_outside.specs.Outside.{HasRisen}
use Rattle.dl_outside.specs.Told.{LinkTold}
use Rattle.dl_outside.specs.declared.link.Gave.{Gave}
use Rattle.dl_outside.specs.declared.link.Gave.TheVariants as gave
use Rattle.dl_user.specs.Channel as cutter
use Rattle.dl_user.specs.Cut.{Begins, Stops}
use Rattle.dl_user.specs.declared.fault.Stop.TheVariants as stops
use Rattle.dl_channel.specs.declared.outcome.ChannelEnd.{ChannelEnd}
use Rattle.dl_channel.specs.declared.outcome.ChannelEnd.TheVariants.{Left, Broken, Bad, NoMemory}
use Rattle.dl_turns.specs.Turns.{HasGiven, Hears}
use Rattle.dl_channel_turns.specs.Messages.{Group, ServesGroup, messages_of}
use Rattle.dl_channel_turns.specs.State.{Side, Stage}

-- groups of messages of a channel were taken in, one after the other
abbrev pub ServesEach : ℕ → Moment → List Group → Side → Side → Type 0
ServesEach channel moment [] old new = new ≡ old
ServesEach channel moment (group ∷ groups) old new = (next : Side) × ServesGroup channel moment group old next × ServesEach channel moment groups next new

-- Of messages that came the first ones were taken in, and these are left.
pub record HasServed (channel : ℕ) (moment : Moment) (msgs left : List UserMsg) (old new : Side) : Type 0 where
  pub groups : List Group
  pub all : msgs ≡ messages_of groups ++ left
  pub serves : ServesEach channel moment groups old new

-- A channel ends as it would behind the messages that came, where all were taken in. Where one is left, memory was wanting for it.
abbrev pub EndsBehind : Option ChannelEnd → Option ChannelEnd → List UserMsg → Type 0
EndsBehind behind end [] = end ≡ behind
EndsBehind behind end (next ∷ others) = end ≡ Some NoMemory

-- Why a channel ends behind its messages: it goes on where what is left is less than a message, and is held; it is bad where no message begins
-- with what is left. Memory may be wanting only where one does.
abbrev pub StopsAt : Option ChannelEnd → List ℕ → cutter.Channel → Type 0
StopsAt None left inbox = Stops left stops.NeedMore × (inbox.unread ≡ left)
StopsAt (Some (Bad fault)) left inbox = Stops left (stops.Bad fault)
StopsAt (Some NoMemory) left inbox = (msg : UserMsg) × (after : List ℕ) × Begins left msg after
StopsAt (Some other) left inbox = ⊥

-- of messages that came the first ones were taken in, up to one that was not
abbrev pub StopsServing : ℕ → Moment → List UserMsg → Side → Side → Type 0
StopsServing channel moment msgs old new = (next : UserMsg) × (others : List UserMsg) × HasServed channel moment msgs (next ∷ others) old new

-- what came of messages, behind which a channel goes on or ends
abbrev pub Finishes : ℕ → Moment → List UserMsg → Option ChannelEnd → Option ChannelEnd → Side → Side → Type 0
Finishes channel moment msgs behind end old new = (left : List UserMsg) × EndsBehind behind end left × HasServed channel moment msgs left old new

-- The messages at the front of these bytes were taken in, all of them unless memory was wanting.
pub record ServesAll (channel : ℕ) (moment : Moment) (bytes : List ℕ) (end : Option ChannelEnd) (inbox : cutter.Channel) (old new : Side) : Type 0 where
  pub groups : List Group
  pub left : List ℕ
  pub cut : AreCut Begins bytes (messages_of groups) left
  pub serves : ServesEach channel moment groups old new
  pub stops : StopsAt end left inbox

-- What came of an answer of the link, where these bytes were held of what the program sent.
abbrev pub Heeds : ℕ → Moment → Gave → List ℕ → Option ChannelEnd → cutter.Channel → cutter.Channel → Side → Side → Type 0
Heeds channel moment (gave.Bytes count) into end inbox inbox_now old new = ServesAll channel moment (inbox.unread ++ take count into) end inbox_now old new
Heeds channel moment gave.NotYet into end inbox inbox_now old new = (end ≡ None) × (inbox_now ≡ inbox) × (new ≡ old)
Heeds channel moment gave.End into end inbox inbox_now old new = (end ≡ Some Left) × (inbox_now ≡ inbox) × (new ≡ old)
Heeds channel moment gave.Failed into end inbox inbox_now old new = (end ≡ Some Broken) × (inbox_now ≡ inbox) × (new ≡ old)

-- One recv of at most 4096 bytes, and the messages that they make whole are taken in; why the channel ends, where it does.
pub record IsTurn (channel : ℕ) (moment : Moment) (end : Option ChannelEnd) (old new : Stage) : Type 0 where
  pub answer : Gave
  pub into : List ℕ
  pub size : length into ≡ 4096
  pub hears : Hears old.link new.link answer into
  pub heeds : Heeds channel moment answer into end old.inbox new.inbox old.side new.side

-- why a channel goes on: its link gave a byte, or had nothing to give yet, its count of idle turns risen
abbrev pub Stays : LinkTold → LinkTold → Type 0
Stays old new = HasGiven old.given new.given ⊎ HasRisen old.idles new.idles
