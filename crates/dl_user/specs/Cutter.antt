-- What the calls of a cutter do.
use Rattle.std.specs.Prelude.{◌≡◌, ℕ, ◌-◌, ◌<◌, List, [], ◌∷◌, ◌++◌, length, min, take}
use Rattle.dl_bytes.specs.Cutting.{Call, Feed, Next}
use Rattle.dl_bytes.specs.declared.user.UserMsg.{UserMsg}
use Rattle.dl_user.specs.declared.fault.Stop.TheVariants as stops
use Rattle.dl_user.specs.declared.cutter.UserCut.{UserCut}
use Rattle.dl_user.specs.declared.cutter.UserCut.TheVariants.{Message, NeedMore, Bad, OutOfMemory}
use Rattle.dl_user.specs.Channel.{Channel, longest}
use Rattle.dl_user.specs.Cut.{Begins, Stops}

-- feed takes the first bytes of a piece, as many as there is room for
pub record Feeds (old : Channel) (piece : List ℕ) (count : ℕ) (new : Channel) : Type 0 where
  pub count_is : count ≡ min (length piece) old.room
  pub unread : new.unread ≡ old.unread ++ take count piece
  pub room : new.room ≡ old.room - count

-- The message at the front is given and dropped. After NeedMore there is room, as after no other answer. A fault
-- leaves no room for good. A message for which there was no memory stays.
abbrev pub Cuts : Channel → UserCut → Channel → Type 0
Cuts old (Message msg) new = Begins old.unread msg new.unread × (new.room ≡ old.room)
Cuts old NeedMore new = Stops old.unread stops.NeedMore × (new.unread ≡ old.unread) × (new.room ≡ longest - length old.unread) × (0 < new.room)
Cuts old (Bad fault) new = Stops old.unread (stops.Bad fault) × (new.unread ≡ old.unread) × (new.room ≡ 0)
Cuts old OutOfMemory new = ((msg : UserMsg) × (after : List ℕ) × Begins old.unread msg after) × (new ≡ old)

-- what a call does
abbrev pub Does : Channel → Call UserCut → Channel → Type 0
Does old (Feed piece count) new = Feeds old piece count new
Does old (Next cut) new = Cuts old cut new

-- the message of an answer
abbrev pub messages_in : UserCut → List UserMsg
messages_in (Message msg) = msg ∷ []
messages_in NeedMore = []
messages_in (Bad fault) = []
messages_in OutOfMemory = []
