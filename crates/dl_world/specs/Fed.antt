-- What a client or a channel sent: what its cutter holds of it, and what more bytes make whole.
use Rattle.std.specs.Prelude.{◌≡◌, ℕ, ◌+◌, ◌-◌, ◌<◌, ◌⊎◌, Bool, List, ◌++◌, length, drop, is_some, IsSome}
use Rattle.dl_bytes.specs.Bytes.{IsBytes}
use Rattle.dl_bytes.specs.Limits.{message_limit}
use Rattle.dl_bytes.specs.UserMessage.{IsFit}
use Rattle.dl_bytes.specs.declared.user.UserMsg.{UserMsg}
use Rattle.dl_message.specs.Cut.{IsOpen, rest_fault, rest_of}
use Rattle.dl_message.specs.Cutting.{Cutting}
use Rattle.dl_message.specs.Requests.{requests}
use Rattle.dl_laws.specs.FrameLengths.{HasId}
use Rattle.dl_user.specs.Channel.{Channel, longest}
use Rattle.dl_user.specs.Cut as user
use Rattle.dl_user.specs.Faults.{ProvesFault}
use Rattle.dl_user.specs.declared.fault.UserFault.{UserFault}

-- ---- clients

-- the cutter took all, and waits for more of a message
pub record Waits (stream : List ℕ) (cutter : Cutting) : Type 0 where
  pub rest : cutter.unread ≡ rest_of message_limit stream
  pub good : IsOpen message_limit cutter.unread
  pub room : cutter.room ≡ message_limit + 4 - length cutter.unread
  pub some : 0 < cutter.room

-- it met a bad header, and takes nothing behind it
pub record IsShut (stream : List ℕ) (cutter : Cutting) : Type 0 where
  pub part : List ℕ
  pub untaken : List ℕ
  pub stream_is : stream ≡ part ++ untaken
  pub rest : cutter.unread ≡ rest_of message_limit part
  pub bad : IsSome (rest_fault message_limit cutter.unread)
  pub full : cutter.room ≡ 0

-- a client sent these bytes, and all requests that they make whole were given
pub record IsFedBy (stream : List ℕ) (cutter : Cutting) : Type 0 where
  pub limit : cutter.limit ≡ message_limit
  pub stands : Waits stream cutter ⊎ IsShut stream cutter

-- it gives no more: it waits for more of a message, with room for it, or it met a bad header
abbrev pub Stands : Cutting → Type 0
Stands cutter = (IsOpen message_limit cutter.unread × (cutter.room ≡ message_limit + 4 - length cutter.unread) × (0 < cutter.room))
    ⊎ (IsSome (rest_fault message_limit cutter.unread) × (cutter.room ≡ 0))

-- the requests that more bytes make whole
abbrev pub made_whole : List ℕ → List ℕ → List (List ℕ)
made_whole stream bytes = drop (length (requests stream)) (requests (stream ++ bytes))

-- More bytes of a client make these requests whole, which stand behind those before them, and it is told whether the bytes show a bad
-- header.
pub record Asks (stream bytes : List ℕ) (bad : Bool) (before after : List (List ℕ)) (cutter : Cutting) : Type 0 where
  pub fed : IsFedBy (stream ++ bytes) cutter
  pub asked : after ≡ before ++ made_whole stream bytes
  pub bad_is : bad ≡ is_some (rest_fault message_limit (rest_of message_limit (stream ++ bytes)))

-- ---- channels

-- the cutter took all, and waits for more of a message
pub record Listens (stream : List ℕ) (channel : Channel) : Type 0 where
  pub rest : channel.unread ≡ user.rest_of stream
  pub good : user.IsOpen channel.unread
  pub room : channel.room ≡ longest - length channel.unread
  pub some : 0 < channel.room

-- it met a message that is wrong, and takes nothing behind it
pub record IsIgnored (stream : List ℕ) (channel : Channel) : Type 0 where
  pub part : List ℕ
  pub untaken : List ℕ
  pub stream_is : stream ≡ part ++ untaken
  pub rest : channel.unread ≡ user.rest_of part
  pub bad : (fault : UserFault) × ProvesFault channel.unread fault
  pub full : channel.room ≡ 0

-- these bytes came on a channel, and all messages that they make whole were given
pub record IsHeardBy (stream : List ℕ) (channel : Channel) : Type 0 where
  pub bytes : IsBytes stream
  pub stands : Listens stream channel ⊎ IsIgnored stream channel

-- the cutter gives no more: it waits for more of a message, with room for it, or it met one that is wrong
abbrev pub StandsStill : Channel → Type 0
StandsStill channel = (user.IsOpen channel.unread × (channel.room ≡ longest - length channel.unread) × (0 < channel.room))
    ⊎ (((fault : UserFault) × ProvesFault channel.unread fault) × (channel.room ≡ 0))

-- the messages that more bytes make whole
abbrev pub told_by : List ℕ → List ℕ → List UserMsg
told_by stream bytes = drop (length (user.messages_of stream)) (user.messages_of (stream ++ bytes))

-- more bytes on a channel make these messages whole, which stand behind those before them
pub record Tells (stream bytes : List ℕ) (before after : List UserMsg) (channel : Channel) : Type 0 where
  pub heard : IsHeardBy (stream ++ bytes) channel
  pub told : after ≡ before ++ told_by stream bytes

-- a message that can be told: it is within its limits, and names applications by ids of four bytes
abbrev pub CanBeTold : UserMsg → Type 0
CanBeTold msg = IsFit msg × HasId msg
