-- What contracts see of a cutter, and what its calls do.
use Rattle.std.specs.Prelude.{◌≡◌, ◌≢◌, ℕ, ◌+◌, ◌-◌, ◌<◌, ◌≤◌, Bool, true, take, drop, min, List, [], ◌∷◌, ◌++◌, length, None, Some}
use Rattle.dl_bytes.specs.Buffer.{Held}
use Rattle.dl_bytes.specs.Cutting.{Call, Feed, Next}
use Rattle.dl_message.specs.Cut.{IsPiece, IsOpen, rest_fault, without_serial}
use Rattle.dl_message.specs.declared.cutter.Cut.{Cut}
use Rattle.dl_message.specs.declared.cutter.Cut.TheVariants.{Message, NeedMore, Bad}

-- the greatest LEN, the bytes fed and not given, the message last given, and how many more bytes a feed takes
pub record Cutting : Type 0 where
  pub limit : ℕ
  pub unread : List ℕ
  pub message : List ℕ
  pub room : ℕ

-- a cutter to which nothing was fed: it has room for the longest message, and a serial header before it
abbrev pub unfed : ℕ → Cutting
unfed limit = record { limit = limit; unread = []; message = []; room = limit + 4 }

-- What a cutter keeps: a buffer for the longest piece, which begins with the message last given, and a bad rest once
-- it is closed.
pub record IsKept (limit message_len : ℕ) (buffer : Held) (closed : Bool) : Type 0 where
  pub least : 30 ≤ limit
  pub message : message_len ≤ length buffer.bytes
  pub longest : buffer.capacity ≡ limit + 4
  pub bad : closed ≡ true → rest_fault limit (drop message_len buffer.bytes) ≢ None

-- feed takes the first bytes of a piece, as many as there is room for, and lets the message go
pub record Feeds (old : Cutting) (piece : List ℕ) (count : ℕ) (new : Cutting) : Type 0 where
  pub count_is : count ≡ min (length piece) old.room
  pub taken : new ≡ record { limit = old.limit; unread = old.unread ++ take count piece; message = []; room = old.room - count }

-- a message begins the bytes, with a serial header before it or without, and after it these bytes stand
abbrev pub Begins : ℕ → List ℕ → List ℕ → List ℕ → Type 0
Begins limit bytes message after =
    (piece : List ℕ) × IsPiece limit piece × (bytes ≡ piece ++ after) × (message ≡ without_serial piece)

-- why no message is given
abbrev pub Stops : ℕ → List ℕ → Cut → Type 0
Stops limit rest Message = ⊥
Stops limit rest NeedMore = IsOpen limit rest
Stops limit rest (Bad fault) = rest_fault limit rest ≡ Some fault

abbrev pub Cuts : Cutting → Cut → Cutting → Type 0
-- The message that begins what is unread is given, and is read.
Cuts old Message new = Begins old.limit old.unread new.message new.unread
    × (new ≡ record { limit = old.limit; unread = new.unread; message = new.message; room = old.room })
-- More is needed where what is unread is open. It stays, with room for the longest piece, and so for at least one byte.
Cuts old NeedMore new = Stops old.limit old.unread NeedMore × (0 < new.room)
    × (new ≡ record { limit = old.limit; unread = old.unread; message = []; room = old.limit + 4 - length old.unread })
-- Bad is the fault of what is unread. It stays, and there is no room any more.
Cuts old (Bad fault) new = Stops old.limit old.unread (Bad fault)
    × (new ≡ record { limit = old.limit; unread = old.unread; message = []; room = 0 })

-- an answer, and the message that the cutter lends after it
pub record Found : Type 0 where
  pub cut : Cut
  pub message : List ℕ

-- what a call does
abbrev pub Does : Cutting → Call Found → Cutting → Type 0
Does old (Feed piece count) new = Feeds old piece count new
Does old (Next found) new = Cuts old found.cut new × (found.message ≡ new.message)

-- the message of an answer
abbrev pub message_of_cut : Cut → List ℕ → List (List ℕ)
message_of_cut Message message = message ∷ []
message_of_cut NeedMore message = []
message_of_cut (Bad fault) message = []

abbrev pub messages_in : Found → List (List ℕ)
messages_in found = message_of_cut found.cut found.message
