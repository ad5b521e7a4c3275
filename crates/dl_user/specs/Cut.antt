-- A channel's bytes as messages and a rest.
use Rattle.std.specs.Prelude.{◌≡◌, ℕ, zero, suc, ◌<◌, ◌≤◌, ◌^◌, List, [], ◌∷◌, ◌++◌, length, IfSome, FitsSigned, Ok, Err}
use Rattle.std.specs.Int.{w8}
use Rattle.dl_bytes.specs.Cutting.{AreCut}
use Rattle.dl_bytes.specs.Number.{At}
use Rattle.dl_bytes.specs.UserMessage.{IsFit}
use Rattle.dl_bytes.specs.declared.user.UserMsg.{UserMsg}
use Rattle.dl_bytes.specs.declared.user.UserMsg.TheVariants.{Log, RegisterApp, UnregisterApp, RegisterContext, UnregisterContext, LogLevel, Injection, Overflow}
use Rattle.dl_user.specs.declared.fault.UserFault.{UserFault}
use Rattle.dl_user.specs.declared.fault.Stop.{Stop}
use Rattle.dl_user.specs.declared.fault.Stop.TheVariants.{NeedMore, Bad}
use Rattle.dl_user.specs.Layout.{Spells}
use Rattle.dl_user.specs.Reading.{Reading, little, message_at}
use Rattle.dl_user.specs.Faults.{ProvesFault}

-- what the types of the fields hold: four bytes in an id, numbers of four bytes, levels up to 6, a signed byte
abbrev pub HasRanges : UserMsg → Type 0
HasRanges (Log message) = Unit {0}
HasRanges (RegisterApp apid pid text) = (length apid ≡ 4) × (pid < 2 ^ 32)
HasRanges (UnregisterApp apid pid) = (length apid ≡ 4) × (pid < 2 ^ 32)
HasRanges (RegisterContext apid ctid position level trace pid text) =
    (length apid ≡ 4) × (length ctid ≡ 4) × (position < 2 ^ 32) × IfSome level (λ n. n ≤ 6) × FitsSigned w8 trace × (pid < 2 ^ 32)
HasRanges (UnregisterContext apid ctid pid) = (length apid ≡ 4) × (length ctid ≡ 4) × (pid < 2 ^ 32)
HasRanges (LogLevel level trace position) = (level ≤ 6) × FitsSigned w8 trace × (position < 2 ^ 32)
HasRanges (Injection position service body) = (position < 2 ^ 32) × (service < 2 ^ 32)
HasRanges (Overflow counter apid) = (counter < 2 ^ 32) × (length apid ≡ 4)

-- the bytes spell the message, which is within the limits
pub record IsSpelled (bytes : List ℕ) (msg : UserMsg) : Type 0 where
  pub spelled : Spells bytes msg
  pub fit : IsFit msg
  pub ranges : HasRanges msg

-- a message stands at the front, and after it these bytes
abbrev pub Begins : List ℕ → UserMsg → List ℕ → Type 0
Begins bytes msg after = (piece : List ℕ) × IsSpelled piece msg × (bytes ≡ piece ++ after)

-- too few bytes to tell: no message stands at the front, and no fault shows
pub record IsOpen (bytes : List ℕ) : Type 0 where
  pub no_message : (msg : UserMsg) (after : List ℕ) → Begins bytes msg after → ⊥
  pub no_fault : (fault : UserFault) → ProvesFault bytes fault → ⊥

-- why no message is given
abbrev pub Stops : List ℕ → Stop → Type 0
Stops bytes NeedMore = IsOpen bytes
Stops bytes (Bad fault) = ProvesFault bytes fault

-- The cut of a channel's bytes: messages, and a rest that is open or shows a fault
abbrev pub IsCut : List ℕ → List UserMsg → List ℕ → Stop → Type 0
IsCut bytes msgs rest stop = AreCut Begins bytes msgs rest × Stops rest stop

-- a message and those behind it, where one stands at the front
abbrev pub with_others : Reading (UserMsg × At) → (List ℕ → List UserMsg) → List UserMsg
with_others (Ok message) others = message.0 ∷ others message.1.rest
with_others (Err stop) others = []

-- what stays of the bytes, where a message stands at the front
abbrev pub behind : Reading (UserMsg × At) → List ℕ → (List ℕ → List ℕ) → List ℕ
behind (Ok message) bytes others = others message.1.rest
behind (Err stop) bytes others = bytes

-- at most n messages, one behind another
abbrev pub messages_within : ℕ → List ℕ → List UserMsg
messages_within zero bytes = []
messages_within (suc n) bytes = with_others (message_at (little bytes)) (λ rest. messages_within n rest)

abbrev pub rest_within : ℕ → List ℕ → List ℕ
rest_within zero bytes = bytes
rest_within (suc n) bytes = behind (message_at (little bytes)) bytes (λ rest. rest_within n rest)

-- the messages of the one cut, which are no more than the bytes
abbrev pub messages_of : List ℕ → List UserMsg
messages_of bytes = messages_within (length bytes) bytes

-- the rest of the one cut
abbrev pub rest_of : List ℕ → List ℕ
rest_of bytes = rest_within (length bytes) bytes
