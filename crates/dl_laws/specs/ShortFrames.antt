-- Which frames are within the limit of a message.
use Rattle.std.specs.Prelude.{◌≡◌, ℕ, ◌≤◌, List, length}
use Rattle.std.specs.List.{AllByRecursion}
use Rattle.dl_bytes.specs.Limits.{frame_limit}
use Rattle.dl_bytes.specs.declared.user.UserMsg.{UserMsg}
use Rattle.dl_bytes.specs.declared.user.UserMsg.TheVariants as user
use Rattle.dl_events.specs.declared.event.Event.{Event}
use Rattle.dl_events.specs.declared.event.Event.TheVariants as event
use Rattle.dl_model.specs.Frames.{FrameSource}

-- a log message of an application is within the limit, and the APID that tells of lost ones has at most four bytes
abbrev pub IsShort : UserMsg → Type 0
IsShort (user.Log message) = length message ≤ frame_limit
IsShort (user.Overflow counter apid) = length apid ≤ 4
IsShort _ = Unit {0}

abbrev pub HasShortMessage : Event → Type 0
HasShortMessage (event.User channel msg moment) = IsShort msg
HasShortMessage _ = Unit {0}

-- the id of the control unit has four bytes and APIDs have no more, and log calls and user messages are within the limit
pub record AreShort (source : FrameSource) (events : List Event) : Type 0 where
  pub ecu : length source.ecu ≡ 4
  pub frames : (writer call : ℕ) → length (source.frame writer call) ≤ frame_limit
  pub apids : (app : ℕ) → length (source.apid app) ≤ 4
  pub messages : AllByRecursion HasShortMessage events
