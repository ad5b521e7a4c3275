-- What is admitted, and noted of it.
use Rattle.std.specs.Prelude.{◌≡◌, ℕ, ◌++◌, List, map, Option, Some, None, Bool, true, false, zero, suc}
use Rattle.dl_bytes.specs.Id.{zero_id}
use Rattle.dl_bytes.specs.UserMessage.{HoldsMessage}
use Rattle.dl_bytes.specs.declared.item.Item.{Item}
use Rattle.dl_bytes.specs.declared.moment.Moment.{Moment}
use Rattle.dl_events.specs.declared.event.Event.{Event}
use Rattle.dl_events.specs.declared.event.Event.TheVariants.{Log, User}
use Rattle.dl_message.specs.Frames.{log_message}
use Rattle.dl_model.specs.Frames.{user_frames}
use Rattle.dl_model.specs.Overflow.{overflow_frames}
use Rattle.dl_core.specs.Follows.{Run}
use Rattle.std.specs.List.{AllByRecursion, flat_map}
use Rattle.dl_events.specs.Journal.{one_more}
use Rattle.dl_bytes.specs.declared.user.UserMsg.{UserMsg}
use Rattle.dl_bytes.specs.declared.user.UserMsg.TheVariants as user
use Rattle.dl_model.specs.Traffic.{Traffic, Admitted}
use Rattle.dl_hub.specs.State.{Hub}
use Rattle.dl_hub.specs.Follows.{IsAfter}

-- the event of a log call that was taken from its ring
abbrev pub log_event : Moment → Item → Event
log_event moment item = Log item.app item.writer item.call moment

-- that of a user message of a channel
abbrev pub user_event : Moment → ℕ → UserMsg → Event
user_event moment channel msg = User channel msg moment

-- the run gives this item's frame for its writer and its number
abbrev pub GivesFrame : Item → Run → Type 0
GivesFrame item run = run.frame item.writer item.call ≡ log_message run.setting.ecu item

abbrev pub GivesFrames : List Item → Run → Type 0
GivesFrames items run = AllByRecursion (λ item. GivesFrame item run) items

-- the run gives this APID for the application
abbrev pub GivesApid : ℕ → List ℕ → Run → Type 0
GivesApid app apid run = run.apid app ≡ apid

-- the records that report lost calls of an application
abbrev pub lost_frames : List ℕ → List ℕ → ℕ → List (List ℕ)
lost_frames ecu apid count = overflow_frames ecu apid zero_id count

-- these events stand at the end of the list, where the list is kept; where it isn't, it isn't afterwards
abbrev pub AddsEach : Option (List Event) → Option (List Event) → List Event → Type 0
AddsEach (Some events) new more = new ≡ Some (events ++ more)
AddsEach None new more = new ≡ None

-- the frames are this traffic of the hub: whatever it was after, it is after that and these
abbrev pub Admits : List (List ℕ) → Hub → Hub → Type 0
Admits frames old new = (traffic : List Traffic) (taken : ℕ → List ℕ) → IsAfter traffic taken old → IsAfter (traffic ++ map Admitted frames) taken new

-- a user message that admits frames, and concerns no registry
abbrev pub has_frames : UserMsg → Bool
has_frames (user.Log message) = true
has_frames (user.Overflow counter apid) = true
has_frames other = false

-- a log message, which is fit
abbrev pub IsLog : UserMsg → Type 0
IsLog (user.Log message) = HoldsMessage message
IsLog other = ⊥

-- the frames of user messages, in order
abbrev pub message_frames : List ℕ → List UserMsg → List (List ℕ)
message_frames ecu msgs = flat_map (user_frames ecu) msgs

-- the count of noted events after so many more
abbrev pub more_noted : ℕ → ℕ → ℕ
more_noted zero noted = noted
more_noted (suc more) noted = one_more (more_noted more noted)
