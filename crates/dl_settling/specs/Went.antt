-- How clients went, and what stands at the end of their links, by the events of a run.
use Rattle.std.specs.Prelude.{◌≡◌, ℕ, ◌+◌, ◌≤◌, ◌==◌, List, ◌∷◌, ◌++◌, length, count_by, slice_get, Some, IsSome}
use Rattle.dl_bytes.specs.Limits.{request_limit}
use Rattle.dl_bytes.specs.declared.outcome.LinkEnd.{LinkEnd}
use Rattle.dl_events.specs.declared.event.Event.{Event}
use Rattle.dl_events.specs.declared.event.Event.TheVariants as event
use Rattle.dl_events.specs.declared.event.Why.{Why}
use Rattle.dl_events.specs.declared.event.Why.TheVariants.{TooMany}
use Rattle.dl_model.specs.Backlog.{outbox_limit, size_of}
use Rattle.dl_model.specs.ClientEnds.{HasGone, LinkDid, end_of_link}
use Rattle.dl_model.specs.ClientStream.{stream}
use Rattle.dl_model.specs.Journal.{is_request_of}
use Rattle.dl_model.specs.Setting.{Setting}
use Rattle.dl_outside.specs.Told.{LinkTold}
use Rattle.dl_core.specs.Follows.{Run, source_of}
use Rattle.dl_turns.specs.Gone.{ShowsCause}
use Rattle.dl_turns.specs.Later.{LeavesSo}
use Rattle.dl_rounds.specs.Passing.{Did, IsOverIfLeft}
use Rattle.dl_rounds.specs.Shown.{IsOverFor}

-- links of this kind tell what they gave and took
abbrev pub TellBytes : {L : Type 0} → (L → LinkTold) → Type 0
TellBytes {L} told = (link : L) → IsSome (told link).given × IsSome (told link).taken

-- The end of a client's link tells of the client how many frames and bytes its stream has.
pub record TellsStream (run : Run) (events : List Event) (number : ℕ) (end : LinkEnd) : Type 0 where
  pub client : end.client ≡ number
  pub frames : end.frames ≡ length (stream (source_of run) run.setting.buffer number events)
  pub bytes : end.bytes ≡ size_of (stream (source_of run) run.setting.buffer number events)

-- there is such an end of each of so many links, in the order of the clients' numbers
pub record TellStreams (run : Run) (events : List Event) (many : ℕ) (ends : List LinkEnd) : Type 0 where
  pub many_so : length ends ≡ many
  pub each : (place : ℕ) (end : LinkEnd) → slice_get ends place ≡ Some end → TellsStream run events (place + 1) end

-- Each client has gone as the model of a daemon's end says, and the end of its link is as that says, where the link tells what it did.
pub record HaveGone (run : Run) (events : List Event) (links : List LinkTold) (ends : List LinkEnd) : Type 0 where
  pub gone : (place : ℕ) (link : LinkTold) (did : LinkDid) → slice_get links place ≡ Some link → Did link did → IsOverIfLeft events (place + 1) did
      → HasGone run.setting (source_of run) events (place + 1) did
  pub ended : (place : ℕ) (link : LinkTold) (did : LinkDid) → slice_get links place ≡ Some link → Did link did
      → slice_get ends place ≡ Some (end_of_link run.setting (source_of run) events (place + 1) did)

-- How a client ended, whatever its link tells: its Close is among the events, and its link left so many bytes of its stream, none exactly where
-- the end of the link is complete. So many are left as the cause tells: none of one that was stopped, some of one that was stuck, and of a slow
-- one as many as fill an outbox beside its room. One that asked too much has as many Request events as one may have. The counts of the link show
-- the cause; and where the client left, its link is over, if links of this kind tell that.
pub record HasEnded (Tells : Type 0) (setting : Setting) (events : List Event) (number : ℕ) (link : LinkTold) (end : LinkEnd) : Type 0 where
  pub before : List Event
  pub cause : Why
  pub after : List Event
  pub place : events ≡ before ++ event.Close number cause ∷ after
  pub left : ℕ
  pub within : left ≤ end.bytes
  pub complete : end.complete ≡ (left == 0)
  pub leaves : LeavesSo (outbox_limit setting.buffer) cause left
  pub asked : cause ≡ TooMany → count_by (is_request_of number) events ≡ request_limit
  pub counts : ShowsCause link cause
  pub over : Tells → IsOverFor cause link

-- so did each client
abbrev pub HaveEnded : Type 0 → Setting → List Event → List LinkTold → List LinkEnd → Type 0
HaveEnded Tells setting events links ends = (place : ℕ) (link : LinkTold) (end : LinkEnd) → slice_get links place ≡ Some link → slice_get ends place ≡ Some end
    → HasEnded Tells setting events (place + 1) link end
