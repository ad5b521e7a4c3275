-- What a turn, a pump and a stop of a client come to, told by the events that they add and by the bytes that the client's link gave and took.
use Rattle.std.specs.Prelude.{◌≡◌, ◌≢◌, ◌<◌, ◌+◌, ℕ, IfSome, IsSomeAnd, List, [], ◌∷◌, ◌++◌, length, Option, Some, None}
use Rattle.std.specs.List.{AllByRecursion, filter_map}
use Rattle.dl_bytes.specs.Limits.{request_limit}
use Rattle.dl_events.specs.declared.event.Event.{Event}
use Rattle.dl_events.specs.declared.event.Event.TheVariants as event
use Rattle.dl_events.specs.declared.event.Why.{Why}
use Rattle.dl_events.specs.declared.event.Why.TheVariants.{Slow, Malformed, TooMany, Stuck, Stopped}
use Rattle.dl_cells.specs.LevelHistory.{change}
use Rattle.dl_cells.specs.declared.level_history.Change.{Change}
use Rattle.dl_message.specs.Requests.{requests}
use Rattle.dl_model.specs.Backlog.{outbox_limit}
use Rattle.dl_model.specs.ClientEnds.{HasAsked, IsMalformed, asked_by}
use Rattle.dl_model.specs.Frames.{FrameSource}
use Rattle.dl_outside.specs.Outside.{Grows}
use Rattle.dl_desk.specs.Told.{ControlTold}
use Rattle.dl_hub.specs.Follows.{took_more}
use Rattle.dl_hub.specs.State.{Hub, client_of}
use Rattle.dl_core.specs.Admission.{AddsEach}
use Rattle.dl_core.specs.Follows.{HoldsTrace, IsAfter, Run, source_of}
use Rattle.dl_core.specs.Next.{ComeInTurn}
use Rattle.dl_turns.specs.Injected.{HasInjected}
use Rattle.dl_turns.specs.Sent.{HasCut}
use Rattle.dl_turns.specs.State.{Side, Stage}

-- ---- the events

-- the level that an event sets
abbrev pub level_in : Event → Option Change
level_in (event.Level slot level) = Some (change slot level)
level_in other = None

-- an event of a client that stays: a request of the client, or a level
abbrev pub IsCalm : ℕ → Event → Type 0
IsCalm client (event.Request other frame answer) = other ≡ client
IsCalm client (event.Level slot level) = Unit {0}
IsCalm client other = ⊥

-- the Close of a client, where there is a cause for it
abbrev pub close_of : ℕ → Option Why → List Event
close_of client None = []
close_of client (Some why) = event.Close client why ∷ []

-- the desk is later by these events of a turn: its levels follow the Level events, and it has the same applications
pub record IsDeskLater (more : List Event) (old new : ControlTold) : Type 0 where
  pub sets : new.sets ≡ old.sets ++ filter_map level_in more
  pub apps : new.apps ≡ old.apps
  pub first : new.first ≡ old.first

-- Whatever a run made of the core, with these events more, and these bytes more that the client's link took, it makes what the core is now;
-- and the same of the folder.
abbrev pub AddsSending : ℕ → List Event → List ℕ → Side → Side → Type 0
AddsSending client more sent old new = (run : Run) (past : List Event) (taken : ℕ → List ℕ) → IsAfter run past taken old.core
    → IsAfter run (past ++ more) (took_more taken client sent) new.core
    × (HoldsTrace run past old.core old.folder → HoldsTrace run (past ++ more) new.core new.folder)

-- So many bytes are left of a client's stream as the cause of its Close tells, where its outbox held at most so many.
abbrev pub LeavesSo : ℕ → Why → ℕ → Type 0
LeavesSo limit (Slow room need) left = room + left ≡ limit
LeavesSo limit (Stuck bytes) left = (bytes ≡ left) × (0 < left)
LeavesSo limit Stopped left = left ≡ 0
LeavesSo limit other left = Unit {0}

-- a client that was closed for this cause has no outbox, and it is known how much was left in it
abbrev pub HasLeft : ℕ → Why → Hub → Type 0
HasLeft client why hub = IsSomeAnd (client_of hub client) (λ c. (c.outbox ≡ None) × LeavesSo (outbox_limit hub.buffer) why c.left)

-- The side is later by these events: requests of the client and levels, and behind them its Close where there is a cause. Each stands in its
-- turn, so that a well-formed journal stays so. The core and the folder are what the longer journal makes of them, the core with these bytes
-- more that the client's link took; the queues took and refused the injections of these events. No other client has changed.
pub record IsLater (client : ℕ) (why : Option Why) (sent : List ℕ) (old new : Side) : Type 0 where
  pub more : List Event
  pub events : AddsEach old.events new.events more
  pub calm : List Event
  pub all_calm : AllByRecursion (IsCalm client) calm
  pub ends : more ≡ calm ++ close_of client why
  pub formed : ComeInTurn more old.core
  pub after : AddsSending client more sent old new
  pub desk : IsDeskLater more old.desk new.desk
  pub posts : (run : Run) (past : List Event) (taken : ℕ → List ℕ) → IsAfter run past taken old.core
      → (app : ℕ) → HasInjected run.setting past more app old.desk new.desk
  pub leaves : IfSome why (λ cause. HasLeft client cause new.core.hub)
  pub others : (other : ℕ) → other ≢ client → client_of new.core.hub other ≡ client_of old.core.hub other

-- ---- what the client sent

-- what a client asked, of the requests that its link gave: all of them while it is open, and those that its cause tells once it was closed
abbrev pub AsksOf : FrameSource → List Event → Option Why → List (List ℕ) → List (List ℕ) → Type 0
AsksOf source before None given asked = given ≡ asked
AsksOf source before (Some why) given asked = HasAsked source before why given asked

-- The client's Request events in a journal are the requests that its link gave. Where a bad header stands behind them, or where there is one
-- request too many, the client was closed for that; and for a bad header only where there is one.
pub record HasHeard (source : FrameSource) (before : List Event) (client : ℕ) (why : Option Why) (given : List ℕ) : Type 0 where
  pub asked : AsksOf source before why (requests given) (asked_by client before)
  pub malformed : IsMalformed given → requests given ≡ asked_by client before → why ≡ Some Malformed
  pub too_many : request_limit < length (requests given) → length (asked_by client before) ≡ request_limit → why ≡ Some TooMany
  pub bad : why ≡ Some Malformed → IsMalformed given

-- A client that is open: the core stands for these events, where the links took these bytes; the cutter has cut just this stream, and the
-- client's Request events are the requests of it.
pub record IsOpenWith (client : ℕ) (run : Run) (past : List Event) (taken : ℕ → List ℕ) (stream : List ℕ) (stage : Stage) : Type 0 where
  pub after : IsAfter run past taken stage.side.core
  pub cut : HasCut stream stage.cutter
  pub asked : asked_by client past ≡ requests stream

-- ---- all of it

-- The side is later, and meanwhile the client's link gave and took these bytes. Where the cutter had cut just what the link had given before, it
-- has cut these bytes too, unless the client was closed; and where a journal had the requests of that, the longer one has those of these bytes too.
pub record IsLaterStage (client : ℕ) (why : Option Why) (old new : Stage) : Type 0 where
  pub given : List ℕ
  pub link_gave : Grows old.link.given new.link.given given
  pub sent : List ℕ
  pub link_took : Grows old.link.taken new.link.taken sent
  pub side : IsLater client why sent old.side new.side
  pub cut : (stream : List ℕ) → why ≡ None → HasCut stream old.cutter → HasCut (stream ++ given) new.cutter
  pub heard : (run : Run) (past : List Event) (taken : ℕ → List ℕ) (stream : List ℕ) → IsOpenWith client run past taken stream old
      → HasHeard (source_of run) (past ++ side.calm) client why (stream ++ given)
