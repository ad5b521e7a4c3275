-- What a world is after the marks of a run, and what each call of it comes to.
use Rattle.std.specs.Prelude.{◌≡◌, ℕ, ◌+◌, ◌-◌, ◌^◌, ◌<◌, ◌≤◌, min, Bool, true, false, List, [], ◌∷◌, ◌++◌, length, take, count_by, Option, Some, None, IfSome, IsSome, slice_index}
use Rattle.std.specs.List.{filter_map, AllByRecursion}
use Rattle.std.specs.Option.{option_map_or}
use Rattle.dl_bytes.specs.Limits.{client_limit}
use Rattle.dl_bytes.specs.Claim.{Claimed}
use Rattle.dl_bytes.specs.declared.item.Item.{Item}
use Rattle.dl_bytes.specs.declared.outcome.Done.{Done}
use Rattle.dl_bytes.specs.declared.outcome.Done.TheVariants as did
use Rattle.dl_events.specs.declared.event.Event.{Event}
use Rattle.dl_events.specs.declared.event.Event.TheVariants.{Log, Claim}
use Rattle.dl_message.specs.Frames.{log_message}
use Rattle.dl_events.specs.declared.event.Why.{Why}
use Rattle.dl_events.specs.declared.event.Why.TheVariants as why
use Rattle.dl_script_model.specs.declared.line.CallLine.{CallLine}
use Rattle.dl_model.specs.Setting.{Setting}
use Rattle.dl_model.specs.ClientStream.{traffic, stream}
use Rattle.dl_model.specs.Journal.{is_close}
use Rattle.dl_script_model.specs.Marks.{Call, Mark, Noted, Answered, Injected, journal, to_push, to_count, apps, apid_of, call_of, moment, is_later, fed, heard}
use Rattle.dl_script_model.specs.Steps.{Act, note_levels, load}
use Rattle.dl_laws.specs.FrameLengths.{CarriesLen}
use Rattle.dl_laws.specs.FramesPut.{IsPut}
use Rattle.dl_world_calls.specs.Follows as calls
use Rattle.dl_world_calls.specs.Injections.{AreAfter}
use Rattle.dl_world_calls.specs.State.{Held, HeldCall, HeldClaim, next_claim, next_held, next_item}
use Rattle.dl_outside.specs.Folder.{Files}
use Rattle.dl_outside.specs.Told.{FolderTold}
use Rattle.dl_hub.specs.State.{HasPlace, Waiting, outbox_of, is_open}
use Rattle.dl_trace.specs.State.{Trace}
use Rattle.dl_core.specs.Follows as core
use Rattle.dl_core.specs.Follows.{Run, HoldsTrace}
use Rattle.dl_core.specs.State.{Core}
use Rattle.dl_world.specs.State.{Client, client_at, channel_at, taken_by}
use Rattle.dl_world.specs.Fed.{IsFedBy, IsHeardBy}
use Rattle.dl_core.specs.Later.{trace_failures}
use Rattle.dl_core.specs.Standing.{KeepsTrace}
use Rattle.dl_world.specs.Stored.{HoldsStored}
use Rattle.dl_world.specs.declared.world.World.{World}

-- ---- the run of these marks

-- the run gives the frame of a call
abbrev pub GivesCall : Run → Call → Type 0
GivesCall run call = run.frame call.item.writer call.item.call ≡ log_message run.setting.ecu call.item

-- The run is one of these marks: it has the frame of each call, and the APID of each application.
pub record IsRunOf (run : Run) (done : List Mark) : Type 0 where
  pub frames : AllByRecursion (GivesCall run) (filter_map call_of done)
  pub apids : (app : ℕ) → app < length (apps done) → run.apid app ≡ apid_of done app

-- the stream of a client so far
abbrev pub stream_in : Run → List Mark → ℕ → List (List ℕ)
stream_in run done number = stream (core.source_of run) run.setting.buffer number (journal done)

-- ---- the world after marks

-- all but what the links took: the log calls, the injections, the core, what clients and channels sent, and the clock
pub record IsSoFar (run : Run) (done : List Mark) (world : World) : Type 0 where
  pub ecu_so : length run.setting.ecu ≡ 4
  pub limit_so : run.setting.clients ≡ client_limit
  pub calls_so : calls.IsAfter done world.calls
  pub few_so : length (apps done) ≤ 16
  pub injections_so : AreAfter done world.injections
  pub events_so : world.journal.events ≡ journal done
  pub core_so : core.IsAfter run (journal done) (taken_by world.clients) world.core
  pub lengths_so : AllByRecursion CarriesLen (traffic (core.source_of run) (journal done))
  pub came_so : length world.clients ≡ length world.core.hub.clients
  pub gone_so : count_by is_close (journal done) + count_by is_open world.core.hub.clients ≡ length world.core.hub.clients
  pub fed_so : (number : ℕ) → IfSome (client_at world.clients number) (λ client. IsFedBy (fed number done) client.cutter)
  pub unfed_so : (number : ℕ) → client_at world.clients number ≡ None → fed number done ≡ []
  pub heard_so : (channel : ℕ) → IsHeardBy (heard channel done) (channel_at world.channels channel)
  pub moment_so : world.moment ≡ moment done
  pub later_so : world.later ≡ is_later done

-- the link of a client took its whole stream
abbrev pub HasTaken : Run → List Mark → World → ℕ → Type 0
HasTaken run done world number = IfSome (client_at world.clients number) (λ client. client.frames ≡ stream_in run done number)

-- The world is what these marks came to, in one of their runs.
pub record IsAfter (run : Run) (done : List Mark) (world : World) : Type 0 where
  pub so_far : IsSoFar run done world
  pub taken : (number : ℕ) → HasTaken run done world number

-- A client's link is behind by what waits in its outbox: whole frames, with which its stream ends. One that is gone is not behind.
abbrev pub IsBehind : Run → List Mark → ℕ → Client → Option Waiting → Type 0
IsBehind run done number client None = client.frames ≡ stream_in run done number
IsBehind run done number client (Some outbox) = IsPut client.frames outbox.bytes (stream_in run done number)

-- the same where an event was noted, and the links are to take what it put into outboxes
pub record IsBefore (run : Run) (done : List Mark) (world : World) : Type 0 where
  pub so_far : IsSoFar run done world
  pub behind : (number : ℕ) → IfSome (client_at world.clients number) (λ client. IsBehind run done number client (outbox_of world.core.hub number))

-- what a delivery leaves: all but the outboxes, and the frames that the links took
pub record IsDelivered (old new : World) : Type 0 where
  pub calls_same : new.calls ≡ old.calls
  pub registry_same : new.core.registry ≡ old.core.registry
  pub clients_same : length new.clients ≡ length old.clients
  pub open_same : (number : ℕ) → IsSome (outbox_of old.core.hub number) → IsSome (outbox_of new.core.hub number)

-- ---- what a call comes to

-- what the folder answered to requests among these marks
abbrev pub answer_of : Mark → Option Done
answer_of (Answered what) = Some what
answer_of _ = None

abbrev pub answers_in : List Mark → List Done
answers_in done = filter_map answer_of done

-- these answers begin with those
abbrev pub BeginWith : List Done → List Done → Type 0
BeginWith front answers = (rest : List Done) × (answers ≡ front ++ rest)

-- the folder failed at a request
abbrev pub is_failure : Done → Bool
is_failure did.Failed = true
is_failure _ = false

-- how often the trace that a core keeps ended by a failure
abbrev pub failures_of : Core → ℕ
failures_of at = option_map_or (λ (trace : Trace). trace_failures trace.state.end) at.trace 0

-- an act of a script, which may depend on what the folder answers to requests
abbrev pub Deed : Type 0
Deed = Setting → List Done → Act

-- What holds before a call holds after it, of the marks and of the folder; of the trace files also once the trace has ended; of the stored
-- configuration, where the folder failed at no request meanwhile.
pub record Goes (run : Run) (done more : List Mark) (old new : World) (told told_now : FolderTold) (answered : List Done) : Type 0 where
  pub after : IsAfter run (done ++ more) new
  pub holds : HoldsTrace run (journal done) old.core told → HoldsTrace run (journal (done ++ more)) new.core told_now
  pub stands : (first : Option Files) → KeepsTrace run first (journal done) old.core told → KeepsTrace run first (journal (done ++ more)) new.core told_now
  pub stored : (first : Option (List ℕ)) → count_by is_failure answered ≡ 0
      → HoldsStored run.setting first (journal done) told.files → HoldsStored run.setting first (journal (done ++ more)) told_now.files
  pub answers : answers_in (done ++ more) ≡ answers_in done ++ answered

-- The call is this act: whatever marks came before, it comes to the marks of the act after them. The folder answered so to the requests
-- that asked it meanwhile, and its count of faults rose by as many as it failed, at least.
pub record Does (deed : Deed) (old new : World) (told told_now : FolderTold) : Type 0 where
  pub answered : List Done
  pub goes : (run : Run) (done : List Mark) (answers : List Done) → BeginWith (answers_in done ++ answered) answers
      → IsAfter run done old → IsRunOf run (done ++ deed run.setting answers done)
      → Goes run done (deed run.setting answers done) old new told told_now answered
  pub trace_failed : ℕ
  pub failures : failures_of new.core ≡ failures_of old.core + trace_failed
  pub rose : min (told.faults + (count_by is_failure answered + trace_failed)) (2 ^ 64 - 1) ≤ told_now.faults

-- the same of a call that is handed no folder
abbrev pub Doing : (Setting → Act) → World → World → Type 0
Doing act old new = (told : FolderTold) → Does (λ setting answers. act setting) old new told told

-- the next Level event that waits
abbrev pub next_level : Setting → Act
next_level setting done = take 1 (note_levels setting done)

-- an event is noted
abbrev pub noting : (List Mark → Event) → Setting → Act
noting make setting done = Noted (make done) ∷ []

-- where a log call is next in an application's ring, it is noted as taken
abbrev pub NotesNextCall : ℕ → World → World → FolderTold → FolderTold → Type 0
NotesNextCall app old new told told_now = (item : Item) → next_item old.calls app ≡ Some item
    → Does (λ setting answers. noting (λ now. Log app item.writer item.call (moment now)) setting) old new told told_now

-- so is a claim that is next
abbrev pub NotesNextClaim : ℕ → World → World → Type 0
NotesNextClaim app old new = (claim : Claimed) → next_claim old.calls app ≡ Some claim → Doing (noting (λ now. Claim claim (moment now))) old new

-- the event by which the daemon notes what it takes out of an application's ring
abbrev pub event_held : ℕ → Held → List Mark → Event
event_held app (HeldCall r) now = Log app r.item.writer r.item.call (moment now)
event_held app (HeldClaim claim) now = Claim claim (moment now)

-- what is next in an application's ring, a log call or a claim, is noted as taken
abbrev pub NotesNext : ℕ → World → World → FolderTold → FolderTold → Type 0
NotesNext app old new told told_now = (what : Held) → next_held old.calls app ≡ Some what
    → Does (λ setting answers. noting (event_held app what) setting) old new told told_now

-- ---- log calls

-- The load of a call: where its writer has no open one, it comes to the marks of the load after those before.
abbrev pub Loads : CallLine → World → World → Type 0
Loads call old new = (run : Run) (done : List Mark) → IsAfter run done old → to_push call.writer done ≡ None → to_count call.writer done ≡ None
    → IsAfter run (done ++ load run.setting call done) new

-- ---- clients

-- how many clients are open
abbrev pub open_among : World → ℕ
open_among world = count_by is_open (take (length world.clients) world.core.hub.clients)

-- a client may come
abbrev pub MayConnect : World → Type 0
MayConnect world = HasPlace world.core.hub

-- a cause that says nothing of the client's outbox, or that it is empty
abbrev pub IsPlain : Why → Type 0
IsPlain (why.Slow room need) = ⊥
IsPlain (why.Stuck left) = ⊥
IsPlain _ = Unit {0}

-- ---- requests

-- An injection goes into an application's queue, which has room for 16; where none is wanted, or where the queue is full, nothing changes.
abbrev pub Queues : Option ℕ → Bool → List ℕ → List ℕ → Type 0
Queues None pushed old new = (pushed ≡ false) × (new ≡ old)
Queues (Some app) true old new = (app < 16) × (slice_index old app < 16) × ((done : List Mark) → AreAfter done old → AreAfter (done ++ Injected app ∷ []) new)
Queues (Some app) false old new = (app < 16 → 16 ≤ slice_index old app) × (new ≡ old)
