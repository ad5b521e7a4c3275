-- A trace that has ended is begun anew, at most once a minute.
use Rattle.std.specs.Prelude.{◌≡◌, ℕ, ◌+◌, ◌-◌, ◌%◌, ◌^◌, nat_le, Bool, true, false, ◌&&◌, List, Option, Some, None, IfOk, Result, Ok}
use Rattle.dl_bytes.specs.declared.conf.Conf.{Conf}
use Rattle.dl_bytes.specs.declared.moment.Moment.{Moment}
use Rattle.dl_bytes.specs.declared.outcome.TraceEnd.{TraceEnd}
use Rattle.dl_bytes.specs.declared.outcome.TraceEnd.TheVariants.{Failed, Spent, NoMemory}
use Rattle.dl_core.specs.Follows.{TakesPlace}
use Rattle.dl_events.specs.declared.event.Event.{Event}
use Rattle.dl_outside.specs.Outside.{one_more}
use Rattle.dl_outside.specs.Told.{FolderTold}
use Rattle.dl_startup.specs.Setup.{IsBegun}
use Rattle.dl_startup.specs.Unchanged.{IsUnchanged}
use Rattle.dl_trace.specs.Made.{HasFailed}
use Rattle.dl_trace.specs.InFolder.{ChangesTraceFiles}
use Rattle.dl_trace.specs.State.{Trace, counted}
use Rattle.dl_trace.specs.declared.trace.TraceFault.{TraceFault}
use Rattle.dl_daemon.specs.declared.renewing.Tries.{Tries}

-- ---- when

-- no trace was tried to be begun anew
abbrev pub untried : Tries
untried = record { last = None; renewed = 0; unstored = 0 }

-- A new trace may go on where this one ended: a folder that failed may be mended, and there may be memory again. Where the last number is used up, a new
-- one would end with its first frame, as this one did.
abbrev pub may_go_on : Option TraceEnd → Bool
may_go_on None = false
may_go_on (Some Failed) = true
may_go_on (Some NoMemory) = true
may_go_on (Some Spent) = false

-- a trace is kept that has ended so
abbrev pub is_mendable : Option Trace → Bool
is_mendable None = false
is_mendable (Some trace) = may_go_on trace.state.end

-- a minute, in units of 0.1 ms
abbrev pub minute : ℕ
minute = 600000

-- A minute or more has passed since the last try, where there was one, by the timestamps of both: these never fall, but begin again after 2^32 units, some
-- five days.
abbrev pub has_passed : Option ℕ → ℕ → Bool
has_passed None now = true
has_passed (Some last) now = nat_le minute ((now + 2 ^ 32 - last) % 2 ^ 32)

-- a try is due
abbrev pub is_try_due : Tries → Option Trace → Moment → Bool
is_try_due tries trace moment = is_mendable trace && has_passed tries.last moment.ticks

-- ---- a try

-- What it leaves, by what making a trace answered. The new one has the place of the ended one: it has stored the records of as many frames as that one did not
-- store, and stores what is admitted from now on. Or it could not store them, or none was made: then the ended one stays. No file changes but trace files.
abbrev pub Takes : List ℕ → Moment → Result (Option Trace) TraceFault → Option ℕ → Option Trace → Option Trace → FolderTold → FolderTold → Type 0
Takes ecu moment (Ok (Some trace)) begun old new folder folder_now = TakesPlace begun ecu moment trace old new folder folder_now × ChangesTraceFiles trace.directory folder.files folder_now.files
Takes ecu moment made begun old new folder folder_now = (begun ≡ None) × (new ≡ old) × (folder_now ≡ folder)

-- The trace was tried to be begun anew, over the trace files that stand: it was, and so many frames were not stored before; or the ended one stays, since the
-- folder failed, or memory was wanting, or the new one could not store their records. This control unit and this moment stand in the records.
pub record HasTried (conf : Conf) (ecu : List ℕ) (moment : Moment) (begun : Option ℕ) (old new : Option Trace) (folder folder_now : FolderTold) : Type 0 where
  pub made : Result (Option Trace) TraceFault
  pub over : IfOk made (IsBegun conf folder.files)
  pub between : FolderTold
  pub cause : HasFailed folder.faults between.faults made
  pub unchanged : IsUnchanged folder between
  pub takes : Takes ecu moment made begun old new between folder_now

-- the tries after one more, at this moment
abbrev pub one_try_more : Moment → Option ℕ → Tries → Tries
one_try_more moment (Some unstored) tries = record { last = Some moment.ticks; renewed = one_more tries.renewed; unstored = counted (tries.unstored + unstored) }
one_try_more moment None tries = record tries { last = Some moment.ticks }

-- by whether one is due
abbrev pub RenewsIf : Bool → Conf → List ℕ → Moment → Option ℕ → Tries → Tries → Option Trace → Option Trace → FolderTold → FolderTold → Type 0
RenewsIf true conf ecu moment begun tries tries_now old new folder folder_now = HasTried conf ecu moment begun old new folder folder_now × (tries_now ≡ one_try_more moment begun tries)
RenewsIf false conf ecu moment begun tries tries_now old new folder folder_now = (begun ≡ None) × (tries_now ≡ tries) × (new ≡ old) × (folder_now ≡ folder)

-- At this moment a try was made where one was due, and else nothing; and a trace was begun anew, or none was.
abbrev pub Renews : Conf → List ℕ → Moment → Option ℕ → Tries → Tries → Option Trace → Option Trace → FolderTold → FolderTold → Type 0
Renews conf ecu moment begun tries tries_now old new folder folder_now =
    RenewsIf (is_try_due tries old moment) conf ecu moment begun tries tries_now old new folder folder_now

-- ---- how the trace was kept so far

-- when it was begun anew: what the folder told before that, and what had been noted; the moment, and how many frames were not stored before it
pub record Anew : Type 0 where
  pub folder : FolderTold
  pub past : Option (List Event)
  pub moment : Moment
  pub unstored : ℕ

-- the last beginning, where one came or none
abbrev pub last_anew : Option ℕ → Moment → FolderTold → Option (List Event) → Option Anew → Option Anew
last_anew (Some unstored) moment folder past before = Some (record { folder = folder; past = past; moment = moment; unstored = unstored })
last_anew None moment folder past before = before

-- the tries so far, and when a trace was begun anew for the last time, where one was
pub record Renewed : Type 0 where
  pub tries : Tries
  pub anew : Option Anew
