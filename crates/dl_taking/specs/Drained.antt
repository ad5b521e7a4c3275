-- What taking comes to: events, and what they tell.
use Rattle.std.specs.Prelude.{◌≡◌, ℕ, ◌+◌, ◌≤◌, Bool, true, false, List, ◌++◌, length, count_by}
use Rattle.std.specs.List.{AllByRecursion, filter_map}
use Rattle.dl_bytes.specs.declared.conf.AppSpec.{AppSpec}
use Rattle.dl_events.specs.declared.event.Event.{Event}
use Rattle.dl_events.specs.declared.event.Event.TheVariants as event
use Rattle.dl_events.specs.declared.event.Why.TheVariants.{Slow}
use Rattle.dl_cells.specs.Losses.{reported_of}
use Rattle.dl_model.specs.Journal.{IsRunning, IsWellFormed}
use Rattle.dl_ring.specs.declared.item.RingItem.{RingItem}
use Rattle.dl_ring.specs.Items.{calls_in}
use Rattle.dl_desk.specs.Lists.{At}
use Rattle.dl_hub.specs.State.{is_open}
use Rattle.dl_core.specs.Admission.{AddsEach, GivesFrames}
use Rattle.dl_core.specs.Follows.{Adds, IsAfter, Run, source_of}
use Rattle.dl_admission.specs.Admission.{AreNoted, Entry, KeepsClients}
use Rattle.dl_admission.specs.Kept.{KeepsTrace}
use Rattle.dl_admission.specs.Slow.{TellRooms}
use Rattle.dl_turns.specs.Later.{level_in}
use Rattle.dl_taking.specs.Side.{Side}
use Rattle.dl_taking.specs.Takes.{AreThere, TellAllTaken}
use Rattle.dl_taking.specs.Took.{Took}

-- a run gives the frame of each call that was taken, and the APID of each application
pub record GivesTook (specs : List AppSpec) (took : Took) (run : Run) : Type 0 where
  pub frames : (app : ℕ) → GivesFrames (calls_in (took.taken app)) run
  pub apids : (app : ℕ) → At specs app (λ spec. run.apid app ≡ spec.apid)

-- ---- the kinds of events

-- an event of taking: a call, a report of losses, a claim, a level, or the Close of a client that was too slow for frames
abbrev pub IsOfDrain : Event → Type 0
IsOfDrain (event.Log app writer call moment) = Unit {0}
IsOfDrain (event.Lost app count moment) = Unit {0}
IsOfDrain (event.Claim claim moment) = Unit {0}
IsOfDrain (event.Level slot level) = Unit {0}
IsOfDrain (event.Close client (Slow room need)) = Unit {0}
IsOfDrain other = ⊥

-- a call or a report of losses
abbrev pub is_noted : Event → Bool
is_noted (event.Log app writer call moment) = true
is_noted (event.Lost app count moment) = true
is_noted other = false

-- a claim
abbrev pub is_claim : Event → Bool
is_claim (event.Claim claim moment) = true
is_claim other = false

-- ---- what is taken, told by its events

-- Calls, claims and losses were taken, in runs that give what was taken in the end: these entries are noted, each after the Closes of the
-- clients that are too slow for it, and nothing else is. Core, trace, folder and level words are what the longer journal makes of them; no
-- injection is put or refused. A well-formed journal stays so where the applications are there, which they stay. A journal that told just what
-- was taken does so with these events. Of other applications nothing was taken.
pub record IsDrain (specs : List AppSpec) (old new : Side) : Type 0 where
  pub entries : List Entry
  pub more : List Event
  pub events : AddsEach old.part.events new.part.events more
  pub noted : AreNoted entries more
  pub kinds : AllByRecursion IsOfDrain more
  pub running : IsRunning more
  pub after : Adds more (GivesTook specs new.took) old.part.core new.part.core old.part.folder new.part.folder
  pub formed : (run : Run) (past : List Event) (taken : ℕ → List ℕ) → GivesTook specs new.took run → IsAfter run past taken old.part.core
      → AreThere (length specs) old.part.core.registry → IsRunning past → IsWellFormed run.setting (source_of run) past → IsWellFormed run.setting (source_of run) (past ++ more)
  pub there : AreThere (length specs) old.part.core.registry → AreThere (length specs) new.part.core.registry
  pub rooms : (run : Run) (past : List Event) (taken : ℕ → List ℕ) → GivesTook specs new.took run → IsAfter run past taken old.part.core → TellRooms run taken past more
  pub frames : ℕ
  pub admitted : new.part.core.hub.admitted ≡ old.part.core.hub.admitted + frames
  pub clients : KeepsClients more old.part.core.hub new.part.core.hub
  pub trace : KeepsTrace old.part.core.trace new.part.core.trace old.part.folder new.part.folder
  pub rest : new.part.core ≡ record old.part.core { registry = new.part.core.registry; hub = new.part.core.hub; trace = new.part.core.trace }
  pub desk : new.desk ≡ record old.desk { sets = old.desk.sets ++ filter_map level_in more }
  pub told : (past : List Event) → TellAllTaken past old.took → TellAllTaken (past ++ more) new.took
  pub taken_more : (app : ℕ) → (items : List RingItem) × (new.took.taken app ≡ old.took.taken app ++ items)
  pub others : (app : ℕ) → length specs ≤ app → (new.took.taken app ≡ old.took.taken app) × (reported_of app new.took.reported ≡ reported_of app old.took.reported)

-- One step of it: so many Log and Lost events, so many Claim events, at most as many Level events as these, and a Close of each client that is
-- open no longer; and so many frames were admitted.
pub record IsTake (specs : List AppSpec) (logs claims frames : ℕ) (old new : Side) : Type 0 where
  pub drain : IsDrain specs old new
  pub logs_so : count_by is_noted drain.more ≡ logs
  pub claims_so : count_by is_claim drain.more ≡ claims
  pub frames_so : drain.frames ≡ frames
  pub levels : ℕ
  pub few : levels ≤ claims
  pub closed : ℕ
  pub clients : count_by is_open new.part.core.hub.clients + closed ≡ count_by is_open old.part.core.hub.clients
  pub spare_so : new.spare + logs + claims + levels + closed ≡ old.spare
