-- What a stop comes to, told by the events that it adds and by the bytes that links took.
use Rattle.std.specs.Prelude.{◌≡◌, ℕ, ◌+◌, ◌≤◌, true, List, ◌++◌, length, map, slice_get, None, Some}
use Rattle.std.specs.List.{AllByRecursion, filter_map}
use Rattle.dl_events.specs.declared.event.Event.{Event}
use Rattle.dl_events.specs.declared.event.Event.TheVariants as event
use Rattle.dl_cells.specs.Losses.{reported_of}
use Rattle.dl_ring.specs.declared.item.RingItem.{RingItem}
use Rattle.dl_model.specs.Journal.{IsRunning, IsWellFormed}
use Rattle.dl_outside.specs.Links.{Links}
use Rattle.dl_outside.specs.Outside.{Grows}
use Rattle.dl_outside.specs.Told.{FolderTold, LinkTold}
use Rattle.dl_desk.specs.Told.{ControlTold, told_by}
use Rattle.dl_account.specs.State.{AccountState}
use Rattle.dl_hub.specs.State.{outbox_of}
use Rattle.dl_core.specs.Follows.{HoldsTrace, IsAfter, Run, source_of}
use Rattle.dl_core.specs.State.{Core}
use Rattle.dl_taking.specs.Drained.{GivesTook}
use Rattle.dl_taking.specs.Draining.{closing_told, closing_took}
use Rattle.dl_taking.specs.Takes.{AreThere, TellAllTaken}
use Rattle.dl_taking.specs.Took.{Took, took_by}
use Rattle.dl_turns.specs.Injected.{HasInjected}
use Rattle.dl_turns.specs.Later.{level_in}
use Rattle.dl_rounds.specs.Passing.{took_all}
use Rattle.dl_settling.specs.Ends.{ends_of}
use Rattle.dl_settling.specs.State.{Stopping}

-- an event of a stop: a call, a report of losses, a claim, a request, a level, or a Close; no user message, and no client that comes
abbrev pub IsOfStop : Event → Type 0
IsOfStop (event.User channel msg moment) = ⊥
IsOfStop (event.Connect client) = ⊥
IsOfStop other = Unit {0}

-- what was taken in the end, and what the desk tells then
abbrev pub account_took : AccountState → Took
account_took account = took_by account.handles

abbrev pub account_told : AccountState → ControlTold
account_told account = told_by (length account.apps) account.handles

-- A run goes on with these events, and these bytes more that the links took: it makes of one core the other, and of one folder the other; a
-- well-formed journal stays so where the desk's applications are there and no client was stopped before; and the queues of injections took and
-- refused those of the requests.
pub record RunsOn (run : Run) (past more : List Event) (taken sent : ℕ → List ℕ) (old new : Core) (folder folder_now : FolderTold) (told told_now : ControlTold) : Type 0 where
  pub after : IsAfter run (past ++ more) (took_all taken sent) new
  pub holds : HoldsTrace run past old folder → HoldsTrace run (past ++ more) new folder_now
  pub formed : AreThere told.apps old.registry → IsRunning past → IsWellFormed run.setting (source_of run) past → IsWellFormed run.setting (source_of run) (past ++ more)
  pub posted : (app : ℕ) → HasInjected run.setting past more app told told_now

-- A stop after which the core is this one is its events: the journal is longer by them, and each run that gives what was taken goes on with them. A
-- journal that told just what was taken does so with them, and the levels that were set are those of its Level events. No client is open in the end,
-- each has its link, which is shut, and what stands at the end is that of the core as it is then.
pub record IsStop {L : Type 0} (told : L → LinkTold) (dropped : ℕ) (core : Core) (old : Stopping L) (account : AccountState) (links : Links L) (folder folder_now : FolderTold) : Type 0 where
  pub more : List Event
  pub events : account.events ≡ old.journal.events ++ more
  pub of_stop : AllByRecursion IsOfStop more
  pub sent : ℕ → List ℕ
  pub links_took : (place : ℕ) (link link_now : LinkTold) → slice_get (map told old.links.links) place ≡ Some link → slice_get (map told links.links) place ≡ Some link_now
      → Grows link.taken link_now.taken (sent (place + 1))
  pub shut : (place : ℕ) (link : LinkTold) → slice_get (map told links.links) place ≡ Some link → link.is_shut ≡ true
  pub many : length links.links ≡ length old.links.links
  pub clients : length core.hub.clients ≡ length links.links
  pub runs : (run : Run) (past : List Event) (taken : ℕ → List ℕ) → GivesTook account.apps (account_took account) run → IsAfter run past taken old.core
      → RunsOn run past more taken sent old.core core folder folder_now (closing_told old.closing) (account_told account)
  pub tells : (past : List Event) → TellAllTaken past (closing_took old.closing) → TellAllTaken (past ++ more) (account_took account)
  pub sets : account.handles.levels.sets ≡ old.closing.handles.levels.sets ++ filter_map level_in more
  pub first : account.handles.levels.first ≡ old.closing.handles.levels.first
  pub others : (app : ℕ) → length account.apps ≤ app
      → ((account_took account).taken app ≡ (closing_took old.closing).taken app) × (reported_of app (account_took account).reported ≡ reported_of app (closing_took old.closing).reported)
  pub taken_more : (app : ℕ) → (items : List RingItem) × ((account_took account).taken app ≡ (closing_took old.closing).taken app ++ items)
  pub apps : account.apps ≡ old.closing.apps
  pub books : account.books ≡ old.closing.books
  pub none_open : (number : ℕ) → outbox_of core.hub number ≡ None
  pub outcome : account.outcome ≡ ends_of core dropped
