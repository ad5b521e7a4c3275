-- A daemon later: what whoever makes many calls of it knows of the first and the last.
use Rattle.std.specs.Prelude.{◌≡◌, ◌⊎◌, ◌+◌, ◌≤◌, ℕ, List, ◌++◌, count_by, length}
use Rattle.std.specs.List.{AllByRecursion}
use Rattle.dl_bytes.specs.Limits.{open_client_limit}
use Rattle.dl_ring.specs.declared.item.RingItem.{RingItem}
use Rattle.dl_events.specs.declared.event.Event.{Event}
use Rattle.dl_events.specs.declared.event.Event.TheVariants as event
use Rattle.dl_model.specs.Journal.{is_connect}
use Rattle.dl_outside.specs.Outside.{Stays}
use Rattle.dl_outside.specs.Told.{NetTold}
use Rattle.dl_desk.specs.Made.{IsLater}
use Rattle.dl_account.specs.Known.{taken_of}
use Rattle.dl_core.specs.Follows.{HoldsTrace, Run}
use Rattle.dl_core.specs.Files.{Leaves}
use Rattle.dl_core.specs.Later.{IsFolderLater}
use Rattle.dl_admission.specs.Kept.{end_of}
use Rattle.dl_rounds.specs.Greetings.{IsOfGreeting}
use Rattle.dl_loop.specs.Holds.{Gives}
use Rattle.dl_loop.specs.Scene.{Scene}

-- an event of a round: any but one of a program that tells of itself
abbrev pub IsOfRound : Event → Type 0
IsOfRound (event.User channel msg moment) = ⊥
IsOfRound other = Unit {0}

-- The daemon is later by these events; it is of the same core, desk, writers and calls. Each Connect event is one of a link that came, and no link is
-- forgotten. The trace files that stood for the journal stand for the longer one. No file of others changed in the folder, and a trace that is kept
-- stays in its directory; the folder's faults and its stored configuration are later by these events.
pub record IsLaterBy {L : Type 0} (more : List Event) (old new : Scene L) : Type 0 where
  pub events : new.daemon.journal.events ≡ old.daemon.journal.events ++ more
  pub calls : new.daemon.calls ≡ old.daemon.calls
  pub first_core : new.daemon.first_core ≡ old.daemon.first_core
  pub first_desk : new.daemon.first_desk ≡ old.daemon.first_desk
  pub desk : IsLater old.daemon.desk new.daemon.desk
  pub owners : new.daemon.desk.owners ≡ old.daemon.desk.owners
  pub taken : (app : ℕ) → (items : List RingItem) × (taken_of new.daemon.desk.handles app ≡ taken_of old.daemon.desk.handles app ++ items)
  pub connects : length new.daemon.links.links ≡ length old.daemon.links.links + count_by is_connect more
  pub holds : (run : Run) → Gives run new.daemon.first_core new.daemon.desk.apps new.daemon.desk.handles
      → HoldsTrace run old.daemon.journal.events old.daemon.core old.folder → HoldsTrace run new.daemon.journal.events new.daemon.core new.folder
  pub leaves : Leaves old.daemon.core new.daemon.core old.folder new.folder
  pub folder : (run : Run) → Gives run new.daemon.first_core new.daemon.desk.apps new.daemon.desk.handles
      → IsFolderLater run.setting old.daemon.journal.events more (end_of old.daemon.core.trace) (end_of new.daemon.core.trace) old.folder new.folder

-- The daemon is later by events that its own applications told of themselves, and by the levels that these owed.
abbrev pub IsLaterGreeted : {L : Type 0} → Scene L → Scene L → Type 0
IsLaterGreeted old new = (more : List Event) × AllByRecursion IsOfGreeting more × IsLaterBy more old new

-- the net listens where it did, and launched whom it had; its count of faults never falls
pub record IsNetLater {L : Type 0} (old new : NetTold L) : Type 0 where
  pub listens : Stays old.listens_on new.listens_on
  pub launched : Stays old.launched new.launched
  pub faults : old.faults ≤ new.faults

-- Rounds of a daemon, however many: it is later by events that no program told of itself, and its applications have told of themselves where they
-- had before. A link was dropped only where as many clients came as may be open at once.
pub record GoesRound {L : Type 0} (net net_now : NetTold L) (old new : Scene L) : Type 0 where
  pub more : List Event
  pub later : IsLaterBy more old new
  pub of_round : AllByRecursion IsOfRound more
  pub greeted : new.daemon.greeted ≡ old.daemon.greeted
  pub net_later : IsNetLater net net_now
  pub dropped : (new.daemon.dropped ≡ old.daemon.dropped) ⊎ (open_client_limit ≤ length new.daemon.links.links)
