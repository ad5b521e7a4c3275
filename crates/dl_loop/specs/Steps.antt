-- What the parts of a round do to a daemon.
use Rattle.std.specs.Prelude.{◌≡◌, ◌≢◌, ◌+◌, ℕ, Bool, true, false, map, Some}
use Rattle.dl_outside.specs.Outside.{Stays}
use Rattle.dl_outside.specs.Told.{FolderTold, LinkTold, NetTold}
use Rattle.dl_hub.specs.State.{IsSameHub}
use Rattle.dl_rounds.specs.Arrivals.{Arrives, ConnectsAs}
use Rattle.dl_rounds.specs.Partings.{ShutsGone}
use Rattle.dl_rounds.specs.Ready.{AreHeard, AreLinked, KeepsRoom}
use Rattle.dl_rounds.specs.Visits.{HearsAll, PumpsAll}
use Rattle.dl_rounds.specs.declared.accepting.Arrival.{Arrival}
use Rattle.dl_rounds.specs.declared.accepting.Arrival.TheVariants as arrival
use Rattle.dl_loop.specs.State.{DaemonState, SameDesk, clients_of, desk_told}

-- the net failed
abbrev pub is_failure : Arrival → Bool
is_failure arrival.Failed = true
is_failure other = false

-- memory was wanting
abbrev pub is_want : Arrival → Bool
is_want arrival.OutOfMemory = true
is_want other = false

-- One accept, of a daemon for which none has failed or wanted memory.
pub record Accepts {L : Type 0} (told : L → LinkTold) (came : Arrival) (net net_now : NetTold L) (old new : DaemonState L) : Type 0 where
  pub arrives : Arrives told came net net_now old.links new.links old.dropped new.dropped
  pub connects : ConnectsAs came old.core new.core (Some old.journal.events) (Some new.journal.events)
  pub listens : Stays net.listens_on net_now.listens_on
  pub launched : Stays net.launched net_now.launched
  pub failed : new.failed ≡ is_failure came
  pub wanted : new.wanted ≡ is_want came
  pub linked : AreLinked new.links new.core new.journal.spare
  pub heard : AreHeard old.seated new.core (desk_told old.desk)
  pub spare : (number : ℕ) → came ≡ arrival.Client number → new.journal.spare + 1 ≡ old.journal.spare
  pub unused : ((number : ℕ) → came ≢ arrival.Client number) → new.journal ≡ old.journal
  pub rest : new ≡ record old { core = new.core; journal = new.journal; links = new.links; dropped = new.dropped; failed = new.failed; wanted = new.wanted }

-- What the next part asks of core, desk, links and listeners; the journal kept the room that it had for all but the Closes of clients.
pub record GoesOn {L : Type 0} (old new : DaemonState L) : Type 0 where
  pub linked : AreLinked new.links new.core new.journal.spare
  pub heard : AreHeard new.seated new.core (desk_told new.desk)
  pub room : KeepsRoom old.core new.core old.journal.spare new.journal.spare
  pub same : IsSameHub old.core.hub new.core.hub

-- Each open client was listened to once. Of the desk nothing has changed but levels and injections.
pub record Hears {L : Type 0} (told : L → LinkTold) (moved : Bool) (folder folder_now : FolderTold) (old new : DaemonState L) : Type 0 where
  pub visits : HearsAll moved (clients_of told old folder) (clients_of told new folder_now)
  pub desk : SameDesk old.desk new.desk
  pub rest : new ≡ record old { core = new.core; desk = new.desk; journal = new.journal; links = new.links; seated = new.seated }

-- Each open client was sent once what waits for it.
pub record Pumps {L : Type 0} (told : L → LinkTold) (moved : Bool) (old new : DaemonState L) : Type 0 where
  pub visits : PumpsAll moved (map told old.links.links) (map told new.links.links) old.core new.core (Some old.journal.events) (Some new.journal.events)
  pub rest : new ≡ record old { core = new.core; journal = new.journal; links = new.links }

-- The links of clients that are gone were shut; those of open ones stand, and so does all else.
pub record Parts {L : Type 0} (told : L → LinkTold) (old new : DaemonState L) : Type 0 where
  pub shuts : ShutsGone old.core.hub (map told old.links.links) (map told new.links.links)
  pub room : new.links.room ≡ old.links.room
  pub rest : new ≡ record old { links = new.links }
