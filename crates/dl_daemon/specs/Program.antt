-- What the daemon promises.
use Rattle.std.specs.Prelude.{◌≡◌, ◌≢◌, ◌⊎◌, ℕ, List, map, Option, Some, None, IsSome, IsSomeAnd, false}
use Rattle.dl_bytes.specs.declared.conf.Conf.{Conf}
use Rattle.dl_bytes.specs.declared.moment.Moment.{Moment}
use Rattle.dl_loop.specs.Daemon.{TellTaken}
use Rattle.dl_outside.specs.Outside.{HasRisen}
use Rattle.dl_outside.specs.Told.{LinkTold, NetTold, SinkTold}
use Rattle.dl_outside.specs.Written.{Wrote, WroteNothing}
use Rattle.dl_serve.specs.Admitted.{AllAdmitted, TellGiven}
use Rattle.dl_serve.specs.Closed.{HasClosedTo}
use Rattle.dl_serve.specs.Dropped.{HasDropped}
use Rattle.dl_serve.specs.Levels.{AllTookLevels}
use Rattle.dl_serve.specs.Open.{HasNotListened, IsHeard, Listens}
use Rattle.dl_serve.specs.Shown.{AllShowEnds, TellLeft}
use Rattle.dl_serve.specs.Went.{EachCloseHasCause}
use Rattle.dl_serve.specs.declared.beginning.Begun.{Begun}
use Rattle.dl_serve.specs.declared.closed.Closed.{Closed}
use Rattle.dl_server.specs.State.{State, seen}
use Rattle.dl_server.specs.declared.server.Server.{Server}
use Rattle.dl_startup.specs.Configuration.{AreSetUp}
use Rattle.dl_startup.specs.Unchanged.{IsUnchanged}
use Rattle.dl_startup.specs.declared.status.Status.{Status}
use Rattle.dl_startup.specs.declared.status.Status.TheVariants.{Ok, WordsRefused, NetFault, OutOfMemory, JournalFull}
use Rattle.dl_events.specs.Told.{Told}
use Rattle.dl_words.specs.Daemon.{Daemon, daemon_of}
use Rattle.dl_daemon.specs.declared.left.Left.{Left}
use Rattle.dl_daemon.specs.declared.limits.Limits.{Limits}
use Rattle.dl_daemon.specs.declared.opened.Opened.{Opened}
use Rattle.dl_daemon.specs.declared.renewing.Tries.{Tries}
use Rattle.dl_daemon.specs.declared.rounds.Stop.{Stop}
use Rattle.dl_daemon.specs.Begin.{Refuses, Started}
use Rattle.dl_daemon.specs.Comes.{IsKeptTo}
use Rattle.dl_daemon.specs.Left.{IsOf}
use Rattle.dl_daemon.specs.Limits.{limits}
use Rattle.dl_daemon.specs.Open.{IsOpenedFor, setting}
use Rattle.dl_daemon.specs.Outside.{Outside, outside}
use Rattle.dl_daemon.specs.Renewing.{untried}
use Rattle.dl_daemon.specs.Rounds.{HasGoneRound, noted}
use Rattle.dl_daemon.specs.Service.{Between, HasGoneOn}
use Rattle.dl_daemon.specs.Status.{line_of, status_of}
use Rattle.dl_daemon.specs.Watching.{told_for, told_of}

-- ---- what the daemon did

-- The daemon was begun, went on, round after round, until there was a cause to end it, and closed; this is left. Were its events kept, `closed` would be what is
-- left:
-- what its rounds come to is what that journal says, in a setting of so many clients, and its trace files are those of its events, or of those since its
-- trace was begun anew; of each program's messages there are the events, in their order, each once, where links tell what they gave; the links of programs
-- show why these ended, and so do those of clients, with the Closes among the events.
-- Where links tell what they took, each program's took the front of the messages of the levels that were set for the program, and all of them where its
-- channel is open at the end and the link never had to wait. Links were dropped for a cause.
pub record HasClosed {L : Type 0} (link_told : L → LinkTold) (said : List (List ℕ)) (why : Stop) (old new : Outside L) (left : Left L) : Type 0 where
  pub it : Started said old.folder
  pub closed : Closed L
  pub is_left : IsOf closed left
  pub last : Between L
  pub serves : HasGoneOn link_told limits it.begun why it.between old.net new.net old.users new.users (told_of it.asked.status old.watch) new.watch closed last
  pub comes : IsKeptTo link_told (setting limits it.begun) it.begun last.renewed.anew old.folder new.folder closed
  pub admits : TellGiven link_told → AllAdmitted closed.events.events (map link_told closed.users.links) closed.ends
  pub shows : AllShowEnds (TellLeft link_told) (map link_told closed.users.links) closed.ends
  pub went : EachCloseHasCause link_told (setting limits it.begun) closed
  pub took : AllTookLevels (TellTaken link_told) (setting limits it.begun) closed.events.events (map link_told closed.users.links) closed.ends
  pub dropped : HasDropped closed

-- ---- how it ends

-- Why there was no closing: one line a status. Nothing began, and the nets were left alone; or one of them could not listen, and listens as before;
-- or memory ran out. The watch was told what the words ask for, and let no round begin.
abbrev pub EndsEarly : {L : Type 0} → List (List ℕ) → Outside L → Outside L → Status → Type 0
EndsEarly words old new NetFault =
    (it : Started words old.folder) × IsUnchanged old.folder new.folder
    × ((HasNotListened old.net new.net × (new.users ≡ old.users)) ⊎ (IsHeard it.begun.port old.net new.net × HasNotListened old.users new.users))
    × (new.watch ≡ told_of it.asked.status old.watch)
EndsEarly words old new OutOfMemory = Unit {0}
EndsEarly words old new status =
    Refuses words old.folder new.folder status × (new.net ≡ old.net) × (new.users ≡ old.users) × (new.watch ≡ told_for (daemon_of words) old.watch)

-- The daemon ended with this status: there was no closing; or there was, and the status is that of why its rounds ended.
abbrev pub Ended : {L : Type 0} → (L → LinkTold) → List (List ℕ) → Outside L → Outside L → Status → Option (Left L) → Type 0
Ended link_told said old new status None = EndsEarly said old new status
Ended link_told said old new status (Some left) = (why : Stop) × (status ≡ status_of why) × HasClosed link_told said why old new left

-- ---- for inner functions

-- Rounds of a server, over a trace of this configuration, until there was a cause to end them; then it closed, and this is left of it.
pub record HasRun {L : Type 0} (link_told : L → LinkTold) (conf : Conf) (tries : Tries) (server : Server Told L) (why : Stop) (old new : Outside L) (closed : Closed L) : Type 0 where
  pub last : State
  pub served : HasGoneRound link_told conf tries why old.net new.net old.users new.users old.watch new.watch (seen link_told noted false old.folder server) last
  pub moment : Moment
  pub closes : HasClosedTo link_told moment last new.folder closed

-- A server was made within these limits, to which nobody had come; both nets listen, each on its port; and it ran. They listen there at the end, too.
pub record HasOpened {L : Type 0} (link_told : L → LinkTold) (most : Limits) (begun : Begun) (why : Stop) (old new : Outside L) (closed : Closed L) : Type 0 where
  pub opened : Opened L
  pub is_opened : IsOpenedFor link_told most begun opened
  pub net : NetTold L
  pub users : NetTold L
  pub net_heard : IsHeard begun.port old.net net
  pub users_heard : IsHeard begun.users old.users users
  pub run : HasRun link_told begun.conf untried opened.server why (outside old.folder net users old.watch) new closed
  pub net_listens : Listens begun.port old.net new.net
  pub users_listen : Listens begun.users old.users new.users

-- what was opened ran, or memory was wanting for its closing
abbrev pub EndsWith : {L : Type 0} → (L → LinkTold) → Conf → Tries → Server Told L → Outside L → Outside L → Status → Option (Left L) → Type 0
EndsWith link_told conf tries server old new status None = status ≡ OutOfMemory
EndsWith {L} link_told conf tries server old new status (Some left) =
    (why : Stop) × (status ≡ status_of why) × (closed : Closed L) × IsOf closed left × HasRun link_told conf tries server why old new closed

-- one of the nets did not listen, or memory was wanting
abbrev pub LeavesEarly : {L : Type 0} → Begun → Outside L → Outside L → Status → Type 0
LeavesEarly begun old new NetFault =
    (new.folder ≡ old.folder) × (new.watch ≡ old.watch)
    × ((HasNotListened old.net new.net × (new.users ≡ old.users)) ⊎ (IsHeard begun.port old.net new.net × HasNotListened old.users new.users))
LeavesEarly begun old new OutOfMemory = Unit {0}
LeavesEarly begun old new _ = ⊥

-- what was begun ran, or it left early
abbrev pub EndsBegun : {L : Type 0} → (L → LinkTold) → Limits → Begun → Outside L → Outside L → Status → Option (Left L) → Type 0
EndsBegun link_told most begun old new status None = LeavesEarly begun old new status
EndsBegun {L} link_told most begun old new status (Some left) =
    (why : Stop) × (status ≡ status_of why) × (closed : Closed L) × IsOf closed left × HasOpened link_told most begun why old new closed

-- ---- what else

-- Nothing is said where all went well; else the status's line, whole, or its front, where standard error failed.
abbrev pub Says : Status → SinkTold → SinkTold → Type 0
Says status err err_now = (status ≡ Ok → WroteNothing err err_now) × (status ≢ Ok → Wrote err err_now (line_of status))

-- what the words name, and what the folder has, is of the form, and nothing failed
pub record IsLawful {L : Type 0} (asked : Daemon) (old new : Outside L) : Type 0 where
  pub confs : IsSomeAnd old.folder.files (AreSetUp asked.conf)
  pub keeps : ¬ (HasRisen old.folder.faults new.folder.faults)
  pub net : ¬ (HasRisen old.net.faults new.net.faults)
  pub users : ¬ (HasRisen old.users.faults new.users.faults)

-- these say that the closing was made
abbrev pub IsClosing : Status → Type 0
IsClosing Ok = Unit {0}
IsClosing JournalFull = Unit {0}
IsClosing _ = ⊥

-- ---- the whole

-- What the daemon comes to, whenever its watch ends it: the words, what folder and nets told before and after, what standard error told before and
-- after, the status, and what is left. A watch may end it at the begin of any round, so this says of each of them what holds there, were the daemon
-- closed then.
pub record IsKeeping {L : Type 0} (link_told : L → LinkTold) (said : List (List ℕ)) (old new : Outside L) (err err_now : SinkTold) (status : Status)
    (left : Option (Left L)) : Type 0 where
  -- the words decide first, but that memory may run out
  pub words_refused : status ≡ WordsRefused → daemon_of said ≡ None
  pub words_decide : daemon_of said ≡ None → (status ≡ WordsRefused) ⊎ (status ≡ OutOfMemory)
  -- what the status says
  pub outcome : Ended link_told said old new status left
  -- the closing was made where the watch ended it, and where no more frames may be admitted; and nowhere else
  pub closes : IsClosing status → IsSome left
  pub closed : IsSome left → IsClosing status
  -- where all is of the form and nothing fails, one of both ended it, or memory was wanting
  pub complete : (asked : Daemon) → daemon_of said ≡ Some asked → IsLawful asked old new → (status ≡ Ok) ⊎ (status ≡ JournalFull) ⊎ (status ≡ OutOfMemory)
  -- the status's line is said, and nothing where all went well
  pub told : Says status err err_now

-- the same, where this is the word for what standard error tells
abbrev pub Keeps : {L E : Type 0} → (L → LinkTold) → (E → SinkTold) → List (List ℕ) → Outside L → Outside L → E → E → Status → Option (Left L) → Type 0
Keeps link_told err_told said old new err err_now = IsKeeping link_told said old new (err_told err) (err_told err_now)
