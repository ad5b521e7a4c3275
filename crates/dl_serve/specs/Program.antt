-- What the program promises.
use Rattle.std.specs.Prelude.{◌≡◌, ◌≢◌, ◌⊎◌, ◌<◌, ◌≤◌, ℕ, Bool, true, false, List, [], length, map, Option, Some, None, IsSome, IsSomeAnd}
use Rattle.dl_bytes.specs.declared.moment.Moment.{Moment}
use Rattle.dl_events.specs.Journal.{Journaled}
use Rattle.dl_loop.specs.Daemon.{TellTaken}
use Rattle.dl_model.specs.Setting.{Setting}
use Rattle.dl_outside.specs.Links.{Links}
use Rattle.dl_outside.specs.Outside.{HasRisen}
use Rattle.dl_outside.specs.Told.{LinkTold, NetTold, SinkTold}
use Rattle.dl_outside.specs.Written.{Wrote, WroteNothing}
use Rattle.dl_server.specs.State.{State, seen}
use Rattle.dl_server.specs.declared.server.Server.{Server}
use Rattle.dl_startup.specs.Configuration.{AreSetUp}
use Rattle.dl_startup.specs.Status.{number}
use Rattle.dl_startup.specs.declared.status.Status.{Status}
use Rattle.dl_startup.specs.declared.status.Status.TheVariants.{Ok, WordsRefused, WriteFault, NetFault, OutOfMemory, NamesSpent, JournalFull}
use Rattle.dl_words.specs.Serve.{Serve, serve_of}
use Rattle.dl_serve.specs.declared.beginning.Begun.{Begun}
use Rattle.dl_serve.specs.declared.closed.Closed.{Closed}
use Rattle.dl_serve.specs.declared.faults.Faults.{Faults}
use Rattle.dl_serve.specs.declared.opened.Opened.{Opened}
use Rattle.dl_serve.specs.declared.served.Served.{Served}
use Rattle.dl_serve.specs.Admitted.{AllAdmitted, TellGiven}
use Rattle.dl_serve.specs.Closed.{HasClosedTo, text_of}
use Rattle.dl_serve.specs.Comes.{IsComeTo}
use Rattle.dl_serve.specs.Dropped.{HasDropped}
use Rattle.dl_serve.specs.Ends.{Ends, EndsEarly, HasGoneWell, Started}
use Rattle.dl_serve.specs.Faults.{counted}
use Rattle.dl_serve.specs.WhoWaited.{HasAcceptedInOrder, NetsStand}
use Rattle.dl_serve.specs.Levels.{AllTookLevels}
use Rattle.dl_serve.specs.Open.{HasNotListened, IsHeard, IsOpenedFor, Listens, setting}
use Rattle.dl_serve.specs.Rounds.{HasMadeRounds, event_limit, kept}
use Rattle.dl_serve.specs.Service.{IsClosing, Rounds, ServesRound, Standing, nobody}
use Rattle.dl_serve.specs.Shown.{AllShowEnds, TellLeft}
use Rattle.dl_serve.specs.Status.{line_of}
use Rattle.dl_serve.specs.Told.{Told, told}
use Rattle.dl_serve.specs.Went.{EachCloseHasCause}

-- ---- what was served

-- what folder and nets count
abbrev pub counts : {L : Type 0} → Told L → Faults
counts told = counted told.folder told.net told.users

-- one round, which does not begin with a full journal
abbrev pub ServesOnce : {L : Type 0} → (L → LinkTold) → Setting → ℕ → ℕ → Standing L → Standing L → Type 0
ServesOnce told setting faults user_faults old new = (length old.events < event_limit) × ServesRound told true setting faults user_faults old new

-- Serving, by what both nets tell before and after it. First both listened, each on its port. Then so many rounds were made, each of which served who was
-- there: as many as were asked for, or the journal was full at the begin of the next one. Behind the last of them was the closing. Both nets listen on
-- their ports at the end, too.
pub record IsServed {L : Type 0} (told : L → LinkTold) (begun : Begun) (full : Bool) (net net_now users users_now : NetTold L) (closed : Closed L) (last : Standing L) : Type 0 where
  pub first_net : NetTold L
  pub first_users : NetTold L
  pub net_heard : IsHeard begun.port net first_net
  pub users_heard : IsHeard begun.users users first_users
  pub many : ℕ
  pub rounds : Rounds (ServesOnce told (setting begun) first_net.faults first_users.faults) many (nobody first_net first_users) last
  pub all : full ≡ false → many ≡ begun.rounds
  pub fewer : full ≡ true → (many < begun.rounds) × (event_limit ≤ length last.events)
  pub net_last : last.net ≡ net_now
  pub users_last : last.users ≡ users_now
  pub closing : IsClosing told (setting begun) last closed
  pub net_listens : Listens begun.port net net_now
  pub users_listen : Listens begun.users users users_now

-- Serving began, and what was begun was served, round after round. What that comes to is what its journal says; of each program's messages there are the events,
-- in their order, each once, where links tell what they gave; the links of programs show why these ended, and so do those of clients, with the Closes among the
-- events. Where links tell what they took, each program's took the front of the messages of the levels that were set for the program, and all of them where its
-- channel is open at the end and the link never had to wait. Links were dropped
-- for a cause. Where all went well, and the count of faults of neither net rose, the nets handed out as many links as there were rounds, or all that
-- waited, and what these gave is told.
pub record HasClosed {L : Type 0} (link_told : L → LinkTold) (said : List (List ℕ)) (full : Bool) (old new : Told L) (closed : Closed L) : Type 0 where
  pub it : Started said old.folder
  pub last : Standing L
  pub serves : IsServed link_told it.begun full old.net new.net old.users new.users closed last
  pub comes : IsComeTo link_told (setting it.begun) it.begun old.folder new.folder closed
  pub admits : TellGiven link_told → AllAdmitted closed.events.events (map link_told closed.users.links) closed.ends
  pub shows : AllShowEnds (TellLeft link_told) (map link_told closed.users.links) closed.ends
  pub went : EachCloseHasCause link_told (setting it.begun) closed
  pub took : AllTookLevels (TellTaken link_told) (setting it.begun) closed.events.events (map link_told closed.users.links) closed.ends
  pub dropped : HasDropped closed
  pub hands : HasGoneWell closed full (counts old) (counts new) → NetsStand old new
      → HasAcceptedInOrder link_told it.begun.rounds last.events old.net new.net old.users new.users closed

-- Serving ended with this status: the closing was not made, and nothing was written; or it was, and serving ended so.
abbrev pub Ended : {L : Type 0} → (L → LinkTold) → List (List ℕ) → Told L → Told L → Status → Option (Closed L) → Type 0
Ended link_told said old new status None = EndsEarly said old new status × WroteNothing old.out new.out
Ended link_told said old new status (Some closed) =
    (full : Bool) × HasClosed link_told said full old new closed × Ends closed full (counts old) (counts new) old.out new.out status

-- ---- for inner functions

-- Rounds of a server, as many as were asked for or as the journal had room for; then it closed, and this is left of it.
pub record HasRun {L : Type 0} (link_told : L → LinkTold) (server : Server Journaled L) (asked : ℕ) (full : Bool) (old new : Told L)
    (closed : Closed L) : Type 0 where
  pub last : State
  pub served : HasMadeRounds link_told asked full old.net new.net old.users new.users (seen link_told kept true old.folder server) last
  pub moment : Moment
  pub closes : HasClosedTo link_told moment last new.folder closed

-- A server was made, to which nobody had come; both nets listen, each on its port; and it ran. They listen there at the end, too.
pub record HasOpened {L : Type 0} (link_told : L → LinkTold) (begun : Begun) (full : Bool) (old new : Told L) (closed : Closed L) : Type 0 where
  pub opened : Opened L
  pub is_opened : IsOpenedFor link_told begun opened
  pub net : NetTold L
  pub users : NetTold L
  pub net_heard : IsHeard begun.port old.net net
  pub users_heard : IsHeard begun.users old.users users
  pub run : HasRun link_told opened.server begun.rounds full (told old.folder net users old.out) new closed
  pub net_listens : Listens begun.port old.net new.net
  pub users_listen : Listens begun.users old.users new.users

-- what was opened ran, or memory was wanting for its closing
abbrev pub EndsWith : {L : Type 0} → (L → LinkTold) → Server Journaled L → ℕ → Told L → Told L → Status → Option (Closed L) → Type 0
EndsWith link_told server asked old new status None = (status ≡ OutOfMemory) × WroteNothing old.out new.out
EndsWith link_told server asked old new status (Some closed) =
    (full : Bool) × HasRun link_told server asked full old new closed × Ends closed full (counts old) (counts new) old.out new.out status

-- what was begun was served; or one of the nets did not listen, or memory was wanting
abbrev pub LeavesEarly : {L : Type 0} → Begun → Told L → Told L → Status → Type 0
LeavesEarly begun old new NetFault =
    (new.folder ≡ old.folder)
    × ((HasNotListened old.net new.net × (new.users ≡ old.users)) ⊎ (IsHeard begun.port old.net new.net × HasNotListened old.users new.users))
LeavesEarly begun old new OutOfMemory = Unit {0}
LeavesEarly begun old new _ = ⊥

abbrev pub EndsBegun : {L : Type 0} → (L → LinkTold) → Begun → Told L → Told L → Status → Option (Closed L) → Type 0
EndsBegun link_told begun old new status None = LeavesEarly begun old new status × WroteNothing old.out new.out
EndsBegun link_told begun old new status (Some closed) =
    (full : Bool) × HasOpened link_told begun full old new closed × Ends closed full (counts old) (counts new) old.out new.out status

-- ---- what else

-- Nothing is said where all went well; else the status's line, whole, or its front, where standard error failed.
abbrev pub Says : Status → SinkTold → SinkTold → Type 0
Says status err err_now = (status ≡ Ok → WroteNothing err err_now) × (status ≢ Ok → Wrote err err_now (line_of status))

-- ---- completeness

-- what the words name, and what the folder has, is of the form, and nothing failed
pub record IsLawful {L : Type 0} (asked : Serve) (old new : Told L) : Type 0 where
  pub confs : IsSomeAnd old.folder.files (AreSetUp asked.conf)
  pub keeps : ¬ (HasRisen old.folder.faults new.folder.faults)
  pub net : ¬ (HasRisen old.net.faults new.net.faults)
  pub users : ¬ (HasRisen old.users.faults new.users.faults)
  pub writes : ¬ (HasRisen old.out.faults new.out.faults)

-- ---- the whole

-- these say that the closing was made
abbrev pub IsReported : Status → Type 0
IsReported Ok = Unit {0}
IsReported WriteFault = Unit {0}
IsReported NamesSpent = Unit {0}
IsReported JournalFull = Unit {0}
IsReported _ = ⊥

-- What serving comes to: the words, what folder, nets and output told before and after, what standard error told before and after, the status, and
-- what is left.
pub record IsServing {L : Type 0} (link_told : L → LinkTold) (said : List (List ℕ)) (old new : Told L) (err err_now : SinkTold)
    (status : Status) (closed : Option (Closed L)) : Type 0 where
  -- the words decide first, but that memory may run out
  pub words_refused : status ≡ WordsRefused → serve_of said ≡ None
  pub words_decide : serve_of said ≡ None → (status ≡ WordsRefused) ⊎ (status ≡ OutOfMemory)
  -- what the status says
  pub outcome : Ended link_told said old new status closed
  -- what is written is the report of what is left, or its front; or nothing is written
  pub written : WroteNothing old.out new.out ⊎ ((left : Closed L) × (closed ≡ Some left) × Wrote old.out new.out (text_of left))
  -- the closing was made where the report was written whole, or failed, or a frame had no name for its file, or the journal was full
  pub closes : IsReported status → IsSome closed
  -- where all is of the form and nothing fails, the report was written whole, or the journal was full, a frame had no name for its file, or memory was
  -- wanted
  pub complete : (asked : Serve) → serve_of said ≡ Some asked → IsLawful asked old new
      → (status ≡ Ok) ⊎ (status ≡ NamesSpent) ⊎ (status ≡ JournalFull) ⊎ (status ≡ OutOfMemory)
  -- the status's line is said, and nothing where all went well
  pub told : Says status err err_now

-- no links
abbrev pub no_links : {L : Type 0} → Links L
no_links = record { links = []; room = 0 }

-- What is handed back: the status's number; and the journal, what stands beside it, the links and the ends of the channels, where the closing was made.
abbrev pub HandsBack : {L : Type 0} → Status → Option (Closed L) → Served L → Type 0
HandsBack status None served =
    (served.status ≡ number status) × (served.events ≡ None) × (served.state ≡ None) × (served.clients ≡ no_links)
    × (served.users ≡ no_links) × (served.ends ≡ [])
HandsBack status (Some closed) served =
    (served.status ≡ number status) × (served.events ≡ Some closed.events) × (served.state ≡ Some closed.state) × (served.clients ≡ closed.clients)
    × (served.users ≡ closed.users) × (served.ends ≡ closed.ends)

-- Serving came to this, and it is handed back.
pub record HasServed {L : Type 0} (link_told : L → LinkTold) (said : List (List ℕ)) (old new : Told L) (err err_now : SinkTold) (served : Served L) : Type 0 where
  pub status : Status
  pub closed : Option (Closed L)
  pub serving : IsServing link_told said old new err err_now status closed
  pub back : HandsBack status closed served

-- the same, where this is the word for what standard error tells
abbrev pub Serves : {L E : Type 0} → (L → LinkTold) → (E → SinkTold) → List (List ℕ) → Told L → Told L → E → E → Served L → Type 0
Serves link_told err_told said old new err err_now = HasServed link_told said old new (err_told err) (err_told err_now)
