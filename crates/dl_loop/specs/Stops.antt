-- A daemon that stops: what it hands on, and what it leaves.
use Rattle.std.specs.Prelude.{◌≡◌, ℕ, ◌≤◌, List, [], ◌++◌, length, map}
use Rattle.std.specs.List.{AllByRecursion}
use Rattle.dl_ring.specs.declared.item.RingItem.{RingItem}
use Rattle.dl_events.specs.declared.event.Event.{Event}
use Rattle.dl_model.specs.Journal.{IsOpen, IsWellFormed}
use Rattle.dl_outside.specs.Links.{Links}
use Rattle.dl_outside.specs.Told.{FolderTold, LinkTold}
use Rattle.dl_account.specs.Known.{taken_of}
use Rattle.dl_account.specs.State.{AccountState, ClosingState}
use Rattle.dl_core.specs.Follows.{HoldsTrace, IsAfter, Run, source_of}
use Rattle.dl_core.specs.State.{Core}
use Rattle.dl_core.specs.Files.{Leaves}
use Rattle.dl_core.specs.Later.{IsFolderLater}
use Rattle.dl_admission.specs.Kept.{end_of}
use Rattle.dl_taking.specs.Draining.{MayNote, all_claims_left, all_to_note, closing_told}
use Rattle.dl_rounds.specs.Ready.{AreHeard, AreLinked}
use Rattle.dl_bytes.specs.Limits.{client_limit}
use Rattle.dl_turns.specs.Gone.{TellTheEnd}
use Rattle.dl_turns.specs.Injected.{HasInjected}
use Rattle.dl_writer.specs.State.{BookState}
use Rattle.dl_account.specs.Making.{AreInOrder, IsMadeOf}
use Rattle.dl_account.specs.Settled.{IsSettled}
use Rattle.dl_settling.specs.Settling.{Settles}
use Rattle.dl_settling.specs.Ends.{trace_told}
use Rattle.dl_settling.specs.State.{Stopping}
use Rattle.dl_settling.specs.Stopped.{IsOfStop, account_told}
use Rattle.dl_settling.specs.Went.{HaveEnded, HaveGone, TellBytes, TellStreams}
use Rattle.dl_loop.specs.Holds.{Gives}
use Rattle.dl_loop.specs.State.{DaemonState, desk_told}
use Rattle.dl_loop.specs.Told.{IsToldBy}

-- what a daemon hands on to its stop, once this stands for its desk
abbrev pub stopping_of : {L : Type 0} → DaemonState L → ClosingState → Stopping L
stopping_of d closing = record { core = d.core; closing = closing; journal = d.journal; links = d.links; seated = d.seated }

-- What a stop leaves in a run: this core, as it is in the end, is what the account's events make of it, for what the links took, where links tell
-- that; the journal is well-formed, and no client is open in it; the queues of injections took and refused just those of its requests; the ends
-- of links tell the clients' streams, and the trace tells its files; the trace files that stood for the journal stand for the longer one. The
-- clients have gone as the model of a daemon's end says, where links tell what they gave and took; and whatever links tell, each client has its
-- Close, for a cause that its link's counts and the end of its link show.
pub record StopsIn {L : Type 0} (told : L → LinkTold) (run : Run) (d : DaemonState L) (core : Core) (account : AccountState) (links : Links L) (folder folder_now : FolderTold) : Type 0 where
  pub took : ℕ → List ℕ
  pub after : IsAfter run account.events took core
  pub formed : IsWellFormed run.setting (source_of run) account.events
  pub none_open : (client : ℕ) → IsOpen client account.events → ⊥
  pub posted : (app : ℕ) → HasInjected run.setting [] account.events app (desk_told d.first_desk) (account_told account)
  pub ends : TellStreams run account.events (length links.links) account.outcome.links
  pub trace : account.outcome.trace ≡ trace_told core.trace
  pub holds : HoldsTrace run d.journal.events d.core folder → HoldsTrace run account.events core folder_now
  pub gone : TellBytes told → HaveGone run account.events (map told links.links) account.outcome.links
  pub ended : HaveEnded (TellTheEnd told) run.setting account.events (map told links.links) account.outcome.links

-- What a stop leaves: the journal is longer by calls, claims, losses, requests, levels and Closes alone; more was taken, and the journal tells just
-- what was taken, reported and set; as many links come back as there were, and so many are told as dropped; and in each run that the account may be
-- of, it is as said above. No file of others changed in the folder, and the trace that is told of stayed in its directory, where one was kept; the
-- folder's faults and its stored configuration are later by these events.
pub record IsStopped {L : Type 0} (told : L → LinkTold) (d : DaemonState L) (account : AccountState) (links : Links L) (folder folder_now : FolderTold) : Type 0 where
  pub more : List Event
  pub events : account.events ≡ d.journal.events ++ more
  pub of_stop : AllByRecursion IsOfStop more
  pub apps : account.apps ≡ d.desk.apps
  pub taken : (app : ℕ) → (items : List RingItem) × (taken_of account.handles app ≡ taken_of d.desk.handles app ++ items)
  pub told_by : IsToldBy account.events (length account.apps) account.handles
  pub many : length links.links ≡ length d.links.links
  pub dropped : account.outcome.dropped ≡ d.dropped
  pub last_core : Core
  pub runs : (run : Run) → Gives run d.first_core account.apps account.handles → StopsIn told run d last_core account links folder folder_now
  pub leaves : Leaves d.core last_core folder folder_now
  pub trace : account.outcome.trace ≡ trace_told last_core.trace
  pub folder_later : (run : Run) → Gives run d.first_core account.apps account.handles
      → IsFolderLater run.setting d.journal.events more (end_of d.core.trace) account.outcome.trace.end folder folder_now

-- what a stop asks of a daemon, where so many Log and Lost events and so many Claim events may still be noted
pub record MayStop {L : Type 0} (d : DaemonState L) (closing : ClosingState) (events claims : ℕ) : Type 0 where
  pub apps : length closing.apps ≤ 16
  pub clients : d.core.hub.limit ≤ client_limit
  pub enough : all_to_note closing ≤ events
  pub enough_claims : all_claims_left closing ≤ claims
  pub may : MayNote events claims (length closing.apps) d.core.hub d.journal.spare
  pub linked : AreLinked d.links d.core d.journal.spare
  pub heard : AreHeard d.seated d.core (closing_told closing)

-- A daemon stopped: its account is settled, with these books by their writers' numbers, and all is as said above.
pub record Stops {L : Type 0} (told : L → LinkTold) (d : DaemonState L) (books : List BookState) (account : AccountState) (links : Links L) (folder folder_now : FolderTold) : Type 0 where
  pub settled : IsSettled account
  pub books_are : AreInOrder books account.books
  pub closing : ClosingState
  pub made : IsMadeOf d.desk books closing
  pub settles : Settles told d.dropped (stopping_of d closing) account links folder folder_now
  pub stopped : IsStopped told d account links folder folder_now
