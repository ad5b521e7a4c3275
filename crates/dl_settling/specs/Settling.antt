-- What a stop does.
use Rattle.std.specs.Prelude.{◌≡◌, ℕ, map, None}
use Rattle.dl_outside.specs.Links.{Links}
use Rattle.dl_outside.specs.Told.{FolderTold, LinkTold}
use Rattle.dl_desk.specs.QueuedInjections.{rest_of}
use Rattle.dl_account.specs.Known.{IsDrained}
use Rattle.dl_account.specs.Settled.{account_of}
use Rattle.dl_account.specs.State.{AccountState, ClosingState}
use Rattle.dl_hub.specs.State.{outbox_of}
use Rattle.dl_taking.specs.Draining.{DrainsAll, SameButTaken, closing_told}
use Rattle.dl_turns.specs.Gone.{TellTheEnd}
use Rattle.dl_rounds.specs.Partings.{ShutsGone}
use Rattle.dl_rounds.specs.Ready.{AreHeard, AreLinked}
use Rattle.dl_rounds.specs.Visits.{ClosesAll}
use Rattle.dl_settling.specs.Ends.{ends_of}
use Rattle.dl_settling.specs.State.{Stopping, clients_of, taking_of}

-- nothing has changed but levels and injections
abbrev pub SameButSet : ClosingState → ClosingState → Type 0
SameButSet old new = record new { handles = rest_of new.handles } ≡ record old { handles = rest_of old.handles }

-- All that was left of each application was taken, admitted and told, application by application; then nothing is left. Nothing has changed of
-- what stands for the desk but what was taken, and the levels that claims set. The links and the listeners of the clients stand.
pub record Drains {L : Type 0} (old new : Stopping L) (folder folder_now : FolderTold) : Type 0 where
  pub drains : DrainsAll old.closing.apps (taking_of old folder) (taking_of new folder_now)
  pub drained : IsDrained new.closing
  pub same : SameButTaken old.closing new.closing
  pub links : new.links ≡ old.links
  pub seated : new.seated ≡ old.seated

-- Each open client had its closing turns and its Close, in the order of their numbers; then none is open. Each has a link and a listener.
pub record Closes {L : Type 0} (told : L → LinkTold) (old new : Stopping L) (folder folder_now : FolderTold) : Type 0 where
  pub closes : ClosesAll (TellTheEnd told) (clients_of told old folder) (clients_of told new folder_now)
  pub none_open : (number : ℕ) → outbox_of new.core.hub number ≡ None
  pub same : SameButSet old.closing new.closing
  pub linked : AreLinked new.links new.core new.journal.spare
  pub heard : AreHeard new.seated new.core (closing_told new.closing)

-- A stop: all that was left is taken, then each client is closed, and the account is made of what stands then. The links come back, shut.
pub record Settles {L : Type 0} (told : L → LinkTold) (dropped : ℕ) (old : Stopping L) (account : AccountState) (links : Links L) (folder folder_now : FolderTold) : Type 0 where
  pub drained : Stopping L
  pub between : FolderTold
  pub drains : Drains old drained folder between
  pub closed : Stopping L
  pub closes : Closes told drained closed between folder_now
  pub account_is : account ≡ account_of closed.closing closed.journal.events (ends_of closed.core dropped)
  pub shuts : ShutsGone closed.core.hub (map told closed.links.links) (map told links.links)
