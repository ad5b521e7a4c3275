-- Rounds of a server, one after the other.
use Rattle.std.specs.Prelude.{◌≡◌, ◌<◌, ◌≤◌, ℕ, zero, suc, Bool, true, false, List, length, Option, Some, IsSomeAnd}
use Rattle.dl_events.specs.Journal.{Journaled}
use Rattle.dl_events.specs.declared.event.Event.{Event}
use Rattle.dl_outside.specs.Told.{FolderTold, LinkTold, NetTold}
use Rattle.dl_server.specs.Round.{IsRound}
use Rattle.dl_server.specs.Server.{IsServer}
use Rattle.dl_server.specs.State.{State, seen}
use Rattle.dl_server.specs.declared.server.Server.{Server}

-- a journal that keeps its events
abbrev pub kept : Journaled → Option (List Event)
kept journal = Some journal.events

-- so many events are too many at the begin of a round
abbrev pub event_limit : ℕ
event_limit = 1000000

-- a journal that keeps its events has fewer, or as many
abbrev pub HasRoom : Option (List Event) → Type 0
HasRoom events = IsSomeAnd events (λ all. length all < event_limit)

abbrev pub IsFull : Option (List Event) → Type 0
IsFull events = IsSomeAnd events (λ all. event_limit ≤ length all)

-- it is what is seen of a server, where these are the words for what links and the journal tell, and for whether the journal may want memory
pub record IsSeen {J L : Type 0} (told : L → LinkTold) (events : J → Option (List Event)) (may_run_out : Bool) (s : State) : Type 0 where
  pub server : Server J L
  pub folder : FolderTold
  pub is_server : IsServer told server
  pub is : s ≡ seen told events may_run_out folder server

-- so many rounds of a server, none of which began with a full journal
abbrev pub AreRounds : {L : Type 0} → (L → LinkTold) → ℕ → NetTold L → NetTold L → NetTold L → NetTold L → State → State → Type 0
AreRounds told zero net net_now users users_now old new = (net_now ≡ net) × (users_now ≡ users) × (new ≡ old)
AreRounds {L} told (suc many) net net_now users users_now old new =
    (net_then : NetTold L) × (users_then : NetTold L) × (between : State) × AreRounds told many net net_then users users_then old between
    × HasRoom between.events × IsRound told net_then net_now users_then users_now between new × IsSeen told kept true between

-- Of so many rounds that were asked for all were made; or the journal was full at the begin of the next one.
pub record HasMadeRounds {L : Type 0} (told : L → LinkTold) (asked : ℕ) (full : Bool) (net net_now users users_now : NetTold L) (old new : State) : Type 0 where
  pub many : ℕ
  pub rounds : AreRounds told many net net_now users users_now old new
  pub all : full ≡ false → many ≡ asked
  pub fewer : full ≡ true → (many < asked) × IsFull new.events
