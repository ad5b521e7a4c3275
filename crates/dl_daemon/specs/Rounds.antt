-- Rounds of a daemon, one after the other, for as long as it goes on.
use Rattle.std.specs.Prelude.{◌≡◌, ◌<◌, ◌≤◌, ◌+◌, ℕ, zero, suc, false, List, Option, Some, None}
use Rattle.dl_bytes.specs.Limits.{admitted_limit}
use Rattle.dl_bytes.specs.declared.conf.Conf.{Conf}
use Rattle.dl_bytes.specs.declared.moment.Moment.{Moment}
use Rattle.dl_core.specs.State.{Core}
use Rattle.dl_events.specs.declared.event.Event.{Event}
use Rattle.dl_outside.specs.Told.{FolderTold, LinkTold, NetTold}
use Rattle.dl_serve.specs.Rounds.{IsSeen}
use Rattle.dl_server.specs.Round.{IsRound}
use Rattle.dl_server.specs.State.{State, seen}
use Rattle.dl_server.specs.declared.server.Server.{Server}
use Rattle.dl_events.specs.Told.{Told}
use Rattle.dl_daemon.specs.declared.renewing.Tries.{Tries}
use Rattle.dl_daemon.specs.declared.rounds.Stop.{Stop}
use Rattle.dl_daemon.specs.declared.rounds.Stop.TheVariants.{Asked, Spent}
use Rattle.dl_daemon.specs.Renewing.{Renewed, Renews, last_anew}
use Rattle.dl_daemon.specs.declared.watch.Watched.{Watched}
use Rattle.dl_daemon.specs.Watching.{ended_for, let_begin}

-- all events that were noted, which a journal tells that keeps none
abbrev pub noted : Told → Option (List Event)
noted journal = Some journal.events

-- a channel's turn admits at most so many frames
abbrev pub turn_frames : ℕ
turn_frames = 4096

-- so many more may be admitted
abbrev pub HasRoom : Core → Type 0
HasRoom core = core.hub.admitted + turn_frames ≤ admitted_limit

-- nets that failed are asked again: a failed accept ends nothing
abbrev pub asked_again : State → State
asked_again s = record s { no_clients = false; no_programs = false }

-- the core and what the folder tells are these
abbrev pub with_trace : State → Core → FolderTold → State
with_trace s core folder = record s { core = core; folder = folder }

-- One round of a server, which began with room. Before it a trace that had ended was tried to be begun anew, where that was due, and both nets are asked
-- again. Where a trace was begun, what the folder told and what was noted until then is kept.
pub record IsRenewedRound {L : Type 0} (told : L → LinkTold) (conf : Conf) (kept kept_now : Renewed) (net net_now users users_now : NetTold L) (old new : State) : Type 0 where
  pub room : HasRoom old.core
  pub moment : Moment
  pub begun : Option ℕ
  pub core : Core
  pub folder : FolderTold
  pub renews : Renews conf old.core.ecu moment begun kept.tries kept_now.tries old.core.trace core.trace old.folder folder
  pub rest : core ≡ record old.core { trace = core.trace }
  pub anew : kept_now.anew ≡ last_anew begun moment old.folder old.events kept.anew
  pub seen_so : IsSeen told noted false (with_trace old core folder)
  pub round : IsRound told net net_now users users_now (asked_again (with_trace old core folder)) new

-- so many of them
abbrev pub AreRounds : {L : Type 0} → (L → LinkTold) → Conf → ℕ → Renewed → Renewed → NetTold L → NetTold L → NetTold L → NetTold L → State → State → Type 0
AreRounds told conf zero kept kept_now net net_now users users_now old new = (kept_now ≡ kept) × (net_now ≡ net) × (users_now ≡ users) × (new ≡ old)
AreRounds {L} told conf (suc many) kept kept_now net net_now users users_now old new =
    (kept_then : Renewed) × (net_then : NetTold L) × (users_then : NetTold L) × (between : State)
    × AreRounds told conf many kept kept_then net net_then users users_then old between
    × IsRenewedRound told conf kept_then kept_now net_then net_now users_then users_now between new

-- why the rounds end: a channel's turn might admit more frames than may be; or the watch ended them, and none might
abbrev pub StopsFor : Stop → Core → Type 0
StopsFor Spent core = admitted_limit < core.hub.admitted + turn_frames
StopsFor Asked core = HasRoom core

-- Rounds were made until there was a cause to end them: as many as the watch let begin. A trace has this configuration, and these tries to begin one anew were
-- made before the first round.
pub record HasGoneRound {L : Type 0} (told : L → LinkTold) (conf : Conf) (tries : Tries) (why : Stop) (net net_now users users_now : NetTold L) (watch watch_now : Watched) (old new : State) : Type 0 where
  pub many : ℕ
  pub kept : Renewed
  pub rounds : AreRounds told conf many (record { tries = tries; anew = None }) kept net net_now users users_now old new
  pub stops : StopsFor why new.core
  pub watched : watch_now ≡ ended_for why (let_begin many watch)

-- ---- for inner functions

-- the same of a server, and of what its folder tells
abbrev pub HasMadeRounds : {L : Type 0} → (L → LinkTold) → Conf → Tries → Stop → NetTold L → NetTold L → NetTold L → NetTold L → FolderTold → FolderTold → Watched → Watched
    → Server Told L → Server Told L → Type 0
HasMadeRounds told conf tries why net net_now users users_now folder folder_now watch watch_now old new =
    HasGoneRound told conf tries why net net_now users users_now watch watch_now (seen told noted false folder old) (seen told noted false folder_now new)

-- nets are asked again, of the daemon itself
abbrev pub opened_again : {L : Type 0} → Server Told L → Server Told L
opened_again s = record s { no_clients = false; no_programs = false }
