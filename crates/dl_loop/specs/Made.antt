-- A daemon that was just made.
use Rattle.std.specs.Prelude.{◌≡◌, ℕ, ◌+◌, ◌≤◌, false, List, [], length, replicate, Option}
use Rattle.dl_bytes.specs.declared.conf.Conf.{Conf}
use Rattle.dl_bytes.specs.declared.conf.Stored.{Stored}
use Rattle.dl_trace.specs.State.{Trace}
use Rattle.dl_desk.specs.QueuedInjections.{pushed_of, refusals_of}
use Rattle.dl_desk.specs.State.{DeskState}
use Rattle.dl_account.specs.Known.{taken_of}
use Rattle.dl_core.specs.Settings.{begun}
use Rattle.dl_core.specs.State.{Core}
use Rattle.dl_rounds.specs.Ready.{fresh_listener}
use Rattle.dl_rounds.specs.declared.listener.Listener.{Listener}
use Rattle.dl_loop.specs.Limits.{more_events}
use Rattle.dl_loop.specs.State.{DaemonState}

-- the core has noted nothing, and each slot begins at version 0
unfoldable pub IsBegun : Core → Type 0
IsBegun core = (conf : Conf) × (stored : Stored) × (trace : Option Trace) × (core ≡ begun conf stored 0 trace)

-- No call of the desk has taken calls, claims or losses, set a level or injected anything; it has at most 16 applications.
pub record IsUntouched (desk : DeskState) : Type 0 where
  pub few : length desk.apps ≤ 16
  pub taken : (app : ℕ) → taken_of desk.handles app ≡ []
  pub reported : desk.handles.losses.reported ≡ []
  pub sets : desk.handles.levels.sets ≡ []
  pub first : desk.handles.levels.first ≡ 0
  pub pushed : (app : ℕ) → pushed_of desk.handles app ≡ []
  pub refusals : (app : ℕ) → refusals_of desk.handles app ≡ 0

-- the listeners of all clients that may come, which sent nothing yet
unfoldable pub fresh_listeners : List Listener
fresh_listeners = replicate 32 fresh_listener

-- Core and desk are as they were handed in, nobody came, there is room for all clients that may come, and the journal has room for so many Log and
-- Lost events, for as many Claim events as may be with a Level event of each, and for a Connect and a Close of each client.
pub record IsMade {L : Type 0} (d : DaemonState L) : Type 0 where
  pub begins : IsBegun d.core
  pub untouched : IsUntouched d.desk
  pub events : d.journal.events ≡ []
  pub links : d.links ≡ record { links = []; room = 32 }
  pub listeners : d.seated.listeners ≡ fresh_listeners
  pub room : d.calls + more_events ≤ d.journal.spare
  pub noted : d.noted ≡ 0
  pub claimed : d.claimed ≡ 0
  pub dropped : d.dropped ≡ 0
  pub failed : d.failed ≡ false
  pub wanted : d.wanted ≡ false
  pub greeted : d.greeted ≡ false
  pub first_core : d.first_core ≡ d.core
  pub first_desk : d.first_desk ≡ d.desk
