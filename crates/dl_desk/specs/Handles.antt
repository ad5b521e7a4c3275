-- What contracts see of the daemon's handles of what it shares with all writers, and what each kind of step leaves of it.
use Rattle.std.specs.Prelude.{ℕ, ◌+◌, List, [], ◌∷◌, ◌++◌}
use Rattle.dl_bytes.specs.declared.item.Injection.{Injection}
use Rattle.dl_ring.specs.InjectionState as injections
use Rattle.dl_ring.specs.InjectionOrder as queue
use Rattle.dl_cells.specs.LevelStates as levels
use Rattle.dl_cells.specs.LossStates as losses
use Rattle.dl_cells.specs.Losses.{report}
use Rattle.dl_cells.specs.LevelHistory.{change}
use Rattle.dl_ring.specs.declared.item.RingItem.{RingItem}
use Rattle.dl_ring.specs.Order.{Holds}
use Rattle.dl_ring.specs.State as ring
use Rattle.dl_desk.specs.declared.app_handles.AppHandles.{AppHandles}
use Rattle.dl_desk.specs.Lists.{At, changed_at}

-- the handles of each application's ring and queue of injections, and those of the level words and the loss words
pub record HandlesState : Type 0 where
  pub apps : List AppHandles
  pub levels : levels.KeeperState
  pub losses : losses.KeeperState

-- a call or a claim was taken from the ring of an application
abbrev pub with_item : HandlesState → ℕ → RingItem → HandlesState
with_item s app item = record s { apps = changed_at app (λ e. record e { ring = record e.ring { taken = e.ring.taken ++ item ∷ [] } }) s.apps }

-- a take from it found none
abbrev pub with_empty_take : HandlesState → ℕ → HandlesState
with_empty_take s app = record s { apps = changed_at app (λ e. record e { ring = record e.ring { empties = e.ring.empties + 1 } }) s.apps }

-- the losses of an application were taken
abbrev pub with_report : HandlesState → ℕ → ℕ → HandlesState
with_report s app count = record s { losses = record s.losses { reported = s.losses.reported ++ report app count ∷ [] } }

-- a level was set
abbrev pub with_level : HandlesState → ℕ → ℕ → HandlesState
with_level s slot level = record s { levels = record s.levels { sets = s.levels.sets ++ change slot level ∷ [] } }

-- an injection was put into the queue of an application
abbrev pub with_injected : HandlesState → ℕ → Injection → HandlesState
with_injected s app item = record s { apps = changed_at app (λ e. record e { queue = record e.queue { pushed = e.queue.pushed ++ item ∷ [] } }) s.apps }

-- it was refused
abbrev pub with_refusal : HandlesState → ℕ → HandlesState
with_refusal s app = record s { apps = changed_at app (λ e. record e { queue = record e.queue { refusals = e.queue.refusals + 1 } }) s.apps }

-- the ring of this application holds these calls and claims
abbrev pub RingHolds : HandlesState → ℕ → List RingItem → Type 0
RingHolds s app contents = At s.apps app (λ e. Holds e.ring contents)

-- so many injections are left in this queue
abbrev pub QueueHolds : HandlesState → ℕ → ℕ → Type 0
QueueHolds s app left = At s.apps app (λ e. queue.Holds e.queue left)

-- a pass of an application's ring and one of its queue were taken back
abbrev pub joined_app : ring.PushState → injections.TakeState → AppHandles → AppHandles
joined_app push takes e = record e { ring = ring.with_pass e.ring push; queue = injections.with_pass e.queue takes }

abbrev pub with_passes : HandlesState → ℕ → ring.PushState → injections.TakeState → HandlesState
with_passes s app push takes = record s { apps = changed_at app (joined_app push takes) s.apps }

-- a reader of the levels and a counter of the losses were taken back
abbrev pub with_words : HandlesState → levels.ReaderState → losses.WriterState → HandlesState
with_words s reader counter = record s {
  levels = record s.levels {
    reads = s.levels.reads ++ reader.reads;
    given = s.levels.given ++ reader.given;
    refused = s.levels.refused ++ reader.refused;
    shares = s.levels.shares + reader.splits_left + 1;
  };
  losses = record s.losses { counted = s.losses.counted ++ counter.counted; shares = s.losses.shares + counter.splits_left + 1 };
}
