-- What contracts see of what sets levels for the channels.
use Rattle.std.specs.Prelude.{◌≡◌, ◌==◌, ◌<◌, ◌-◌, ◌^◌, ◌+◌, ℕ, min, List, [], ◌∷◌, ◌++◌, replicate, slice_index, Option, if◌then◌else◌}
use Rattle.dl_bytes.specs.Limits.{app_limit, injection_limit}
use Rattle.dl_bytes.specs.declared.item.Injection.{Injection}
use Rattle.dl_channel.specs.State.{Outbox}
use Rattle.dl_desk.specs.Told.{ControlTold}
use Rattle.dl_cells.specs.LevelHistory.{current_version}
use Rattle.dl_cells.specs.declared.level_history.Change.{Change}
use Rattle.dl_socket.specs.declared.ways.Way.{Way}
use Rattle.dl_socket.specs.Ways.{AreInSlots, sent_each}

-- what waits for the channels, the ways of the slots, the levels that were set, and the applications whose injections were refused, the last first
pub record Messenger : Type 0 where
  pub outboxes : List (ℕ × Outbox)
  pub ways : List (Option Way)
  pub sets : List Change
  pub refused : List ℕ

-- ---- as what sets levels and injects

-- No program outside takes an injection: its queue is as one that is full. These fill it.
abbrev pub no_injection : Injection
no_injection = record { place = 0; service = 0; body = record { bytes = []; args = 0 } }

abbrev pub full_queue : List Injection
full_queue = replicate injection_limit no_injection

-- how many injections of an application were refused
abbrev pub refusals_in : List ℕ → ℕ → ℕ
refusals_in [] other = 0
refusals_in (app ∷ refused) other = if other == app then refusals_in refused other + 1 else refusals_in refused other

-- it tells of all applications that there can be
abbrev pub told_by : Messenger → ControlTold
told_by messenger = record {
  apps = app_limit;
  first = 0;
  sets = messenger.sets;
  pushed = λ app. full_queue;
  refusals = refusals_in messenger.refused;
}

-- So many levels more were set, and each went its way. The ways stand.
pub record HasSent (old new : Messenger) : Type 0 where
  pub changes : List Change
  pub sets : new.sets ≡ old.sets ++ changes
  pub slots : AreInSlots changes
  pub ways : new.ways ≡ old.ways
  pub outboxes : new.outboxes ≡ sent_each old.ways changes old.outboxes

-- ---- inside

-- the count of each slot is how many levels were set in it, as far as a count goes
abbrev pub AreCounted : List Change → List ℕ → Type 0
AreCounted sets versions = (slot : ℕ) → slot < 1024 → slice_index versions slot ≡ min (current_version 0 slot sets) (2 ^ 64 - 1)
