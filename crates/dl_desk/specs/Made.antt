-- How a writer is made with a desk, and how it belongs to that desk ever after.
use Rattle.std.specs.Prelude.{◌≡◌, ℕ, ◌-◌, ◌≤◌, ◌==◌, false, List, [], ◌∷◌, ◌++◌, length, map, Option, Some, None, slice_get, if◌then◌else◌}
use Rattle.dl_bytes.specs.declared.conf.AppSpec.{AppSpec}
use Rattle.dl_writer.specs.State.{WriterState}
use Rattle.dl_desk.specs.declared.fault.WriterFault.{WriterFault}
use Rattle.dl_desk.specs.declared.fault.WriterFault.TheVariants.{WritersFull}
use Rattle.dl_desk.specs.Apps.{AppState}
use Rattle.dl_desk.specs.Lists.{At}
use Rattle.dl_desk.specs.State.{DeskState}

-- ---- what a desk may be made of

-- at most 16 applications, whose rings hold 1 to 4096 calls and claims, with descriptions of at most 255 bytes
pub record AreFit (specs : List AppSpec) : Type 0 where
  pub few : length specs ≤ 16
  pub each : (app : ℕ) → At specs app (λ spec. (1 ≤ spec.capacity) × (spec.capacity ≤ 4096) × (length spec.text ≤ 255))

-- ---- a desk that was just made

-- nothing was taken, reported, set or injected, and no writer was made
pub record IsNew (desk : DeskState) (specs : List AppSpec) : Type 0 where
  pub apps : desk.apps ≡ specs
  pub rings : map (λ e. e.ring.taken) desk.handles.apps ≡ map (λ _. []) specs
  pub empties : map (λ e. e.ring.empties) desk.handles.apps ≡ map (λ _. 0) specs
  pub capacities : map (λ e. e.ring.capacity) desk.handles.apps ≡ map (λ s. s.capacity) specs
  pub injected : map (λ e. e.queue.pushed) desk.handles.apps ≡ map (λ _. []) specs
  pub refused : map (λ e. e.queue.refusals) desk.handles.apps ≡ map (λ _. 0) specs
  pub sets : desk.handles.levels.sets ≡ []
  pub first : desk.handles.levels.first ≡ 0
  pub reported : desk.handles.losses.reported ≡ []
  pub owners : desk.owners ≡ []

-- ---- a writer

-- the application is the desk's one of its number
pub record IsAppOf (desk : DeskState) (app : AppState) : Type 0 where
  pub spec : AppSpec
  pub place : slice_get desk.apps app.number ≡ Some spec
  pub apid : app.apid ≡ spec.apid

-- 32 writers at most
abbrev pub writer_fault : DeskState → Option WriterFault
writer_fault desk = if length desk.owners == 32 then Some WritersFull else None

-- the writer has made no call, no look and no take, and claimed no context
pub record IsUnused (w : WriterState) : Type 0 where
  pub calls : w.calls ≡ 0
  pub pushed : w.push.pushed ≡ []
  pub refusals : w.push.refusals ≡ 0
  pub reads : w.reader.reads ≡ []
  pub counted : w.losses.counted ≡ []
  pub taken : w.injections.taken ≡ []
  pub empties : w.injections.empties ≡ 0
  pub waiting : w.waiting ≡ []
  pub registers : w.registers ≡ 0
  pub table_full : w.table_full ≡ 0
  pub given : w.reader.given ≡ []
  pub refused : w.reader.refused ≡ []

-- The desk's application of this number is the writer's, of the same id, and the writer's handles are of the rings, queues
-- and words of the desk. They are no first handles.
pub record IsMadeWith (desk : DeskState) (w : WriterState) : Type 0 where
  pub from_one : 1 ≤ w.push.number
  pub owner : slice_get desk.owners (w.push.number - 1) ≡ Some w.app
  pub apid : slice_get (map (λ s. s.apid) desk.apps) w.app ≡ Some w.apid
  pub ring : slice_get (map (λ e. e.ring.ring) desk.handles.apps) w.app ≡ Some w.push.ring
  pub queue : slice_get (map (λ e. e.queue.queue) desk.handles.apps) w.app ≡ Some w.injections.queue
  pub capacity : slice_get (map (λ s. s.capacity) desk.apps) w.app ≡ Some w.push.capacity
  pub levels : w.reader.table ≡ desk.handles.levels.table
  pub claims : w.reader.claims ≡ desk.handles.levels.claims
  pub losses : w.losses.table ≡ desk.handles.losses.table
  pub split : (w.push.first ≡ false) × (w.injections.first ≡ false) × (w.losses.splits_left ≡ 0) × (w.reader.splits_left ≡ 0)

-- ---- a desk later

-- the desk has the same applications, rings, queues and words, and the writers that it had and some more
pub record IsLater (old new : DeskState) : Type 0 where
  pub apps : new.apps ≡ old.apps
  pub rings : map (λ e. e.ring.ring) new.handles.apps ≡ map (λ e. e.ring.ring) old.handles.apps
  pub queues : map (λ e. e.queue.queue) new.handles.apps ≡ map (λ e. e.queue.queue) old.handles.apps
  pub levels : new.handles.levels.table ≡ old.handles.levels.table
  pub claims : new.handles.levels.claims ≡ old.handles.levels.claims
  pub losses : new.handles.losses.table ≡ old.handles.losses.table
  pub more : List ℕ
  pub owners : new.owners ≡ old.owners ++ more

-- one writer more, of this application: nothing else that the daemon does or did is another
pub record MakesWriter (app : ℕ) (old new : DeskState) : Type 0 where
  pub apps : new.apps ≡ old.apps
  pub handles : new.handles ≡ old.handles
  pub owners : new.owners ≡ old.owners ++ app ∷ []
