-- What each event of a client's turn does to the daemon's side.
use Rattle.std.specs.Prelude.{◌≡◌, ℕ, ◌+◌, ◌*◌, ◌<◌, ◌≤◌, Bool, true, false, List, [], ◌∷◌, length, Some, None, IsSome, IsSomeAnd}
use Rattle.std.specs.List.{AllByRecursion}
use Rattle.dl_bytes.specs.Limits.{request_limit}
use Rattle.dl_bytes.specs.declared.outcome.Done.{Done}
use Rattle.dl_events.specs.declared.event.Event.TheVariants as event
use Rattle.dl_events.specs.declared.event.Why.{Why}
use Rattle.dl_cells.specs.LevelHistory.{current_version}
use Rattle.dl_model.specs.Backlog.{outbox_limit}
use Rattle.dl_model.specs.Registry.{numbers}
use Rattle.dl_model.specs.declared.registry.LevelChange.{LevelChange}
use Rattle.dl_desk.specs.Told.{ControlTold, with_pushed, with_refused, with_set}
use Rattle.dl_registry.specs.Kept.{Kept, owed_change, slots, with_change}
use Rattle.dl_services.specs.declared.wish.Want.{Want}
use Rattle.dl_services.specs.declared.wish.Want.TheVariants as want
use Rattle.dl_hub.specs.State.{changed, client_of, outbox_of, shut, HasRoom, MayAsk}
use Rattle.dl_core.specs.Admission.{AddsEach}
use Rattle.dl_core.specs.Closing.{MayEnd}
use Rattle.dl_core.specs.Follows.{AddsAlone}
use Rattle.dl_core.specs.Serving.{IsReady, Ready, Serves, reply_now, served_now}
use Rattle.dl_core.specs.State.{Core}
use Rattle.dl_core.specs.Waiting.{waiting}
use Rattle.dl_turns.specs.State.{Side}

-- ---- the desk and the registry

-- The desk has each application of the registry, by its number, and the level word of each slot has the version that the slot has in
-- the registry.
pub record IsDeskOf (kept : Kept) (desk : ControlTold) : Type 0 where
  pub numbered : AllByRecursion (λ number. number < desk.apps) (numbers kept.registry.apps)
  pub versions : (slot : ℕ) → slot < 64 * desk.apps → (slots kept slot).version ≡ current_version desk.first slot desk.sets

-- ---- a request

-- The injection that a request wants was put into the queue of its application; or that queue refused it, which it does only where it
-- took 16 before.
abbrev pub Posts : Want → Bool → ControlTold → ControlTold → Type 0
Posts (want.Inject app injection) true old new = new ≡ with_pushed app injection old
Posts (want.Inject app injection) false old new = (new ≡ with_refused app old) × (16 ≤ length (old.pushed app))
Posts other pushed old new = new ≡ old

-- so many requests of a client were served, and no more than one may have
abbrev pub HasServed : ℕ → ℕ → Core → Type 0
HasServed client served core = IsSomeAnd (client_of core.hub client) (λ c. (c.replies ≡ served) × (served ≤ request_limit))

-- Between two steps of a turn the client is open, so many of its requests were served, no Level event is owed, and the desk is that of
-- the registry.
pub record IsServing (client served : ℕ) (core : Core) (desk : ControlTold) : Type 0 where
  pub open_so : IsSome (outbox_of core.hub client)
  pub served_so : HasServed client served core
  pub settled_so : owed_change core.registry ≡ None
  pub desk_so : IsDeskOf core.registry desk

-- A request of a client was got ready, and there is room for its reply. The journal has room for it and for the Level events that it owes,
-- beside what it had room for.
pub record IsFor (client : ℕ) (frame : List ℕ) (core : Core) (spare spare_now : ℕ) (ready : Ready) : Type 0 where
  pub few : MayAsk core.hub client
  pub room : (answer : Done) → HasRoom (length (reply_now core frame answer)) core.hub client
  pub of_client : ready.client ≡ client
  pub of_frame : ready.frame ≡ frame
  pub is_ready : IsReady core ready
  pub reserved : (answer : Done) → spare + 1 + waiting (served_now core frame answer) ≤ spare_now

-- A request of a client was served: its injection was posted before, its Request event is noted, and its reply is in the client's
-- stream, for which there was room.
pub record Asks (client : ℕ) (frame : List ℕ) (old new : Side) : Type 0 where
  pub few : MayAsk old.core.hub client
  pub room : (answer : Done) → HasRoom (length (reply_now old.core frame answer)) old.core.hub client
  pub settled : owed_change old.core.registry ≡ None
  pub ready : Ready
  pub of_client : ready.client ≡ client
  pub of_frame : ready.frame ≡ frame
  pub is_ready : IsReady old.core ready
  pub pushed : Bool
  pub posts : Posts ready.want pushed old.desk new.desk
  pub serves : Serves ready pushed old.core new.core old.folder new.folder old.events new.events
  pub rest : new.core ≡ record old.core { registry = new.core.registry; hub = new.core.hub }

-- ---- Level events

-- the next Level event that is owed was noted, and the level word of its slot was set
pub record SetsLevel (next : LevelChange) (old new : Side) : Type 0 where
  pub owed : owed_change old.core.registry ≡ Some next
  pub core : new.core ≡ record old.core { registry = with_change old.core.registry (Some next) }
  pub after : AddsAlone (event.Level next.slot next.level ∷ []) old.core new.core
  pub events : AddsEach old.events new.events (event.Level next.slot next.level ∷ [])
  pub desk : new.desk ≡ with_set next.slot next.level old.desk
  pub folder : new.folder ≡ old.folder

-- all Level events that are owed were noted, one after the other
abbrev pub SetsLevels : List LevelChange → Side → Side → Type 0
SetsLevels [] old new = (new ≡ old) × (owed_change old.core.registry ≡ None)
SetsLevels (next ∷ others) old new = (between : Side) × SetsLevel next old between × SetsLevels others between new

abbrev pub HaveSetLevels : Side → Side → Type 0
HaveSetLevels old new = (changes : List LevelChange) × SetsLevels changes old new

-- a request of a client was served, and the Level events that it owes were noted behind it
abbrev pub ServesOne : ℕ → List ℕ → Side → Side → Type 0
ServesOne client frame old new = (between : Side) × Asks client frame old between × HaveSetLevels between new

-- ---- a Close

-- a client was closed for this cause: its Close event is noted, and what its link has not taken is dropped. Its outbox had the room that
-- each has.
pub record Closes (client : ℕ) (why : Why) (old new : Side) : Type 0 where
  pub may : MayEnd old.core.hub client why
  pub limit : IsSomeAnd (outbox_of old.core.hub client) (λ outbox. outbox.capacity ≡ outbox_limit old.core.hub.buffer)
  pub settled : owed_change old.core.registry ≡ None
  pub core : new.core ≡ record old.core { hub = changed client shut old.core.hub }
  pub after : AddsAlone (event.Close client why ∷ []) old.core new.core
  pub events : AddsEach old.events new.events (event.Close client why ∷ [])
  pub desk : new.desk ≡ old.desk
  pub folder : new.folder ≡ old.folder
