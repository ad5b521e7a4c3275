-- The fields of the daemon's side, and what is true of them.
use Rattle.std.specs.Prelude.{◌≡◌, ℕ, ◌+◌, ◌*◌, ◌<◌, ◌≤◌, ◌==◌, false, true, List, [], ◌∷◌, length, All, Some, slice_get, if◌then◌else◌}
use Rattle.dl_bytes.specs.declared.conf.AppSpec.{AppSpec}
use Rattle.dl_ring.specs.State as ring
use Rattle.dl_ring.specs.InjectionState as injections
use Rattle.dl_cells.specs.Views.{times}
use Rattle.dl_desk.specs.declared.app_handles.AppHandles.{AppHandles}
use Rattle.dl_desk.specs.declared.app_handles.FirstHandles.{FirstHandles}
use Rattle.dl_desk.specs.declared.desk.Desk.TheInside as desk
use Rattle.dl_desk.specs.HandlesInside.{words_for}
use Rattle.dl_desk.specs.State.{DeskState}

abbrev pub desk_state : desk.Inside → DeskState
desk_state d = record { apps = d.apps; handles = d.handles; firsts = d.firsts.items; readers = d.readers; counters = d.counters; owners = d.owners.items }

-- the numbers of an application's writers, where the first of these owners has the number `from`
abbrev pub numbers_of : ℕ → ℕ → List ℕ → List ℕ
numbers_of app from [] = []
numbers_of app from (owner ∷ owners) = if owner == app then from ∷ numbers_of app (from + 1) owners else numbers_of app (from + 1) owners

-- the first handles of an application have made just those of its writers, and none has been taken back
pub record AreFirst (app : ℕ) (owners : List ℕ) (spec : AppSpec) (e : AppHandles) (f : FirstHandles) : Type 0 where
  pub push : f.push ≡ record (ring.unused_push e.ring.ring spec.capacity 0 true) { given = numbers_of app 1 owners }
  pub takes : f.injections ≡ record (injections.unused_take e.queue.queue true) { splits = times app owners }
  pub ring_joined : e.ring.joined ≡ []
  pub ring_first : e.ring.first ≡ false
  pub queue_joined : e.queue.joined ≡ []
  pub queue_first : e.queue.first ≡ false

pub record IsDesk (d : DeskState) : Type 0 where
  pub few : length d.apps ≤ 16
  pub handles : length d.handles.apps ≡ length d.apps
  pub firsts : length d.firsts ≡ length d.apps
  pub each : (app : ℕ) (spec : AppSpec) (e : AppHandles) (f : FirstHandles) → slice_get d.apps app ≡ Some spec → slice_get d.handles.apps app ≡ Some e → slice_get d.firsts app ≡ Some f → AreFirst app d.owners spec e f
  pub owned : All (λ owner. owner < length d.apps) d.owners
  pub writers : length d.owners ≤ 32
  pub readers : d.readers ≡ record {
    table = d.handles.levels.table;
    slots = 64 * words_for (length d.apps);
    reads = [];
    splits_left = d.readers.splits_left;
    claims = d.handles.levels.claims;
    given = [];
    refused = [];
  }
  pub readers_left : d.readers.splits_left + length d.owners ≡ 64
  pub counters : d.counters ≡ record { table = d.handles.losses.table; apps = words_for (length d.apps); counted = []; splits_left = d.counters.splits_left }
  pub counters_left : d.counters.splits_left + length d.owners ≡ 64
  pub counted : d.handles.losses.counted ≡ []
  pub shares : d.handles.losses.shares ≡ 0
  pub claimed : (d.handles.levels.given ≡ []) × (d.handles.levels.refused ≡ []) × (d.handles.levels.shares ≡ 0)
