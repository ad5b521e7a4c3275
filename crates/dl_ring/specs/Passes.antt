-- What the two kinds of passes of a ring keep beside the rule.
use Rattle.std.specs.Prelude.{◌≡◌, ℕ, ◌<◌, true, false, List, [], length, Option, Some, None, slice_index_or}
use Rattle.std.specs.Arc.{arc_value}
use Rattle.std.specs.declared.sync.Arc.{Arc}
use Rattle.dl_cells.specs.Views.{times}
use Rattle.dl_ring.specs.declared.view.View.{View}

-- a pass that pushes takes nothing, and has taken no other pass in
pub record IsPusher (v : View) : Type 0 where
  pub pushes : v.pushes ≡ true
  pub takes : v.takes ≡ false
  pub joined : v.joined ≡ []

-- the pass that takes pushes nothing
pub record IsTaker (v : View) : Type 0 where
  pub takes : v.takes ≡ true
  pub pushes : v.pushes ≡ false

module _ {X Z : Type 0} where
  -- there is an owner of this
  abbrev pub Owns : X → Option (Arc X Z) → Type 0
  Owns ring place = (owner : Arc X Z) × (place ≡ Some owner) × (arc_value owner ≡ ring)

  -- the first pass has an owner of the ring for each number that it has not given
  pub record HasOwners (ring : X) (given : List ℕ) (owners : List (Option (Arc X Z))) : Type 0 where
    pub len : length owners ≡ 256
    pub each : (n : ℕ) → n < 256 → times n given ≡ 0 → Owns ring (slice_index_or owners n None)
