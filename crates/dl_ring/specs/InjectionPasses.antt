-- What the passes of a queue of injections keep beside the rule.
use Rattle.std.specs.Prelude.{◌≡◌, ℕ, ◌+◌, true, false, List, [], length}
use Rattle.std.specs.List.{All}
use Rattle.std.specs.Arc.{arc_value}
use Rattle.std.specs.declared.sync.Arc.{Arc}
use Rattle.dl_ring.specs.declared.injection_view.View.{View}

-- the pass that pushes takes nothing
pub record IsPusher (v : View) (count : ℕ) : Type 0 where
  pub pushes : v.pushes ≡ true
  pub takes : v.takes ≡ false
  pub counts : count ≡ length v.pushed

-- a pass that takes pushes nothing, and has taken no other pass in
pub record IsTaker (v : View) : Type 0 where
  pub takes : v.takes ≡ true
  pub pushes : v.pushes ≡ false
  pub joined : v.joined ≡ []

-- the first pass that takes has an owner of the queue for each pass that it may still make, of 32
pub record HasOwners {X Z : Type 0} (queue : X) (splits : ℕ) (owners : List (Arc X Z)) : Type 0 where
  pub count : splits + length owners ≡ 32
  pub each : All (λ owner. arc_value owner ≡ queue) owners
