-- The boxes in which items lie.
use Rattle.std.specs.Prelude.{List, map}
use Rattle.std.specs.declared.boxed.Box.{Box}
use Rattle.dl_ring.specs.declared.item.RingItem.{RingItem}
use Rattle.dl_ring.specs.declared.view.View.{View}
use Rattle.dl_ring.specs.Rule.{Keeps}

-- what lies in boxes
abbrev pub values : {X Z : Type 0} → List (Box X Z) → List X
values boxes = map (λ b. b.value) boxes

-- the rule of a ring, of what lies in its boxes
abbrev pub KeepsBoxed : {Z : Type 0} → List (Box RingItem Z) → List View → Type 0
KeepsBoxed boxes views = Keeps (values boxes) views
