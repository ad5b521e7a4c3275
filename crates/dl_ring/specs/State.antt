-- What contracts see of the passes of a ring.
use Rattle.std.specs.Prelude.{ℕ, Bool, true, false, List, [], ◌∷◌, ◌++◌, if◌then◌else◌}
use Rattle.atomic_table.specs.Seated.{TableId}
use Rattle.dl_ring.specs.declared.item.RingItem.{RingItem}
use Rattle.dl_ring.specs.declared.view.Sent.{Sent}

-- A pass that pushes: which ring it is of, and how many items that holds; its number; what the ring took of it, calls and claims, in order;
-- how many of its pushes were refused; and of the first pass, which numbers it gave.
pub record PushState : Type 0 where
  pub ring : TableId
  pub capacity : ℕ
  pub number : ℕ
  pub pushed : List RingItem
  pub refusals : ℕ
  pub first : Bool
  pub given : List ℕ

-- The pass that takes: which ring it is of; what it took, in order; how many of its takes found nothing; what each
-- joined pass had pushed; and whether the first pass has joined, with the numbers that it gave.
pub record TakeState : Type 0 where
  pub ring : TableId
  pub capacity : ℕ
  pub taken : List RingItem
  pub empties : ℕ
  pub joined : List Sent
  pub first : Bool
  pub given : List ℕ

-- a pass with which nothing was pushed yet
abbrev pub unused_push : TableId → ℕ → ℕ → Bool → PushState
unused_push ring capacity number first = record { ring = ring; capacity = capacity; number = number; pushed = []; refusals = 0; first = first; given = [] }

-- the pass with which nothing was taken yet
abbrev pub unused_take : TableId → ℕ → TakeState
unused_take ring capacity = record { ring = ring; capacity = capacity; taken = []; empties = 0; joined = []; first = false; given = [] }

-- the pass that takes, once another pass has joined it
abbrev pub with_pass : TakeState → PushState → TakeState
with_pass take push = record take {
  joined = take.joined ++ (record { number = push.number; items = push.pushed }) ∷ [];
  first = (if push.first then true else take.first);
  given = (if push.first then push.given else take.given);
}
