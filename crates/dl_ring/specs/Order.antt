-- The order in which a ring hands on what its passes pushed.
use Rattle.std.specs.Prelude.{◌≡◌, ℕ, ◌+◌, ◌≤◌, ◌==◌, Bool, true, List, [], ◌++◌, length}
use Rattle.std.specs.List.{All, filter}
use Rattle.dl_cells.specs.Views.{total, bit}
use Rattle.dl_ring.specs.declared.item.RingItem.{RingItem}
use Rattle.dl_ring.specs.declared.item.RingItem.TheVariants as ring
use Rattle.dl_ring.specs.declared.view.Sent.{Sent}
use Rattle.dl_ring.specs.State.{TakeState}

-- the number under which an item was pushed
abbrev pub writer_of : RingItem → ℕ
writer_of (ring.Log item) = item.writer
writer_of (ring.Register claim) = claim.writer

-- of the items, those pushed under this number, in order
abbrev pub of : ℕ → List RingItem → List RingItem
of number items = filter (λ item. writer_of item == number) items

-- how many of the joined passes have this number
abbrev pub passes : ℕ → List Sent → ℕ
passes number joined = total (λ sent. bit (sent.number == number)) joined

-- A push met a full ring: at that moment the ring held as many items as it can, and what had been taken, followed by what
-- the ring held, had of this number just what its pass had pushed.
pub record MetFull (capacity number : ℕ) (pushed : List RingItem) : Type 0 where
  pub taken : List RingItem
  pub contents : List RingItem
  pub full : length contents ≡ capacity
  pub in_order : of number (taken ++ contents) ≡ pushed

-- All passes of a ring have joined: nothing was pushed under another number, and as many items were pushed as were taken
-- and lie in the ring.
pub record AllJoined (taken : List RingItem) (joined : List Sent) (contents : List RingItem) : Type 0 where
  pub no_others : (number : ℕ) → passes number joined ≡ 0 → of number (taken ++ contents) ≡ []
  pub count : total (λ sent. length sent.items) joined ≡ length (taken ++ contents)

-- What was taken, followed by what the ring holds, has of each joined pass just what it pushed, in order. Their numbers
-- differ. Once the first pass and all passes that it made have joined, there is nothing else.
pub record Rest (first : Bool) (given : List ℕ) (taken : List RingItem) (joined : List Sent) (contents : List RingItem) : Type 0 where
  pub each : All (λ sent. sent.items ≡ of sent.number (taken ++ contents)) joined
  pub apart : (number : ℕ) → passes number joined ≤ 1
  pub whole : first ≡ true → length joined ≡ length given + 1 → AllJoined taken joined contents

-- the same of what contracts see: the ring holds these contents
abbrev pub Holds : TakeState → List RingItem → Type 0
Holds state contents = Rest state.first state.given state.taken state.joined contents
