-- What contracts see of the passes of a queue of injections.
use Rattle.std.specs.Prelude.{ℕ, Bool, true, false, List, [], ◌∷◌, ◌++◌, if◌then◌else◌}
use Rattle.atomic_table.specs.Seated.{TableId}
use Rattle.dl_bytes.specs.declared.item.Injection.{Injection}
use Rattle.dl_ring.specs.declared.injection_view.Entry.{Entry}

-- The pass that pushes: which queue it is of; what the queue took of it, in order; how many of its pushes were refused;
-- what each joined pass had taken; and whether the first of them has joined, with the number of those that it made.
pub record PushState : Type 0 where
  pub queue : TableId
  pub pushed : List Injection
  pub refusals : ℕ
  pub joined : List (List Entry)
  pub first : Bool
  pub splits : ℕ

-- A pass that takes: which queue it is of; what it took, in order; how many of its takes found nothing; and whether it is
-- the first, with the number of passes that it made.
pub record TakeState : Type 0 where
  pub queue : TableId
  pub taken : List Entry
  pub empties : ℕ
  pub first : Bool
  pub splits : ℕ

-- the pass that pushes, before it pushed anything
abbrev pub unused_push : TableId → PushState
unused_push queue = record { queue = queue; pushed = []; refusals = 0; joined = []; first = false; splits = 0 }

-- a pass that takes, before it took anything
abbrev pub unused_take : TableId → Bool → TakeState
unused_take queue first = record { queue = queue; taken = []; empties = 0; first = first; splits = 0 }

-- the pass that pushes, once another pass has joined it
abbrev pub with_pass : PushState → TakeState → PushState
with_pass push take = record push {
  joined = push.joined ++ take.taken ∷ [];
  first = (if take.first then true else push.first);
  splits = (if take.first then take.splits else push.splits);
}
