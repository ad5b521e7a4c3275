-- The rule of a queue of injections: of what it holds, and of what each of its passes knows.
use Rattle.std.specs.Prelude.{◌≡◌, ℕ, suc, ◌+◌, ◌<◌, ◌≤◌, nat_lt, true, false, List, [], ◌∷◌, ◌++◌, length, if◌then◌else◌}
use Rattle.std.specs.List.{All}
use Rattle.dl_bytes.specs.declared.item.Injection.{Injection}
use Rattle.dl_cells.specs.Views.{Each, total, bit}
use Rattle.dl_ring.specs.declared.injection_view.View.{View}
use Rattle.dl_ring.specs.declared.injection_view.Entry.{Entry}
use Rattle.dl_ring.specs.InjectionOrder.{IsPart, times, times_in}

-- the view of the pass that pushes, before it pushed anything
abbrev pub pusher : View
pusher = record { pushes = true; pushed = []; takes = false; taken = []; gives = false; splits = 0; joined = [] }

-- the view of a further pass that takes, before it took anything
abbrev pub taker : View
taker = record { pushes = false; pushed = []; takes = true; taken = []; gives = false; splits = 0; joined = [] }

-- the view of the first pass that takes
abbrev pub first_taker : View
first_taker = record taker { gives = true }

-- the view with which a queue is made: it is cut in the pass that pushes and the first that takes
abbrev pub opener : View
opener = record first_taker { pushes = true }

-- the view of a joined pass
abbrev pub spent : View
spent = record taker { takes = false }

-- one more injection pushed
abbrev pub with_pushed : View → Entry → View
with_pushed v e = record v { pushed = v.pushed ++ e.injection ∷ [] }

-- one more entry taken
abbrev pub with_taken : View → Entry → View
with_taken v e = record v { taken = v.taken ++ e ∷ [] }

-- one more pass made
abbrev pub with_split : View → View
with_split v = record v { splits = v.splits + 1 }

-- another pass taken in: with the right to make more, if it has that
abbrev pub with_joined : View → View → View
with_joined v w = record v {
  gives = (if w.gives then true else v.gives);
  splits = (if w.gives then w.splits else v.splits);
  joined = v.joined ++ w.taken ∷ [];
}

-- injections with their numbers, from this one on
abbrev pub entries : ℕ → List Injection → List Entry
entries n [] = []
entries n (x ∷ xs) = (record { number = n; injection = x }) ∷ entries (suc n) xs

-- how many passes that take a view stands for: itself, if it takes, and each that it took in
abbrev pub takers : View → ℕ
takers v = bit v.takes + length v.joined

-- how often these have taken the number n
abbrev pub times_of : ℕ → View → ℕ
times_of n v = (if v.takes then times n v.taken else 0) + times_in n v.joined

-- how many entries these have taken
abbrev pub takes_of : View → ℕ
takes_of v = (if v.takes then length v.taken else 0) + total length v.joined

-- What a pass took is a part of what was pushed, and nothing of it is still in the queue.
pub record IsTaken (pushed : List Injection) (front : ℕ) (list : List Entry) : Type 0 where
  pub part : IsPart pushed list
  pub below : All (λ e. e.number < front) list

-- What the pass with this seat knows: the one pusher knows what was pushed, the one giver how many passes it made, and
-- what each took is a part of what was pushed.
pub record Fits (seat giver : ℕ) (pushed : List Injection) (splits front : ℕ) (at : ℕ) (v : View) : Type 0 where
  pub pushes : v.pushes ≡ true → (at ≡ seat) × (v.pushed ≡ pushed)
  pub gives : v.gives ≡ true → (at ≡ giver) × (v.splits ≡ splits)
  pub takes : v.takes ≡ true → IsTaken pushed front v.taken
  pub joined : All (IsTaken pushed front) v.joined

-- The queue holds the last part of what was pushed, with its numbers. Each number before was taken once.
pub record Keeps (items : List Entry) (views : List View) : Type 0 where
  pub seat : ℕ
  pub giver : ℕ
  pub splits : ℕ
  pub gone : List Injection
  pub left : List Injection
  pub contents : items ≡ entries (length gone) left
  pub room : length items ≤ 16
  pub live : total takers views ≡ splits + 1
  pub once : (n : ℕ) → total (times_of n) views ≡ bit (nat_lt n (length gone))
  pub count : total takes_of views ≡ length gone
  pub known : Each (Fits seat giver (gone ++ left) splits (length gone)) views
