-- The rule of a ring: of what it holds, and of what each of its passes knows.
use Rattle.std.specs.Prelude.{◌≡◌, ℕ, ◌+◌, ◌≤◌, ◌==◌, ◌&&◌, true, false, List, [], ◌∷◌, ◌++◌, length, if◌then◌else◌}
use Rattle.std.specs.List.{All}
use Rattle.dl_ring.specs.declared.item.RingItem.{RingItem}
use Rattle.dl_ring.specs.declared.view.View.{View}
use Rattle.dl_cells.specs.Views.{Each, total, bit, times}
use Rattle.dl_ring.specs.Order.{of, passes}

-- the view of a pass that pushes under this number and has pushed nothing
abbrev pub pusher : ℕ → View
pusher n = record { pushes = true; number = n; pushed = []; gives = false; given = []; takes = false; taken = []; joined = [] }

-- the view of the pass that takes, before it took anything
abbrev pub taker : View
taker = record { pushes = false; number = 0; pushed = []; gives = false; given = []; takes = true; taken = []; joined = [] }

-- the view of the first pass of a ring: it pushes under the number 0, and gives the others their numbers
abbrev pub first_pusher : View
first_pusher = record (pusher 0) { gives = true }

-- the view with which a ring is made: it is cut in the first pass and the pass that takes
abbrev pub opener : View
opener = record first_pusher { takes = true }

-- the view of a joined pass
abbrev pub spent : View
spent = record taker { takes = false }

-- one more item pushed
abbrev pub with_pushed : View → RingItem → View
with_pushed v item = record v { pushed = v.pushed ++ item ∷ [] }

-- one more item taken
abbrev pub with_taken : View → RingItem → View
with_taken v item = record v { taken = v.taken ++ item ∷ [] }

-- one more number given
abbrev pub with_given : View → ℕ → View
with_given v n = record v { given = v.given ++ n ∷ [] }

-- another pass taken in: with the right to give, if it has that
abbrev pub with_joined : View → View → View
with_joined v w = record v {
  gives = (if w.gives then true else v.gives);
  given = (if w.gives then w.given else v.given);
  joined = v.joined ++ (record { number = w.number; items = w.pushed }) ∷ [];
}

-- how many passes a view stands for: itself, if it pushes, and each that it took in
abbrev pub pushers : View → ℕ
pushers v = bit v.pushes + length v.joined

-- how many of these have the number n
abbrev pub numbered : ℕ → View → ℕ
numbered n v = bit (v.pushes && v.number == n) + passes n v.joined

-- how many items these have pushed
abbrev pub pushes_of : View → ℕ
pushes_of v = (if v.pushes then length v.pushed else 0) + total (λ sent. length sent.items) v.joined

-- What the pass with this seat knows, where `all` is what was taken and then what the ring holds: the one taker knows what
-- was taken, the one giver which numbers were given, and each pusher what was pushed under its number.
pub record Fits (seat giver : ℕ) (taken : List RingItem) (given : List ℕ) (all : List RingItem) (at : ℕ) (v : View) : Type 0 where
  pub takes : v.takes ≡ true → (at ≡ seat) × (v.taken ≡ taken)
  pub gives : v.gives ≡ true → (at ≡ giver) × (v.given ≡ given)
  pub pushes : v.pushes ≡ true → v.pushed ≡ of v.number all
  pub joined : All (λ sent. sent.items ≡ of sent.number all) v.joined

-- Each number is 0 or was given, once, and there is one pass with it. What was taken and then what the ring holds has
-- of each number what the pass with that number pushed, in order, and nothing of another number.
pub record Keeps (items : List RingItem) (views : List View) : Type 0 where
  pub seat : ℕ
  pub giver : ℕ
  pub taken : List RingItem
  pub given : List ℕ
  pub live : total pushers views ≡ length given + 1
  pub once : (n : ℕ) → total (numbered n) views ≡ times n (0 ∷ given)
  pub apart : (n : ℕ) → times n (0 ∷ given) ≤ 1
  pub count : total pushes_of views ≡ length (taken ++ items)
  pub numbers : (n : ℕ) → times n (0 ∷ given) ≡ 0 → of n (taken ++ items) ≡ []
  pub known : Each (Fits seat giver taken given (taken ++ items)) views
