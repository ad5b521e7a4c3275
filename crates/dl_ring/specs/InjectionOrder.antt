-- How a queue of injections hands on what was pushed: each is taken by one pass, once, or is left.
use Rattle.std.specs.Prelude.{◌≡◌, ℕ, ◌+◌, ◌<◌, ◌≤◌, ◌==◌, nat_lt, Bool, true, List, [], ◌∷◌, length, Some, slice_get}
use Rattle.std.specs.List.{All}
use Rattle.dl_bytes.specs.declared.item.Injection.{Injection}
use Rattle.dl_cells.specs.Views.{total, bit}
use Rattle.dl_ring.specs.declared.injection_view.Entry.{Entry}
use Rattle.dl_ring.specs.InjectionState.{PushState}

-- the numbers rise
abbrev pub Rises : List Entry → Type 0
Rises [] = Unit {0}
Rises (e ∷ entries) = All (λ later. e.number < later.number) entries × Rises entries

-- What a pass took is a part of what was pushed, in order: each entry is the injection that was pushed under its number.
pub record IsPart (pushed : List Injection) (entries : List Entry) : Type 0 where
  pub each : All (λ e. slice_get pushed e.number ≡ Some e.injection) entries
  pub rises : Rises entries

-- how often a number stands in a list
abbrev pub times : ℕ → List Entry → ℕ
times number entries = total (λ e. bit (e.number == number)) entries

-- how often a number stands in some lists
abbrev pub times_in : ℕ → List (List Entry) → ℕ
times_in number lists = total (times number) lists

-- A take met an empty queue: at that moment all that had been pushed was taken, each once, by this pass and by others.
pub record MetEmpty (taken : List Entry) : Type 0 where
  pub pushed : List Injection
  pub others : List (List Entry)
  pub parts : All (IsPart pushed) (taken ∷ others)
  pub once : (number : ℕ) → times_in number (taken ∷ others) ≡ bit (nat_lt number (length pushed))

-- All passes that take have joined, and `left` injections are still in the queue: each that was pushed before these was
-- taken once, by one pass, and no other was.
pub record AllJoined (pushed : List Injection) (joined : List (List Entry)) (left : ℕ) : Type 0 where
  pub once : (number : ℕ) → times_in number joined ≡ bit (nat_lt (number + left) (length pushed))
  pub count : total length joined + left ≡ length pushed
  pub room : left ≤ 16

-- What is known of a queue in which so many injections are left: what each joined pass took is a part of what was pushed,
-- and nothing was taken twice. Once the first pass that takes and all that it made have joined, nothing else was taken.
pub record Rest (pushed : List Injection) (first : Bool) (splits : ℕ) (joined : List (List Entry)) (left : ℕ) : Type 0 where
  pub parts : All (IsPart pushed) joined
  pub apart : (number : ℕ) → times_in number joined ≤ 1
  pub whole : first ≡ true → length joined ≡ splits + 1 → AllJoined pushed joined left

-- the same of what contracts see
abbrev pub Holds : PushState → ℕ → Type 0
Holds state left = Rest state.pushed state.first state.splits state.joined left
