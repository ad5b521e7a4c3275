-- What an answer of the outside says. What an object holds or has left is an option: nothing where it doesn't tell.
use Rattle.std.specs.Prelude.{◌≡◌, ℕ, ◌+◌, ◌-◌, ◌^◌, ◌≤◌, min, List, [], ◌++◌, length, take, drop, Option, Some, IfSome}
use Rattle.dl_outside.specs.declared.source.Got.{Got}
use Rattle.dl_outside.specs.declared.source.Got.TheVariants as got
use Rattle.dl_outside.specs.declared.sink.Took.{Took}
use Rattle.dl_outside.specs.declared.sink.Took.TheVariants as took

-- one more, as a count of 64 bits has it: at the top it stands
abbrev pub one_more : ℕ → ℕ
one_more count = min (count + 1) (2 ^ 64 - 1)

-- a count of faults rose, or stands at the top of its 64 bits
abbrev pub Rose : ℕ → ℕ → Type 0
Rose before now = one_more before ≤ now

-- a count never falls, and here it rose
abbrev pub HasRisen : ℕ → ℕ → Type 0
HasRisen before now = (before ≤ now) × Rose before now

-- what an object tells is what it told before
abbrev pub Stays : {A : Type 0} → Option A → Option A → Type 0
Stays old new = IfSome old (λ told. new ≡ Some told)

-- what an object tells grew by these bytes
abbrev pub Grows : Option (List ℕ) → Option (List ℕ) → List ℕ → Type 0
Grows old new more = IfSome old (λ bytes. new ≡ Some (bytes ++ more))

-- What a read gave into the front of a buffer: the next bytes of what was left. The end comes only where nothing
-- was left, and a fault takes nothing.
abbrev pub Reads : Option (List ℕ) → Option (List ℕ) → Got → List ℕ → Type 0
Reads old new (got.Bytes n) into =
    (1 ≤ n) × (n ≤ length into)
    × IfSome old (λ bytes. (n ≤ length bytes) × (take n into ≡ take n bytes) × (new ≡ Some (drop n bytes)))
Reads old new got.End into = Stays old new × IfSome old (λ bytes. bytes ≡ [])
Reads old new got.Failed into = Stays old new

-- a fault raised the count, and nothing else did
abbrev pub HasReadCause : ℕ → ℕ → Got → Type 0
HasReadCause before now (got.Bytes n) = now ≡ before
HasReadCause before now got.End = now ≡ before
HasReadCause before now got.Failed = HasRisen before now

-- what a write took: the first bytes of the piece, at least one; a fault took nothing
abbrev pub Takes : Option (List ℕ) → Option (List ℕ) → Took → List ℕ → Type 0
Takes old new (took.Bytes n) piece = (1 ≤ n) × (n ≤ length piece) × Grows old new (take n piece)
Takes old new took.Failed piece = Stays old new

-- a fault raised the count, and nothing else did
abbrev pub HasWriteCause : ℕ → ℕ → Took → Type 0
HasWriteCause before now (took.Bytes n) = now ≡ before
HasWriteCause before now took.Failed = HasRisen before now
