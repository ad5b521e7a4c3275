-- Cutting a stream that comes in any pieces, whatever it is cut into: what the calls of a cutter took, and what they gave.
use Rattle.std.specs.Prelude.{◌≡◌, ℕ, List, [], ◌∷◌, ◌++◌, take}

-- A call of a cutter: it is fed a piece, of which it takes so many of the first bytes, or it is asked for what is next.
pub data Call (Answer : Type 0) : Type 0 where
  Feed : (piece : List ℕ) → (count : ℕ) → Call Answer
  Next : Answer → Call Answer

-- Calls one after the other, from one state to another: each does what it does.
abbrev pub Runs : {State Answer : Type 0} → (State → Call Answer → State → Type 0) → State → List (Call Answer) → State → Type 0
Runs does old [] new = old ≡ new
Runs {State = State} does old (call ∷ calls) new = (between : State) × does old call between × Runs does between calls new

-- the bytes that the calls took
abbrev pub fed_by : {Answer : Type 0} → List (Call Answer) → List ℕ
fed_by [] = []
fed_by (Feed piece count ∷ calls) = take count piece ++ fed_by calls
fed_by (Next answer ∷ calls) = fed_by calls

-- what the answers gave, by what each of them gives
abbrev pub given_by : {Answer Given : Type 0} → (Answer → List Given) → List (Call Answer) → List Given
given_by gives [] = []
given_by gives (Feed piece count ∷ calls) = given_by gives calls
given_by gives (Next answer ∷ calls) = gives answer ++ given_by gives calls

-- The bytes are these, one behind the other, up to the rest. `begins` says what begins bytes, and what stands behind it.
abbrev pub AreCut : {Given : Type 0} → (List ℕ → Given → List ℕ → Type 0) → List ℕ → List Given → List ℕ → Type 0
AreCut begins bytes [] rest = bytes ≡ rest
AreCut begins bytes (first ∷ others) rest = (after : List ℕ) × begins bytes first after × AreCut begins after others rest

-- What makes a cutter: a feed adds what it takes to what is unread, an answer takes what it gives from the front, and
-- what begins bytes begins longer ones.
pub record IsCutter {State Answer Given : Type 0} (unread : State → List ℕ) (gives : Answer → List Given)
    (begins : List ℕ → Given → List ℕ → Type 0) (does : State → Call Answer → State → Type 0) : Type 0 where
  pub feeds : (old new : State) (piece : List ℕ) (count : ℕ) → does old (Feed piece count) new → unread new ≡ unread old ++ take count piece
  pub answers : (old new : State) (answer : Answer) → does old (Next answer) new → AreCut begins (unread old) (gives answer) (unread new)
  pub goes_on : (bytes after more : List ℕ) (given : Given) → begins bytes given after → begins (bytes ++ more) given (after ++ more)

-- However the bytes came, a cutter has given the first of what all the bytes are that it took, and holds the rest.
abbrev pub GivesTheCut : {State Answer Given : Type 0} → (State → List ℕ) → (Answer → List Given) → (List ℕ → Given → List ℕ → Type 0)
    → (State → Call Answer → State → Type 0) → Type 0
GivesTheCut {State = State} {Answer = Answer} unread gives begins does = (calls : List (Call Answer)) (old new : State) → Runs does old calls new
    → AreCut begins (unread old ++ fed_by calls) (given_by gives calls) (unread new)
