-- What the answers of a link say of what goes through it.
use Rattle.std.specs.Prelude.{◌≡◌, ◌≢◌, ℕ, ◌≤◌, Bool, true, false, List, [], length, take, drop, Option, Some, IfSome}
use Rattle.dl_outside.specs.declared.link.Gave.{Gave}
use Rattle.dl_outside.specs.declared.link.Gave.TheVariants as gave
use Rattle.dl_outside.specs.declared.link.Sends.{Sends}
use Rattle.dl_outside.specs.declared.link.Sends.TheVariants as sends
use Rattle.dl_outside.specs.Outside.{Grows, HasRisen, Stays}
use Rattle.dl_outside.specs.Told.{LinkTold}

-- What a link gave into the front of a buffer: the next bytes of what is left of its input. Every other answer leaves
-- the input as it was.
abbrev pub Receives : Option (List ℕ) → Option (List ℕ) → Gave → List ℕ → Type 0
Receives old new (gave.Bytes n) into =
    (1 ≤ n) × (n ≤ length into)
    × IfSome old (λ bytes. (n ≤ length bytes) × (take n into ≡ take n bytes) × (new ≡ Some (drop n bytes)))
Receives old new gave.NotYet into = Stays old new
Receives old new gave.End into = Stays old new
Receives old new gave.Failed into = Stays old new

-- what a link has given so far grew by what it gave
abbrev pub Gives : Option (List ℕ) → Option (List ℕ) → Gave → List ℕ → Type 0
Gives old new (gave.Bytes n) into = Grows old new (take n into)
Gives old new gave.NotYet into = Stays old new
Gives old new gave.End into = Stays old new
Gives old new gave.Failed into = Stays old new

-- the end comes exactly where the input is over: nothing is left of it, and no more will come
abbrev pub EndsRightly : LinkTold → Gave → Type 0
EndsRightly link (gave.Bytes n) = IfSome link.over (λ is_over. is_over ≡ false)
EndsRightly link gave.NotYet = IfSome link.over (λ is_over. is_over ≡ false)
EndsRightly link gave.End = IfSome link.over (λ is_over. is_over ≡ true) × IfSome link.left (λ bytes. bytes ≡ [])
EndsRightly link gave.Failed = Unit {0}

-- where the input was over, it stays over
abbrev pub StaysOver : LinkTold → LinkTold → Type 0
StaysOver old new = old.over ≡ Some true → new.over ≡ Some true

-- a fault raised the count of faults, and an idle turn that of idle turns; nothing else did
abbrev pub HasReceiveCause : LinkTold → LinkTold → Gave → Type 0
HasReceiveCause old new (gave.Bytes n) = (new.faults ≡ old.faults) × (new.idles ≡ old.idles)
HasReceiveCause old new gave.NotYet = (new.faults ≡ old.faults) × HasRisen old.idles new.idles
HasReceiveCause old new gave.End = (new.faults ≡ old.faults) × (new.idles ≡ old.idles)
HasReceiveCause old new gave.Failed = HasRisen old.faults new.faults × (new.idles ≡ old.idles)

-- what a link took: the first bytes of the piece, at least one; every other answer took nothing
abbrev pub Sent : Option (List ℕ) → Option (List ℕ) → Sends → List ℕ → Type 0
Sent old new (sends.Bytes n) piece = (1 ≤ n) × (n ≤ length piece) × Grows old new (take n piece)
Sent old new sends.Busy piece = Stays old new
Sent old new sends.Failed piece = Stays old new

-- a fault raised the count of faults, and a busy turn that of busy turns; nothing else did
abbrev pub HasSendCause : LinkTold → LinkTold → Sends → Type 0
HasSendCause old new (sends.Bytes n) = (new.faults ≡ old.faults) × (new.waits ≡ old.waits)
HasSendCause old new sends.Busy = (new.faults ≡ old.faults) × HasRisen old.waits new.waits
HasSendCause old new sends.Failed = HasRisen old.faults new.faults × (new.waits ≡ old.waits)

-- nothing goes through a link that was shut
abbrev pub NothingCame : Gave → Type 0
NothingCame answer = (n : ℕ) → answer ≢ gave.Bytes n

abbrev pub NothingWent : Sends → Type 0
NothingWent answer = (n : ℕ) → answer ≢ sends.Bytes n

-- a link through which nothing has gone, with its counts at 0
pub record IsFresh (link : LinkTold) : Type 0 where
  pub no_fault : link.faults ≡ 0
  pub no_idle_turn : link.idles ≡ 0
  pub no_busy_turn : link.waits ≡ 0
  pub nothing_given : IfSome link.given (λ bytes. bytes ≡ [])
  pub nothing_taken : IfSome link.taken (λ bytes. bytes ≡ [])
  pub is_open : link.is_shut ≡ false
