use Rattle.std.proofs.Common.{◌≡◌, ◌++◌, List, ℕ, length}
use Rattle.dl_receive.specs.declared.counting.Counting.{Counting}
use Rattle.dl_receive.specs.Receiving.{IsAfter, IsReady}
use Rattle.dl_receive.proofs.receiver.Receiver.take.Given as goal

-- the front of the piece is taken
abbrev pub invariant-loop-rest : goal.invariant-loop-rest
invariant-loop-rest l =
    IsReady l.self
    × ((done : List ℕ) × (done ++ l.rest ≡ l.fn.piece) × ((counting : Counting) (stream shown : List ℕ) → IsAfter counting stream shown l.fn.self → IsAfter counting (stream ++ done) shown l.self))

abbrev pub decreases-loop-rest : goal.decreases-loop-rest
decreases-loop-rest l = length l.rest
