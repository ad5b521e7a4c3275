use Rattle.std.proofs.Common.{◌≡◌, List, ℕ, length}
use Rattle.dl_receive.specs.declared.counting.Counting.{Counting}
use Rattle.dl_receive.specs.Receiving.{IsAfter}
use Rattle.dl_receive.specs.Text.{len_limit}
use Rattle.dl_receive.proofs.receiver.Receiver.print_whole.Given as goal

-- the messages so far are printed
abbrev pub invariant-loop-self : goal.invariant-loop-self
invariant-loop-self l = record {
  limit : l.self.cutter.limit ≡ len_limit;
  after : (counting : Counting) (stream shown : List ℕ) → IsAfter counting stream shown l.fn.self → IsAfter counting stream shown l.self;
}

abbrev pub decreases-loop-self : goal.decreases-loop-self
decreases-loop-self l = length l.self.cutter.unread
