use Rattle.std.proofs.Common.{◌≡◌, ◌≤◌, ◌*◌, ◌^◌, take}
use Rattle.dl_account.specs.Books.{items_pushed_of}
use Rattle.dl_account.proofs.waiting.items_pushed_by.Given as goal

abbrev pub invariant-loop-place : goal.invariant-loop-place
invariant-loop-place l = record { sum : l.pushed ≡ items_pushed_of l.app (take l.place l.books); small : l.pushed ≤ l.place * 2 ^ 41 }
