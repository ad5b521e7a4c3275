use Rattle.std.proofs.Common.{◌≡◌, ◌-◌, ◌^◌, min, take}
use Rattle.dl_account.specs.Books.{injected_of}
use Rattle.dl_account.proofs.joining.injected_of.Given as goal

abbrev pub invariant-loop-place : goal.invariant-loop-place
invariant-loop-place l = l.given ≡ min (2 ^ 64 - 1) (injected_of l.app (take l.place l.books))
