use Rattle.std.proofs.Common.{◌≡◌}
use Rattle.dl_account.specs.Books.{given_by}
use Rattle.dl_account.proofs.joining.injections_given.Given as goal

abbrev pub invariant-loop-app : goal.invariant-loop-app
invariant-loop-app l = l.all.items ≡ given_by l.app l.books
