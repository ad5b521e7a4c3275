use Rattle.std.proofs.Common.{arith, sym, ◌∙◌}
use Rattle.dl_apps.proofs.Entries.{free_number_is, apps_are_full}
use Rattle.dl_apps.proofs.apps.free_number.Goals as goal

pub returns-then-not-has_number-clause-some : goal.returns-then-not-has_number-clause-some
returns-then-not-has_number-clause-some c = free_number_is c.args.apps.now.entries c.loop-number.number c.requires (omega arith) (sym c.has_number.ensures ∙ c.if-not-has_number.true) c.loop-number.invariant

pub returns-clause-none : goal.returns-clause-none
returns-clause-none c = λ _. apps_are_full c.args.apps.now.entries (λ k below. c.loop-number.invariant k (omega arith))
