use Rattle.std.proofs.Common.{◌≡◌, ℕ, ◌<◌, true}
use Rattle.std.specs.Prelude.{nat_eq}
use Rattle.std.specs.List.{list_any}
use Rattle.dl_model.specs.Registry.{numbers}
use Rattle.dl_apps.proofs.apps.free_number.Given as goal

abbrev pub invariant-loop-number : goal.invariant-loop-number
invariant-loop-number l = (number : ℕ) → number < l.number → list_any (nat_eq number) (numbers l.apps.entries) ≡ true
