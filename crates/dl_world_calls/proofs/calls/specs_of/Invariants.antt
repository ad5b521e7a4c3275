use Rattle.std.proofs.Common.{◌≡◌, ◌++◌}
use Rattle.std.specs.Prelude.{map}
use Rattle.std.specs.Vec.Iter.{into_iter_items}
use Rattle.dl_world_calls.specs.State.{App}
use Rattle.dl_world_calls.proofs.calls.specs_of.Given as goal

abbrev pub invariant-loop-app : goal.invariant-loop-app
invariant-loop-app l = l.specs.items ++ map (λ (app : App). app.spec) (into_iter_items l.app-iterator) ≡ map (λ (app : App). app.spec) l.fn.apps.items
