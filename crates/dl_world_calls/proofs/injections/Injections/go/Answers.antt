use Rattle.std.proofs.Common.{◌-◌, ◌<◌, ℕ, List, refl, sym, subst}
use Rattle.std.specs.Prelude.{slice_index}
use Rattle.dl_world_calls.specs.Injections.{AreAfter}
use Rattle.dl_world_calls.proofs.InjectionCounts.{one-goes}
use Rattle.dl_world_calls.proofs.injections.Injections.go.Goals as goal

pub returns : goal.returns
returns c done is =
    one-goes done c.self.inside.waiting c.args.app (slice_index c.self.inside.waiting c.args.app - 1) c.requires.known
    (subst (λ (ws : List ℕ). 0 < slice_index ws c.args.app) (sym c.self.view_is) c.requires.some) refl (subst (AreAfter done) (sym c.self.view_is) is)
