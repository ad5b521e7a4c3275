use Rattle.std.proofs.Common.{◌+◌, refl, sym, subst}
use Rattle.std.specs.Prelude.{slice_index}
use Rattle.dl_world_calls.specs.Injections.{AreAfter}
use Rattle.dl_world_calls.proofs.InjectionCounts.{one-comes}
use Rattle.dl_world_calls.proofs.injections.Injections.come.Goals as goal

pub returns : goal.returns
returns c done is = one-comes done c.self.inside.waiting c.args.app (slice_index c.self.inside.waiting c.args.app + 1) c.requires.known refl (subst (AreAfter done) (sym c.self.view_is) is)
