use Rattle.std.proofs.Common.{◌≡◌, ◌<◌, Some, IfSome, length, ap, sym, subst, ◌∙◌}
use Rattle.dl_model.specs.Registry.{App, context_of}
use Rattle.dl_model.specs.declared.context.Context.{Context}
use Rattle.dl_apps.proofs.application.Application.add_place.Goals as goal

pub add-requires : goal.add-requires
add-requires c =
    let there : context_of c.args.self.now c.args.ctid ≡ Some c.in-Some.context.now = ap (λ (a : App). context_of a c.args.ctid) (sym c.self.view_is) ∙ sym c.in-Some.ensures.value in
    subst (λ o. IfSome o (λ (x : Context). length x.further < 63)) there c.requires
