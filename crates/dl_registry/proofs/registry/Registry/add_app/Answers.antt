use Rattle.std.proofs.Common.{◌++◌, ◌∷◌, [], ap, sym, subst, ◌∙◌}
use Rattle.dl_model.specs.Registry.{App, Registry}
use Rattle.dl_registry.specs.Kept.{Fits}
use Rattle.dl_registry.proofs.Messages.{fits-add_app}
use Rattle.dl_registry.proofs.registry.Registry.add_app.Goals as goal

pub invariant_of-self-2 : goal.invariant_of-self-2
invariant_of-self-2 c =
    let r : Registry = record { level = c.self.inside.level; stored = c.self.inside.stored; apps = c.self.inside.apps.entries } in
    subst (λ es. Fits (record r { apps = es }) c.self.inside.table) (sym (c.in_ok-add_app.ensures.added ∙ ap (λ (a : App). r.apps ++ (c.args.apid, a) ∷ []) c.in_ok-app.ensures))
    (fits-add_app r c.self.inside.table c.args.apid c.args.channel c.in-Some.number c.args.pid c.in_ok-text.text c.self.invariant c.in-Some.ensures.some.0 c.in-Some.ensures.some.1)
