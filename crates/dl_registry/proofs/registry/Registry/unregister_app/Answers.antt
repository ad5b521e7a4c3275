use Rattle.std.proofs.Common.{◌≡◌, ◌/◌, cond, None, Some, ap, subst, sym, ◌∙◌}
use Rattle.std.specs.Prelude.{◌==◌}
use Rattle.std.specs.Map.{lookup}
use Rattle.dl_registry.specs.Table.{wanted_at}
use Rattle.std.specs.Str.{bytes_eq}
use Rattle.dl_model.specs.Registry.{Registry, app_of}
use Rattle.dl_model.proofs.Order.{app_of_found}
use Rattle.dl_registry.specs.Kept.{Kept, Fits}
use Rattle.dl_registry.proofs.Messages.{fits-remove_app}
use Rattle.dl_registry.proofs.registry.Registry.unregister_app.Goals as goal

pub invariant_of-self : goal.invariant_of-self
invariant_of-self c =
    let r : Registry = record { level = c.self.inside.level; stored = c.self.inside.stored; apps = c.self.inside.apps.entries } in
    let found : lookup (bytes_eq c.args.apid) r.apps ≡ Some c.in-Some.app.now =
    app_of_found r c.args.channel c.args.apid c.in-Some.app.now (ap (λ (k : Kept). app_of k.registry c.args.channel c.args.apid) c.self.view_is ∙ sym c.in-Some.ensures) in
    subst (λ es. Fits (record r { apps = es }) c.clear_app.new.self) (sym c.remove_app.ensures.gone)
    (fits-remove_app r c.self.inside.table c.clear_app.new.self c.args.apid c.in-Some.app.now c.self.invariant found c.remove_app.ensures.once c.clear_app.ensures.first c.clear_app.ensures.held
    (λ slot. c.clear_app.ensures.level slot ∙ ap (λ n. cond (n == slot / 64) None (wanted_at c.self.inside.table slot)) c.number-number.ensures))
