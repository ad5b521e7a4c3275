use Rattle.std.proofs.Common.{subst, sym}
use Rattle.dl_model.specs.Registry.{Registry}
use Rattle.dl_registry.specs.Kept.{Fits}
use Rattle.dl_registry.proofs.Messages.{fits-tell_context}
use Rattle.dl_registry.proofs.registry.Registry.tell_context.Goals as goal

pub invariant_of-self : goal.invariant_of-self
invariant_of-self c =
    let r : Registry = record { level = c.self.inside.level; stored = c.self.inside.stored; apps = c.self.inside.apps.entries } in
    subst (λ es. Fits (record r { apps = es }) c.self.inside.table) (sym c.tell_context.ensures) (fits-tell_context r c.self.inside.table c.args.apid c.args.ctid c.args.position c.in_ok-text.text c.self.invariant)
