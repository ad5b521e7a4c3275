use Rattle.std.proofs.Common.{ap, ◌∙◌}
use Rattle.dl_model.specs.Registry.{Registry}
use Rattle.dl_registry.specs.Kept.{owed_change}
use Rattle.dl_registry.proofs.Waiting.{next_waiting-owed}
use Rattle.dl_registry.proofs.registry.Registry.next_change.Goals as goal

pub returns-clause-change : goal.returns-clause-change
returns-clause-change c =
    let r : Registry = record { level = c.self.inside.level; stored = c.self.inside.stored; apps = c.self.inside.apps.entries } in
    c.next.ensures.change ∙ (next_waiting-owed r c.self.inside.table c.self.invariant.levels ∙ ap owed_change c.self.view_is)
