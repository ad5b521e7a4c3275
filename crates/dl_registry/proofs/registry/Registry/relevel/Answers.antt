use Rattle.std.proofs.Common.{◌≡◌, false, reverse, ap, subst, sym, ◌∙◌}
use Rattle.std.specs.Map.{values_of}
use Rattle.std.specs.Option.{option_or}
use Rattle.dl_model.specs.Registry.{Registry, wears}
use Rattle.dl_apps.specs.Change.{relevel_of}
use Rattle.dl_registry.specs.Kept.{Kept, Fits, slots}
use Rattle.dl_registry.specs.Refresh.{level_in_apps}
use Rattle.dl_registry.specs.Table.{held_at, wanted_at}
use Rattle.dl_registry.proofs.Releveling.{fits-releveled}
use Rattle.dl_registry.proofs.registry.Registry.relevel.Goals as goal

pub invariant_of-self : goal.invariant_of-self
invariant_of-self c =
    let r : Registry = record { level = c.self.inside.level; stored = c.self.inside.stored; apps = c.self.inside.apps.entries } in
    let level = c.args.new.now.level in
    let levels = relevel_of c.args.new.now.own in
    let none : wears (held_at c.self.inside.table.first c.self.inside.table.held) r level levels ≡ false =
    ap (λ (k : Kept). wears (slots k) k.registry level levels) c.self.view_is ∙ (sym c.wears.ensures ∙ c.if-wears.false) in
    subst (λ es. Fits (record { level = level; stored = c.self.inside.stored; apps = es }) c.refresh.new.table) (sym c.relevel.ensures)
    (fits-releveled r c.self.inside.table c.refresh.new.table level levels c.self.invariant none c.refresh.ensures.first c.refresh.ensures.held c.refresh.ensures.outside
    (λ slot within. c.refresh.ensures.levels slot within ∙ ap (λ es. option_or (level_in_apps level (reverse (values_of es)) slot) (wanted_at c.self.inside.table slot)) c.relevel.ensures))
