use Rattle.std.proofs.Common.{◌==◌, ℕ, List, cond, Option, None, ap, ◌∙◌}
use Rattle.std.specs.List.{list_any}
use Rattle.dl_model.specs.Registry.{slot_of}
use Rattle.dl_registry.specs.Table.{wanted_at}
use Rattle.dl_registry.proofs.Giving.{joined}
use Rattle.dl_registry.proofs.apply.clear_context.Goals as goal

pub returns-clause-levels : goal.returns-clause-levels
returns-clause-levels c = λ slot.
    let context = c.args.context.now in
    let rest = list_any (λ n. slot == slot_of c.args.number n) context.further in
    let old = wanted_at c.args.table.now slot in
    c.clear_places.ensures.levels slot
    ∙ (ap (λ (ns : List ℕ). cond (list_any (λ n. slot == slot_of c.args.number n) ns) None (wanted_at c.clear.new.self slot)) c.all.ensures
    ∙ (ap (cond rest None) (c.clear.ensures.level slot ∙ ap (λ at. cond (slot == at) None old) c.slot_of.ensures)
    ∙ joined {A = Option ℕ} (slot == slot_of c.args.number context.place) rest None old))
