use Rattle.std.proofs.Common.{◌==◌, ℕ, List, cond, Some, ap, ◌∙◌}
use Rattle.std.specs.List.{list_any}
use Rattle.dl_model.specs.Registry.{slot_of}
use Rattle.dl_registry.specs.Table.{wanted_at}
use Rattle.dl_registry.proofs.Giving.{given_one, joined}
use Rattle.dl_registry.proofs.levels.give_places.Goals as goal

pub returns-clause-levels : goal.returns-clause-levels
returns-clause-levels c = λ slot within.
    let context = c.args.context.now in
    let rest = list_any (λ n. slot == slot_of c.args.number n) context.further in
    let old = wanted_at c.args.table.now slot in
    c.give_further.ensures.levels slot within
    ∙ (ap (λ (ns : List ℕ). cond (list_any (λ n. slot == slot_of c.args.number n) ns) (Some c.args.level) (wanted_at c.give.new.self slot)) c.all.ensures
    ∙ (ap (cond rest (Some c.args.level)) (given_one c.args.table.now c.give.new.self c.slot_of.result c.args.level slot c.give.ensures.level c.give.ensures.outside within
    ∙ ap (λ at. cond (slot == at) (Some c.args.level) old) c.slot_of.ensures)
    ∙ joined (slot == slot_of c.args.number context.place) rest (Some c.args.level) old))
