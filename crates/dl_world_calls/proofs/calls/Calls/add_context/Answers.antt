use Rattle.std.proofs.Common.{◌≡◌, ◌++◌, ◌∷◌, [], sym, ◌∙◌}
use Rattle.dl_world_calls.proofs.Acts.{on_ok}
use Rattle.dl_world_calls.proofs.Declaring.{context-does}
use Rattle.dl_world_calls.proofs.calls.Calls.add_context.Goals as goal

pub returns-in-Some : goal.returns-in-Some
returns-in-Some c =
    let made = λ (is : c.add_context.new.self ≡ record c.index_mut.result.now { contexts = c.index_mut.result.now.contexts ++ c.args.context.now.ctid ∷ [] }).
    context-does c.self.inside.apps.items c.self.inside.writers.items c.args.self.now c.self.view_is c.args.context.now c.in-Some.number c.index_mut.result.now c.add_context.new.self (sym c.number_of.ensures.number ∙ c.in-Some.is) c.index_mut.ensures.value is in
    on_ok c.add_context.result _ _ made c.add_context.ensures
