use Rattle.std.proofs.Common.{◌<◌, ℕ, List, [], ◌∷◌, length, ap, sym, subst, ◌∙◌, arith, length-append}
use Rattle.dl_model.specs.declared.context.Context.{Context}
use Rattle.dl_model.specs.Registry.{App, context_of, with_new_context}
use Rattle.dl_apps.proofs.application.Application.add_context.Goals as goal

pub put_in-requires-clause-absent : goal.put_in-requires-clause-absent
put_in-requires-clause-absent c = ap (λ (a : App). context_of a c.args.ctid) c.self.view_is ∙ c.requires.absent

pub put_in-requires-clause-room : goal.put_in-requires-clause-room
put_in-requires-clause-room c =
    let few : length c.self.inside.contexts.entries < 64 = subst (λ (a : App). length a.contexts < 64) (sym c.self.view_is) c.requires.room in
    omega (arith, few, c.self.invariant)

pub invariant_of-self : goal.invariant_of-self
invariant_of-self c = omega (arith, ap length c.put_in.ensures.added, length-append c.self.inside.contexts.entries ((c.args.ctid, c.args.context) ∷ []), c.put_in.ensures.room, c.self.invariant)

pub returns : goal.returns
returns c =
    let with_contexts : List (List ℕ × Context) → App =
    λ es. record { channel = c.self.inside.channel; number = c.self.inside.number; pid = c.self.inside.pid; text = c.self.inside.text; contexts = es } in
    ap with_contexts c.put_in.ensures.added ∙ ap (λ (a : App). with_new_context a c.args.ctid c.args.context) c.self.view_is
