use Rattle.std.proofs.Common.{◌∷◌, ◌++◌, [], ◌≡◌, map, List, Option, Some, ap, ◌∙◌, subst, sym}
use Rattle.dl_bytes.specs.Context.{Context}
use Rattle.dl_crew.proofs.OwnContexts.{all_more, there, there_more}
use Rattle.dl_crew.proofs.own.Own.add.Goals as goal

pub invariant_of-self : goal.invariant_of-self
invariant_of-self c =
    subst (λ (xs : List (Option Context)). xs ≡ map (λ ctx. Some ctx) (there xs)) (sym c.push.ensures.items) (all_more c.self.inside.contexts.items c.args.ctx c.self.invariant)

pub returns : goal.returns
returns c =
    ap (λ (xs : List (Option Context)). there xs) c.push.ensures.items ∙ there_more c.self.inside.contexts.items c.args.ctx
    ∙ ap (λ (xs : List Context). xs ++ c.args.ctx ∷ []) c.self.view_is
