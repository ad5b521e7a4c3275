use Rattle.std.proofs.Common.{◌≡◌, ◌+◌, ◌∷◌, ◌++◌, [], false, cond, take, sym, ap, ◌∙◌, subst}
use Rattle.std.specs.Prelude.{IfSome}
use Rattle.std.specs.Option.{option_map_or}
use Rattle.std.proofs.lemmas.List.{take_more}
use Rattle.dl_model.specs.Along.{last_that}
use Rattle.dl_crew.specs.Calls.{has_name}
use Rattle.dl_crew.proofs.OwnContexts.{last_there, there}
use Rattle.dl_crew.proofs.own.Own.last.Goals as goal
use Rattle.dl_crew.proofs.own.Own.last.Goals.{then-is_named, else-is_named}

pub loop-ctx-preserved : goal.loop-ctx-preserved
loop-ctx-preserved c =
    let l = c.loop-ctx in
    let p = has_name c.args.app c.args.ctid in
    let items = c.deref-ctx-items.result.now in
    let so_far = take l.ctx-index items in
    let ctx = c.ctx-item.result in
    let more : last_that p (there (take (l.ctx-index + 1) items)) ≡ cond (option_map_or p ctx false) ctx (last_that p (there so_far)) =
    ap (λ xs. last_that p (there xs)) (take_more items l.ctx-index ctx c.loop-ctx-test.true ∙ ap (λ x. so_far ++ x ∷ []) (sym c.ctx-item.is)) ∙ last_there p so_far ctx in
    elim c.if-is_named.branch [
      | then-is_named w ↦ record {
        found = w.last-is ∙ sym (more ∙ ap (λ b. cond b ctx (last_that p (there so_far))) (sym c.is_named.ensures.named ∙ w.if-is_named.true));
        app = subst (λ o. IfSome o (λ ctx. ctx.app ≡ c.args.app)) (sym w.last-is) (c.is_named.ensures.app w.if-is_named.true);
      }
      | else-is_named w ↦ record {
        found = w.last-is ∙ l.invariant.found ∙ sym (more ∙ ap (λ b. cond b ctx (last_that p (there so_far))) (sym c.is_named.ensures.named ∙ w.if-is_named.false));
        app = subst (λ o. IfSome o (λ ctx. ctx.app ≡ c.args.app)) (sym w.last-is) l.invariant.app;
      }
    ]
