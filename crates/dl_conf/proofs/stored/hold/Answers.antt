use Rattle.std.proofs.Common.{rules, ◌++◌, ◌∷◌, [], ap, not, ◌∙◌}
use Rattle.std.proofs.lemmas.Fn.{filter_same}
use Rattle.dl_conf.specs.Stored.{same_ids}
use Rattle.dl_conf.proofs.stored.hold.Goals as goal

pub returns : goal.returns
returns c =
    let kept = filter_same _ (λ other. not (same_ids other c.args.own)) _ (λ x b f' k. search rules) _ _ c.retain.ensures.filtered in
    c.in_ok-push.ensures.items ∙ ap (λ items. items ++ c.args.own ∷ []) kept
