use Rattle.std.proofs.Common.{◌++◌, ◌∷◌, [], ap, sym, ◌∙◌, not, append_assoc, arith}
use Rattle.std.specs.List.{filter, filter_map}
use Rattle.dl_conf.specs.Stored.{own_in, same_ids}
use Rattle.std.proofs.lemmas.Grind.{common_steps}
use Rattle.dl_conf.proofs.Held.{held_push}
use Rattle.dl_conf.proofs.stored.own_levels.Goals as goal

pub loop-line-preserved-in-Continue-1 : goal.loop-line-preserved-in-Continue-1
loop-line-preserved-in-Continue-1 c =
    let done = c.loop-line.invariant.0 in
    let own = c.in-Some-own_on.own in
    let rest = filter_map own_in c.next.new.self in (
      done ++ own ∷ [],
      c.in_ok-hold.ensures ∙ ap (λ levels. filter (λ other. not (same_ids other own)) levels ++ own ∷ []) c.loop-line.invariant.1 ∙ sym (held_push done own),
      append_assoc done (own ∷ []) rest ∙ grind (arith, common_steps, c.loop-line.invariant.2, c.in-Some.ensures.goes, c.in-Some-own_on.is, c.own_on.ensures),
    )
