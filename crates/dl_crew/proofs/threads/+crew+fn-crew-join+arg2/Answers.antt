use Rattle.std.proofs.Common.{rules, ◌<◌, ◌≤◌, length, length-append, ap, ◌∙◌, List, ◌∷◌, [], ◌++◌, sym, subst, arith}
use Rattle.dl_writer.specs.State.{BookState}
use Rattle.dl_crew.specs.Plays.{ArePairs, CanPlay, HasPlayed}
use Rattle.dl_crew.proofs.Pairs.{all_front, all_last, as_many, pairs_more}
use Rattle.dl_crew.proofs.threads.+crew+fn-crew-join+arg2.Goals as goal

pub join-done-requires-after_bounds : goal.join-done-requires-after_bounds
join-done-requires-after_bounds g t c κs within =
    let P = CanPlay c.args.plan.now.lines in
    let front = all_front P c.args.books c.pop.new.self c.in-Some.last c.in-Some.ensures.taken c.requires.room in
    let last = all_last P c.args.books c.pop.new.self c.in-Some.last c.in-Some.ensures.taken c.requires.room in
    let all = ap length c.in-Some.ensures.taken ∙ length-append c.pop.new.self (c.in-Some.last ∷ []) in
    let fewer : length c.pop.new.self < length c.args.books = omega (arith, all) in
    let few : length c.pop.new.self ≤ 31 = omega (arith, all, c.requires.few) in
    ((search rules, (search rules, (search rules, (search rules, ((search rules, search rules, search rules, few, front), search rules))))), last)

pub add-requires : goal.add-requires
add-requires g t c =
    let many = as_many (HasPlayed c.args.plan.now.contexts c.args.plan.now.lines) c.pop.new.self c.join-done.result.0 c.join-done.ensures.first in
    let all = ap length c.in-Some.ensures.taken ∙ length-append c.pop.new.self (c.in-Some.last ∷ []) in
    omega (arith, many, all, c.requires.few)

pub returns : goal.returns
returns g t c =
    let R = HasPlayed c.args.plan.now.contexts c.args.plan.now.lines in
    subst (λ (l : List BookState). ArePairs R c.args.books l) (sym c.add.ensures)
    (subst (λ (l : List BookState). ArePairs R l (c.join-done.result.0 ++ c.join-done.result.1 ∷ [])) (sym c.in-Some.ensures.taken)
    (pairs_more R c.pop.new.self c.join-done.result.0 c.in-Some.last c.join-done.result.1 c.join-done.ensures.first c.join-done.ensures.second))
