use Rattle.std.proofs.Common.{◌≡◌, ◌+◌, ◌++◌, ◌∷◌, [], List, None, get_or, take, sym, ap, subst, ◌∙◌}
use Rattle.std.proofs.lemmas.List.{take_more}
use Rattle.dl_fates.specs.Cases.{cases_by}
use Rattle.dl_fates.specs.Written.{KeepsCounts}
use Rattle.dl_fates.specs.declared.call.CallAt.{CallAt}
use Rattle.dl_fates.proofs.CaseLists.{cases_more}
use Rattle.dl_fates.proofs.cases.cases_by.Goals as goal

pub loop-at-preserved : goal.loop-at-preserved
loop-at-preserved c =
    let i = c.loop-at.at-index in
    let calls = c.args.calls.now in
    let none : CallAt = record { line = 0; writer = 0; told = None } in
    let at : CallAt = get_or calls i none in
    let one : take (i + 1) calls ≡ take i calls ++ at ∷ [] = take_more calls i none c.loop-at-test.true in
    let counted = c.in_ok-number.ensures (take i calls) c.loop-at.invariant.counts in
    record {
      cases = cases_more c.args.records.now c.args.fates.now (take i calls) at c.record_of.result c.in_ok-number.number c.loop-at.cases.items c.push_case.new.cases.items counted.0 c.record_of.ensures
          c.loop-at.invariant.cases c.in_ok-push_case.ensures
          ∙ ap (λ (l : List CallAt). cases_by c.args.records.now c.args.fates.now l) (sym one);
      counts = subst (KeepsCounts c.count_call.new.counts) (sym one) counted.1;
    }
