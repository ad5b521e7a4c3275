use Rattle.std.proofs.Common.{◌≡◌, ◌+◌, ◌++◌, ◌∷◌, [], true, List, length, take, drop, sym, ap, subst, ◌∙◌, append_assoc, refl, arith}
use Rattle.std.proofs.lemmas.Grind.{common_steps}
use Rattle.std.proofs.lemmas.List.{take_more, take-append-drop}
use Rattle.dl_storage.specs.FiltersApart.{are_apart, names_of}
use Rattle.dl_storage.specs.declared.filter.Filter.{Filter}
use Rattle.dl_events.specs.declared.record.Record.{Record}
use Rattle.dl_storage.specs.Passing.{frames_for}
use Rattle.dl_storage.specs.Storing.{AreStored, ChangesFiltersFiles, IsStored}
use Rattle.dl_storage.specs.declared.ends.StoreEnd.{StoreEnd}
use Rattle.dl_storage.proofs.Chain.{AreApart, apart_before, next_stored, no_changes, push_changes}
use Rattle.dl_storage.proofs.storing.store.Goals as goal

pub returns-in_err-ends-clause-others : goal.returns-in_err-ends-clause-others
returns-in_err-ends-clause-others g c = no_changes c.args.filters.now (g.F.Folder.told c.args.folder.now).files

pub returns-in_err-pen-clause-others : goal.returns-in_err-pen-clause-others
returns-in_err-pen-clause-others g c = no_changes c.args.filters.now (g.F.Folder.told c.args.folder.now).files

pub loop-filter-init : goal.loop-filter-init
loop-filter-init g c =
    let told = g.F.Folder.told c.args.folder.now in
    let none : c.in_ok-ends.ends.items ≡ [] = grind (arith, common_steps, c.in_ok-ends.ensures) in
    record {
      stored = subst (λ (es : List StoreEnd). AreStored c.args.ecu c.args.records.now c.args.events.now told.files told.files told.faults told.faults [] es) (sym none) refl;
      others = no_changes [] told.files;
      count = ap (λ (es : List StoreEnd). length es) none;
      room = grind (arith, common_steps, c.in_ok-ends.ensures);
    }

pub loop-filter-preserved : goal.loop-filter-preserved
loop-filter-preserved g c =
    let i = c.loop-filter.filter-index in
    let filters = c.all-filter-items.result.now in
    let filter = c.filter-item.result in
    let before = take i filters in
    let start = g.F.Folder.told c.args.folder.now in
    let now = g.F.Folder.told c.loop-filter.folder in
    let next = g.F.Folder.told c.store_one-end.new.folder in
    let one_more : take (i + 1) filters ≡ before ++ filter ∷ [] = rw c.filter-item.is (take_more filters i filter c.loop-filter-test.true) in
    let whole : before ++ filter ∷ drop (i + 1) filters ≡ filters =
    sym (append_assoc before (filter ∷ []) (drop (i + 1) filters)) ∙ ap (λ (fs : List Filter). fs ++ drop (i + 1) filters) (sym one_more) ∙ take-append-drop (i + 1) filters in
    let are : are_apart (names_of filters) ≡ true = grind (arith, common_steps, c.all-filter-items.ensures) in
    let apart : AreApart filter before = apart_before before filter (drop (i + 1) filters) (subst (λ (fs : List Filter). are_apart (names_of fs) ≡ true) (sym whole) are) in
    let ends : c.push.new.self.items ≡ c.loop-filter.ends.items ++ c.store_one-end.result ∷ [] = grind (arith, common_steps) in
    let stored : IsStored filter (frames_for c.args.ecu filter c.args.records.now c.args.events.now) now.files next.files c.store_one-end.result =
    subst (λ (rs : List (List Record)). IsStored filter (frames_for c.args.ecu filter rs c.args.events.now) now.files next.files c.store_one-end.result) c.over-calls.ensures c.store_one-end.ensures.stored in
    let did =
    next_stored c.args.ecu c.args.records.now c.args.events.now start.files now.files next.files start.faults now.faults next.faults before c.loop-filter.ends.items filter c.store_one-end.result apart
    c.loop-filter.invariant.others c.store_one-end.ensures.others stored c.store_one-end.ensures.cause c.loop-filter.invariant.stored in
    record {
      stored = subst (λ (fs : List Filter). AreStored c.args.ecu c.args.records.now c.args.events.now start.files next.files start.faults next.faults fs c.push.new.self.items) (sym one_more)
          (subst (λ (es : List StoreEnd). AreStored c.args.ecu c.args.records.now c.args.events.now start.files next.files start.faults next.faults (before ++ filter ∷ []) es) (sym ends) did);
      others = subst (λ (fs : List Filter). ChangesFiltersFiles fs start.files next.files) (sym one_more)
          (push_changes before filter start.files now.files next.files c.loop-filter.invariant.others c.store_one-end.ensures.others);
      count = grind (arith, common_steps);
      room = grind (arith, common_steps);
    }
