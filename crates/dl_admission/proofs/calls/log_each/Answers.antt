use Rattle.std.proofs.Common.{◌≡◌, ◌+◌, List, ℕ, [], ◌∷◌, ◌++◌, take, length, length-append, ap, sym, subst, ◌∙◌, arith}
use Rattle.std.proofs.Math.Seq.{take-length}
use Rattle.std.proofs.lemmas.List.{length-take}
use Rattle.dl_lemmas.proofs.Lists.{item_here}
use Rattle.dl_bytes.specs.declared.item.Item.{Item}
use Rattle.dl_registry.specs.Kept.{owed_change}
use Rattle.dl_core.specs.State.{Core}
use Rattle.dl_admission.specs.Admission.{Logs, Uses}
use Rattle.dl_admission.specs.Part.{part}
use Rattle.dl_admission.proofs.Entries.{logs_more, logs_none, uses_both, uses_none}
use Rattle.dl_admission.proofs.calls.log_each.Goals as goal

pub loop-item-init : goal.loop-item-init
loop-item-init g c = record { logs = logs_none c.args.moment _; uses = uses_none _ _ _ }

pub log_one-requires-clause-settled : goal.log_one-requires-clause-settled
log_one-requires-clause-settled g c = ap (λ (k : Core). owed_change k.registry) c.loop-item.invariant.logs.rest ∙ c.requires.settled

pub log_one-requires-clause-spare : goal.log_one-requires-clause-spare
log_one-requires-clause-spare g c =
    omega (arith, c.requires.spare, c.loop-item.invariant.uses.clients, c.loop-item.invariant.uses.spare_so, c.loop-item-test.true, length-take c.loop-item.item-index c.args.items.now)

pub log_one-requires-clause-few : goal.log_one-requires-clause-few
log_one-requires-clause-few g c = omega (arith, c.requires.few, c.loop-item.invariant.logs.admitted, c.loop-item-test.true, length-take c.loop-item.item-index c.args.items.now)

pub loop-item-preserved : goal.loop-item-preserved
loop-item-preserved g c =
    let k = c.loop-item.item-index in
    let items = c.args.items.now in
    let item = c.item-item.result in
    let here = item_here items k item c.loop-item-test.true c.item-item.is in
    let so = c.loop-item.invariant in
    let count : length (take k items) + 1 ≡ length (take k items ++ item ∷ []) = sym (length-append (take k items) (item ∷ [])) in
    let logs = logs_more c.args.moment (take k items) item _ _ _ so.logs c.log_one.ensures.logs in
    let uses = uses_both (length (take k items)) 1 _ _ _ _ _ _ _ _ _ so.uses c.log_one.ensures.uses in
    record {
      logs = subst (λ (xs : List Item). Logs c.args.moment xs
          (part c.args.core.now (g.J.Journal.events c.args.journal.now) (g.F.Folder.told c.args.folder.now))
          (part c.log_one.new.core (g.J.Journal.events c.log_one.new.journal) (g.F.Folder.told c.log_one.new.folder))) (sym here.0) logs;
      uses = subst (λ (n : ℕ). Uses n c.args.core.now.hub c.log_one.new.core.hub (g.J.Journal.noted c.args.journal.now) (g.J.Journal.noted c.log_one.new.journal)
          (g.J.Journal.spare c.args.journal.now) (g.J.Journal.spare c.log_one.new.journal)) (count ∙ ap (λ (xs : List Item). length xs) (sym here.0)) uses;
    }

pub returns-clause-logs : goal.returns-clause-logs
returns-clause-logs g c =
    let items = c.args.items.now in
    let all : c.loop-item.item-index ≡ length items = omega arith in
    let whole : take c.loop-item.item-index items ≡ items = ap (λ (n : ℕ). take n items) all ∙ take-length items in
    subst (λ (xs : List Item). Logs c.args.moment xs
    (part c.args.core.now (g.J.Journal.events c.args.journal.now) (g.F.Folder.told c.args.folder.now))
    (part c.loop-item.core (g.J.Journal.events c.loop-item.journal) (g.F.Folder.told c.loop-item.folder))) whole c.loop-item.invariant.logs

pub returns-clause-uses : goal.returns-clause-uses
returns-clause-uses g c =
    let items = c.args.items.now in
    let all : c.loop-item.item-index ≡ length items = omega arith in
    let whole : take c.loop-item.item-index items ≡ items = ap (λ (n : ℕ). take n items) all ∙ take-length items in
    subst (λ (xs : List Item). Uses (length xs) c.args.core.now.hub c.loop-item.core.hub (g.J.Journal.noted c.args.journal.now) (g.J.Journal.noted c.loop-item.journal)
    (g.J.Journal.spare c.args.journal.now) (g.J.Journal.spare c.loop-item.journal)) whole c.loop-item.invariant.uses
