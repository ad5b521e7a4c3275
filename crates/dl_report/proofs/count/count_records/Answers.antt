use Rattle.std.proofs.Common.{◌≡◌, ◌++◌, ◌+◌, ◌∷◌, [], take, arith, subst, length-take}
use Rattle.std.proofs.lemmas.List.{take_more, take_all}
use Rattle.dl_report.specs.Counts.{HasCounted}
use Rattle.dl_report.proofs.Counting.{counts_none, counts_both, weaker}
use Rattle.dl_report.proofs.count.count_records.Goals as goal

pub loop-record-init : goal.loop-record-init
loop-record-init c = counts_none c.args.table.now

pub count_record-requires : goal.count_record-requires
count_record-requires c =
    weaker _ _ _ _ c.loop-record.table
    (omega (arith, length-take c.loop-record.record-index c.args.records.now)) (omega arith)
    (c.loop-record.invariant.bounds 85070591730234615865843651857942052864 340282366920938463463374607431768211456 c.requires)

pub loop-record-preserved : goal.loop-record-preserved
loop-record-preserved c =
    let i = c.loop-record.record-index in
    let one_more : take (i + 1) c.args.records.now ≡ take i c.args.records.now ++ c.record-item.result ∷ [] =
    rw c.record-item.is (take_more c.args.records.now i c.record-item.result c.loop-record-test.true) in
    counts_both _ _ _ _ _ _ one_more c.loop-record.invariant c.count_record.ensures

pub returns-clause-counted : goal.returns-clause-counted
returns-clause-counted c =
    subst (λ rs. HasCounted rs c.args.table.now c.loop-record.table) (take_all c.loop-record.record-index c.args.records.now c.loop-record-test.false) c.loop-record.invariant
