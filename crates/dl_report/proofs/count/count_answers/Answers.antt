use Rattle.std.proofs.Common.{◌≡◌, ◌++◌, ◌+◌, List, [], take, length, arith, subst, ap, length-append}
use Rattle.std.specs.List.{flat_map}
use Rattle.std.proofs.lemmas.List.{take_all}
use Rattle.dl_events.specs.declared.record.Record.{Record}
use Rattle.dl_report.specs.Counts.{HasCounted}
use Rattle.dl_report.proofs.Counting.{counts_none, counts_both, weaker}
use Rattle.dl_report.proofs.Writers.{writer_more}
use Rattle.dl_report.proofs.count.count_answers.Goals as goal

pub loop-place-init : goal.loop-place-init
loop-place-init c = record { counted = counts_none c.args.table.now; short = omega arith }

pub count_records-requires : goal.count_records-requires
count_records-requires c =
    weaker _ _ _ _ c.loop-place.table (omega (arith, c.loop-place.invariant.short)) (omega arith)
    (c.loop-place.invariant.counted.bounds 0 340282366920938463463374607431768211456 c.requires)

pub loop-place-preserved : goal.loop-place-preserved
loop-place-preserved c =
    let k = c.loop-place.place in
    let more : flat_map (λ (rs : List Record). rs) (take (k + 1) c.args.records.now) ≡ flat_map (λ (rs : List Record). rs) (take k c.args.records.now) ++ c.of.result.now =
    writer_more c.args.records.now k _ c.of.result.now c.of.ensures (omega arith) in
    record {
      counted = counts_both _ _ _ _ _ _ more c.loop-place.invariant.counted c.count_records.ensures.counted;
      short = omega (arith, ap length more, length-append (flat_map (λ (rs : List Record). rs) (take k c.args.records.now)) c.of.result.now, c.count_records.ensures.short, c.loop-place.invariant.short);
    }

pub returns : goal.returns
returns c =
    let all : take c.loop-place.place c.args.records.now ≡ c.args.records.now = take_all c.loop-place.place c.args.records.now (omega arith) in
    let done : HasCounted (flat_map (λ (rs : List Record). rs) c.args.records.now) c.args.table.now c.loop-place.table =
    subst (λ (xs : List (List Record)). HasCounted (flat_map (λ (rs : List Record). rs) xs) c.args.table.now c.loop-place.table) all c.loop-place.invariant.counted in
    record {
      size = done.size;
      counts = λ events none. done.counts [] events none;
      bounds = λ losses none. weaker _ _ _ _ c.loop-place.table
          (omega (arith, ap (λ xs. length (flat_map (λ (rs : List Record). rs) xs)) all, c.loop-place.invariant.short)) (omega arith) (done.bounds 0 losses none);
    }
