use Rattle.std.proofs.Common.{[], arith}
use Rattle.dl_report.proofs.Counting.{weaker}
use Rattle.dl_report.proofs.count.count_into.Goals as goal

pub count_answers-requires : goal.count_answers-requires
count_answers-requires c =
    weaker _ _ _ _ c.count_events.new.table (omega arith) (omega arith) (c.in_ok-closes.ensures.table.bounds 0 0 c.requires.bounds)

pub returns-clause-counts : goal.returns-clause-counts
returns-clause-counts c = c.count_answers.ensures.counts c.args.events.now (c.in_ok-closes.ensures.table.counts [] [] c.requires.counts)

pub returns-clause-bounds : goal.returns-clause-bounds
returns-clause-bounds c =
    c.count_answers.ensures.bounds 340282366920938463463374607431768211456
    (weaker _ _ _ _ c.count_events.new.table (omega arith) (omega arith) (c.in_ok-closes.ensures.table.bounds 0 0 c.requires.bounds))
