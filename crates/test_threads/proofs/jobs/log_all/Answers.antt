use Rattle.test_threads.proofs.Later.{logs, same_book, same_on}
use Rattle.test_threads.proofs.jobs.log_all.Goals as goal

pub loop-at-init : goal.loop-at-init
loop-at-init g c = same_book c.args.book.now

pub loop-at-preserved : goal.loop-at-preserved
loop-at-preserved g c = same_on c.args.book.now c.loop-at.book c.log-answer.new.self c.loop-at.invariant
    (logs c.made_stays.ensures.logged c.log-answer.result c.loop-at.book c.log-answer.new.self _ _ _ _ c.log-answer.ensures.refused c.log-answer.ensures.kept)
