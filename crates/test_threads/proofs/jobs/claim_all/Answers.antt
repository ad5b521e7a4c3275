use Rattle.test_threads.proofs.Later.{registers, same_book, same_on}
use Rattle.test_threads.proofs.jobs.claim_all.Goals as goal

pub loop-count-init : goal.loop-count-init
loop-count-init g c = same_book c.args.book.now

pub loop-count-preserved : goal.loop-count-preserved
loop-count-preserved g c =
    let said = c.register.ensures in
    same_on c.args.book.now c.loop-count.book c.register.new.self c.loop-count.invariant
    (registers c.made_stays.ensures.registered c.made_stays.ensures.full _ c.register.result c.loop-count.book c.register.new.self _ _ _ said.named said.registered said.full)
