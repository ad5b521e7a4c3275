use Rattle.dl_crew.specs.Calls.{content}
use Rattle.dl_crew.proofs.Played.{makes_none, one_call_more}
use Rattle.dl_crew.proofs.worker.make_calls.Goals as goal

pub loop-call-init : goal.loop-call-init
loop-call-init g c = makes_none c.args.book.now

pub loop-call-preserved : goal.loop-call-preserved
loop-call-preserved g c =
    let calls = c.args.calls.now in
    one_call_more (content calls.ctx calls.severity calls.payload) c.args.book.now c.loop-call.book c.loop-call._call c.loop-call.invariant c.make_call.new.book c.make_call.ensures
