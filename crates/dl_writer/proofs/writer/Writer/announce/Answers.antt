use Rattle.std.proofs.Common.{[]}
use Rattle.dl_writer.proofs.Announcing.{after_none, after_one, begins}
use Rattle.dl_writer.proofs.writer.Writer.announce.Goals as goal

pub loop-init : goal.loop-init
loop-init g c = ([], begins c.args.self.now)

pub loop-preserved : goal.loop-preserved
loop-preserved g c =
    after_one c.args.self.now c.loop.self c.announce_next.new.self c.announce_next.result c.is_some.ensures c.loop-test.true c.announce_next.ensures.taken c.loop.invariant

pub returns : goal.returns
returns g c =
    after_none c.args.self.now c.loop.self c.announce_next.new.self c.announce_next.result c.waiting.result c.is_some.ensures c.loop-test.false c.announce_next.ensures.none c.waiting.ensures.value c.loop.invariant
