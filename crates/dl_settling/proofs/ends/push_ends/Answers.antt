use Rattle.std.proofs.Common.{arith}
use Rattle.dl_settling.proofs.Ended.{one_more, pushed, so_many}
use Rattle.dl_settling.proofs.ends.push_ends.Goals as goal

pub unwrap-requires : goal.unwrap-requires
unwrap-requires c =
    let so = c.loop-done.invariant in
    c.push.ensures.succeeds (omega (arith, so_many c.args.hub.now c.loop-done.done c.loop-done.ends.items so.made, so.room, c.loop-done.ends.ok.0, c.loop-done-test.true, c.requires.few))

pub loop-done-preserved : goal.loop-done-preserved
loop-done-preserved c =
    let so = c.loop-done.invariant in
    record {
      made = one_more c.args.hub.now c.loop-done.done c.loop-done.ends.items c.push.new.self.items c.end_of.result so.made c.end_of.ensures (pushed c.push.result c.unwrap.result _ _ _ c.unwrap.ensures c.push.ensures.items);
      room = omega (arith, c.push.ensures.capacity, so.room);
    }
