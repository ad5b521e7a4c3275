use Rattle.std.proofs.Common.{arith}
use Rattle.dl_daemon.proofs.Counts.{is_behind, is_inside}
use Rattle.dl_daemon.proofs.counting.open_channels.Goals as goal

pub overflow_add-count : goal.overflow_add-count
overflow_add-count c =
    let below = is_inside c.args.channels.now.inboxes c.loop-channel.count c.in-Some._channel c.at.result c.at.ensures.place c.in-Some.is in
    omega (arith, below, c.are_apart.ensures.few)

pub loop-channel-smaller : goal.loop-channel-smaller
loop-channel-smaller c =
    let below = is_inside c.args.channels.now.inboxes c.loop-channel.count c.in-Some._channel c.at.result c.at.ensures.place c.in-Some.is in
    omega (arith, below)

pub loop-channel-preserved : goal.loop-channel-preserved
loop-channel-preserved c =
    let below = is_inside c.args.channels.now.inboxes c.loop-channel.count c.in-Some._channel c.at.result c.at.ensures.place c.in-Some.is in
    omega (arith, below)

pub returns : goal.returns
returns c =
    let above = is_behind c.args.channels.now.inboxes c.loop-channel.count c.at.result c.at.ensures.place c.in_default.is in
    omega (arith, above, c.loop-channel.invariant)
