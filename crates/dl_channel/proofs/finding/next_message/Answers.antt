use Rattle.std.proofs.Common.{◌++◌}
use Rattle.std.proofs.lemmas.List.{take_rest}
use Rattle.dl_channel.proofs.Looking.{finds_bad, finds_no_memory, goes_on}
use Rattle.dl_channel.proofs.finding.next_message.Goals as goal

pub loop-msg-preserved : goal.loop-msg-preserved
loop-msg-preserved c =
    goes_on (c.args.cutter.now.unread ++ c.args.piece.now) c.args.piece.now c.loop-msg.taken c.loop-msg.cutter c.next.new.self c.loop-msg.invariant c.in-NeedMore-2.ensures _ c.feed-taken.result c.feed-taken.new.self
    (take_rest c.args.piece.now c.loop-msg.taken) c.feed-taken.ensures

pub returns-in-Bad-clause-finds : goal.returns-in-Bad-clause-finds
returns-in-Bad-clause-finds c =
    finds_bad (c.args.cutter.now.unread ++ c.args.piece.now) c.args.piece.now c.loop-msg.taken c.loop-msg.cutter c.next.new.self c.loop-msg.invariant c.in-Bad.fault c.in-Bad.ensures

pub returns-in-OutOfMemory-clause-finds : goal.returns-in-OutOfMemory-clause-finds
returns-in-OutOfMemory-clause-finds c =
    finds_no_memory (c.args.cutter.now.unread ++ c.args.piece.now) c.args.piece.now c.loop-msg.taken c.loop-msg.cutter c.next.new.self c.loop-msg.invariant c.in-OutOfMemory.ensures
