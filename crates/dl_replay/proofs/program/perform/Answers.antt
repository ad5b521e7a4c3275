use Rattle.std.specs.Prelude.{nat_lt}
use Rattle.dl_outside.specs.Told.{FolderTold, SinkTold}
use Rattle.dl_replay.proofs.Endings.{ended}
use Rattle.dl_replay.proofs.program.perform.Goals as goal

pub returns-clause-ends : goal.returns-clause-ends
returns-clause-ends g c =
    let out : SinkTold = g.O.Sink.told c.args.out.now in
    let out_now : SinkTold = g.O.Sink.told c.finish.new.out in
    let old : FolderTold = g.F.Folder.told c.args.folder.now in
    let new : FolderTold = g.F.Folder.told c.play_start.new.folder in
    ended {start = c.args.start} {old = old} {new = new} c.args.task c.in-Ok.ensures.plays.0.0 c.in-Ok.played out out_now (nat_lt c.faults-before.result c.faults.result) c.finish.result c.in-Ok.ensures.plays.0.1 c.in-Ok.ensures.plays.1
    (λ i. nat_lt (c.faults-before.ensures i) (c.faults.ensures i)) c.finish.ensures
