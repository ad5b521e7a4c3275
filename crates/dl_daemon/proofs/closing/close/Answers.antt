use Rattle.std.proofs.Common.{refl, false}
use Rattle.dl_server.specs.State.{seen}
use Rattle.dl_daemon.specs.Left.{closed_of}
use Rattle.dl_daemon.specs.Rounds.{noted}
use Rattle.dl_daemon.proofs.LeftServers.{is_left}
use Rattle.dl_daemon.proofs.closing.close.Goals as goal

pub returns-in-Ok : goal.returns-in-Ok
returns-in-Ok g c = (
  closed_of c.close.new.self,
  c.leave.ensures,
  (
    seen g.L.Link.told noted false (g.F.Folder.told c.close.new.folder) c.close.new.self,
    refl,
    c.in-Ok.ensures.closed,
    is_left g.L.Link.told (g.F.Folder.told c.close.new.folder) c.close.new.self,
  ),
)
