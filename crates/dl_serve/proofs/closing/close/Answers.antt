use Rattle.std.proofs.Common.{refl, true}
use Rattle.dl_server.specs.State.{seen}
use Rattle.dl_serve.specs.Rounds.{kept}
use Rattle.dl_serve.proofs.closing.close.Goals as goal

pub returns-in-Ok : goal.returns-in-Ok
returns-in-Ok g c = (
  seen g.L.Link.told kept true (g.F.Folder.told c.close.new.folder) c.close.new.self,
  refl,
  c.in-Ok.ensures.closed,
  c.leave.ensures (g.F.Folder.told c.close.new.folder),
)
