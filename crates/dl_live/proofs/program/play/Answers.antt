use Rattle.std.proofs.Common.{ap, ◌∙◌}
use Rattle.dl_core.proofs.LeftFiles.{leaves_both}
use Rattle.dl_live.specs.declared.players.Players.{Players}
use Rattle.dl_live.proofs.program.play.Goals as goal

pub play_on-requires-clause-under_way : goal.play_on-requires-clause-under_way
play_on-requires-clause-under_way g c κs within =
    record { first = c.args.players; net = g.N.Net.told c.args.net.now; folder = g.F.Folder.told c.args.folder.now; can = c.requires.can; out = c.in-Ok.ensures.out }

pub returns-in-Ok-clause-conf : goal.returns-in-Ok-clause-conf
returns-in-Ok-clause-conf g c = (
  c.play_on.ensures.conf.0 ∙ ap (λ (p : Players g.row.N-L.Denot). p.conf) c.in-Ok.ensures.out.rest,
  c.play_on.ensures.conf.1 ∙ ap (λ (p : Players g.row.N-L.Denot). p.filters) c.in-Ok.ensures.out.rest,
)

pub returns-in-Ok-clause-played : goal.returns-in-Ok-clause-played
returns-in-Ok-clause-played g c = c.play_on.ensures.played c.args.players (g.N.Net.told c.args.net.now) (g.F.Folder.told c.args.folder.now) c.requires.can c.in-Ok.ensures.out

pub returns-in-Ok-clause-leaves : goal.returns-in-Ok-clause-leaves
returns-in-Ok-clause-leaves g c = (
  c.play_on.ensures.leaves.0,
  leaves_both c.args.players.daemon.core c.set_out.new.players.daemon.core c.play_on.ensures.leaves.0 (g.F.Folder.told c.args.folder.now) (g.F.Folder.told c.set_out.new.folder)
      (g.F.Folder.told c.play_on.new.folder) c.set_out.ensures.leaves c.play_on.ensures.leaves.1,
)

pub returns-in-Err-clause-leaves : goal.returns-in-Err-clause-leaves
returns-in-Err-clause-leaves g c = (c.set_out.new.players.daemon.core, c.set_out.ensures.leaves)
