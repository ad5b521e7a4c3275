use Rattle.std.proofs.Common.{ap, ◌∙◌}
use Rattle.dl_core.proofs.LeftFiles.{leaves_both}
use Rattle.dl_loop.specs.Scene.{scene}
use Rattle.dl_live.proofs.PlayedSteps.{few_books_now, few_now, has_played, made_now, none_missing_now, room_now, whole_now}
use Rattle.dl_live.proofs.program.play_on.Goals as goal

pub gather-gathered-requires-clause-greeted : goal.gather-gathered-requires-clause-greeted
gather-gathered-requires-clause-greeted g c = c.requires.under_way.out.greeted

pub beside-late-requires-clause-greeted : goal.beside-late-requires-clause-greeted
beside-late-requires-clause-greeted g c κs within = c.gather-gathered.ensures.rounds.goes.greeted ∙ c.requires.under_way.out.greeted

pub stop-requires-clause-greeted : goal.stop-requires-clause-greeted
stop-requires-clause-greeted g c = c.beside-late.ensures.goes.goes.greeted ∙ c.gather-gathered.ensures.rounds.goes.greeted ∙ c.requires.under_way.out.greeted

pub beside-late-requires-clause-few : goal.beside-late-requires-clause-few
beside-late-requires-clause-few g c κs within = few_books_now c.requires.under_way.first c.args.players c.args.launched c.requires.under_way.net (g.N.Net.told c.args.net.now) c.requires.under_way.folder (g.F.Folder.told c.args.folder.now)
    c.requires.under_way.can c.requires.under_way.out

pub beside-late-requires-clause-room : goal.beside-late-requires-clause-room
beside-late-requires-clause-room g c κs within = room_now c.requires.under_way.first c.args.players c.args.launched c.requires.under_way.net (g.N.Net.told c.args.net.now) c.requires.under_way.folder (g.F.Folder.told c.args.folder.now)
    c.requires.under_way.can c.requires.under_way.out

pub stop-requires-clause-made : goal.stop-requires-clause-made
stop-requires-clause-made g c =
    made_now c.requires.under_way.first c.args.players c.args.launched c.requires.under_way.net (g.N.Net.told c.args.net.now) c.requires.under_way.folder (g.F.Folder.told c.args.folder.now) c.requires.under_way.can c.requires.under_way.out
    (scene c.gather-gathered.new.daemon (g.F.Folder.told c.gather-gathered.new.folder)) (scene c.beside-late.new.daemon (g.F.Folder.told c.beside-late.new.folder))
    (g.N.Net.told c.gather-gathered.new.net) (g.N.Net.told c.beside-late.new.net) c.gather-gathered.ensures.rounds.goes c.beside-late.ensures.goes.goes c.beside-late.new.books c.beside-late.ensures.played

pub stop-requires-clause-whole : goal.stop-requires-clause-whole
stop-requires-clause-whole g c =
    whole_now c.requires.under_way.first c.args.players c.args.launched c.requires.under_way.net (g.N.Net.told c.args.net.now) c.requires.under_way.folder (g.F.Folder.told c.args.folder.now) c.requires.under_way.can c.requires.under_way.out
    (scene c.gather-gathered.new.daemon (g.F.Folder.told c.gather-gathered.new.folder)) (scene c.beside-late.new.daemon (g.F.Folder.told c.beside-late.new.folder))
    (g.N.Net.told c.gather-gathered.new.net) (g.N.Net.told c.beside-late.new.net) c.gather-gathered.ensures.rounds.goes c.beside-late.ensures.goes.goes c.beside-late.new.books c.beside-late.ensures.played

pub stop-requires-clause-few : goal.stop-requires-clause-few
stop-requires-clause-few g c =
    few_now c.requires.under_way.first c.args.players c.args.launched c.requires.under_way.net (g.N.Net.told c.args.net.now) c.requires.under_way.folder (g.F.Folder.told c.args.folder.now) c.requires.under_way.can c.requires.under_way.out
    (scene c.gather-gathered.new.daemon (g.F.Folder.told c.gather-gathered.new.folder)) (scene c.beside-late.new.daemon (g.F.Folder.told c.beside-late.new.folder))
    (g.N.Net.told c.gather-gathered.new.net) (g.N.Net.told c.beside-late.new.net) c.gather-gathered.ensures.rounds.goes c.beside-late.ensures.goes.goes c.beside-late.new.books c.beside-late.ensures.played

pub unreachable-requires : goal.unreachable-requires
unreachable-requires g c =
    none_missing_now c.requires.under_way.first c.args.players c.args.launched c.requires.under_way.net (g.N.Net.told c.args.net.now) c.requires.under_way.folder (g.F.Folder.told c.args.folder.now) c.requires.under_way.can c.requires.under_way.out
    (scene c.gather-gathered.new.daemon (g.F.Folder.told c.gather-gathered.new.folder)) (scene c.beside-late.new.daemon (g.F.Folder.told c.beside-late.new.folder))
    (g.N.Net.told c.gather-gathered.new.net) (g.N.Net.told c.beside-late.new.net) c.gather-gathered.ensures.rounds.goes c.beside-late.ensures.goes.goes c.beside-late.new.books c.beside-late.ensures.played
    c.in-Err.ensures.missing

pub returns-clause-played : goal.returns-clause-played
returns-clause-played g c = λ first before left can out.
    has_played first c.args.players c.args.launched before (g.N.Net.told c.args.net.now) left (g.F.Folder.told c.args.folder.now) can out
    (scene c.gather-gathered.new.daemon (g.F.Folder.told c.gather-gathered.new.folder)) (scene c.beside-late.new.daemon (g.F.Folder.told c.beside-late.new.folder))
    (g.N.Net.told c.gather-gathered.new.net) (g.N.Net.told c.beside-late.new.net) c.gather-gathered.ensures.rounds.goes c.beside-late.ensures.goes.goes c.beside-late.new.books c.beside-late.ensures.played
    g.N.L.Link.told c.gather-gathered.result c.gather-gathered.ensures c.beside-late.ensures.goes c.beside-late.result c.beside-late.ensures.wanted c.in-Ok.account c.in-Ok.links (g.F.Folder.told c.stop.new.folder) c.in-Ok.ensures.stops
    c.all.result.now c.all.ensures c.either-failed.result c.either-failed.ensures c.either-wanted.result c.either-wanted.ensures (g.N.Net.told c.stop.new.net) (ap (λ n. g.N.Net.told n) c.stop.ensures.net)

pub returns-clause-leaves : goal.returns-clause-leaves
returns-clause-leaves g c =
    let now = c.in-Ok.ensures.stops.stopped in
    let first = g.F.Folder.told c.args.folder.now in
    let gathered = g.F.Folder.told c.gather-gathered.new.folder in
    let rounded = g.F.Folder.told c.beside-late.new.folder in
    let last = g.F.Folder.told c.stop.new.folder in (
      now.last_core,
      leaves_both c.args.players.daemon.core c.beside-late.new.daemon.core now.last_core first rounded last
          (leaves_both c.args.players.daemon.core c.gather-gathered.new.daemon.core c.beside-late.new.daemon.core first gathered rounded c.gather-gathered.ensures.rounds.goes.later.leaves
          c.beside-late.ensures.goes.goes.later.leaves)
          now.leaves,
    )
