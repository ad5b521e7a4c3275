use Rattle.std.proofs.Common.{Option, refl, ap, subst, ◌∙◌, false}
use Rattle.dl_bytes.specs.declared.conf.Conf.{Conf}
use Rattle.dl_server.specs.State.{seen}
use Rattle.dl_daemon.specs.Renewing.{Renews}
use Rattle.dl_daemon.specs.declared.rounds.Stop.{Stop}
use Rattle.dl_daemon.specs.Rounds.{noted}
use Rattle.dl_daemon.specs.Watching.{asked_once}
use Rattle.dl_daemon.proofs.AskedAgain.{server_at, server_renewed}
use Rattle.dl_daemon.proofs.MoreRounds.{no_round, one_round_more}
use Rattle.dl_daemon.proofs.Renewals.{renewed_so}
use Rattle.dl_daemon.proofs.rounds.go_round.Goals as goal

pub loop-round-init : goal.loop-round-init
loop-round-init g c = record {
  rounds = no_round g.N.L.Link.told c.args.renewal.now.conf c.args.renewal.now.tries (g.N.Net.told c.args.net.now) (g.N.Net.told c.args.users.now)
      (g.W.Watch.watched c.args.watch.now) (seen g.N.L.Link.told noted false (g.F.Folder.told c.args.folder.now) c.args.server.now);
  server = c.requires.server;
  conf = refl;
}

pub round-requires : goal.round-requires
round-requires g c =
    let folder = g.F.Folder.told c.loop-round.folder in
    let folder_now = g.F.Folder.told c.renew-begun.new.folder in
    let conf = c.loop-round.renewal.conf in
    let so = renewed_so conf c.now-moment.result c.renew-begun.result c.loop-round.server.core c.renew-begun.new.server.core folder folder_now c.renew-begun.ensures.core c.loop-round.renewal.tries
    c.renew-begun.new.self.tries c.renew-begun.ensures.renews in
    let renewed = server_renewed g.N.L.Link.told conf c.now-moment.result c.renew-begun.result c.loop-round.server c.renew-begun.new.server folder folder_now c.renew-begun.ensures.rest so c.loop-round.invariant.server in
    record { server = server_at g.N.L.Link.told c.renew-begun.new.server c.ask_again.new.server c.ask_again.ensures renewed }

pub loop-round-preserved : goal.loop-round-preserved
loop-round-preserved g c =
    let told = g.N.L.Link.told in
    let folder = g.F.Folder.told c.loop-round.folder in
    let folder_now = g.F.Folder.told c.renew-begun.new.folder in
    let conf = c.loop-round.renewal.conf in
    let so = renewed_so conf c.now-moment.result c.renew-begun.result c.loop-round.server.core c.renew-begun.new.server.core folder folder_now c.renew-begun.ensures.core c.loop-round.renewal.tries
    c.renew-begun.new.self.tries c.renew-begun.ensures.renews in
    let renewed = server_renewed g.N.L.Link.told conf c.now-moment.result c.renew-begun.result c.loop-round.server c.renew-begun.new.server folder folder_now c.renew-begun.ensures.rest so c.loop-round.invariant.server in
    let renews = subst (λ (k : Conf). Renews k c.loop-round.server.core.ecu c.now-moment.result c.renew-begun.result c.loop-round.renewal.tries c.renew-begun.new.self.tries c.loop-round.server.core.trace c.renew-begun.new.server.core.trace folder folder_now)
    c.loop-round.invariant.conf c.renew-begun.ensures.renews in record {
      rounds = one_round_more told c.args.renewal.now.conf c.args.renewal.now.tries c.loop-round.renewal.tries c.renew-begun.new.self.tries (g.N.Net.told c.args.net.now) (g.N.Net.told c.loop-round.net)
          (g.N.Net.told c.round.new.net) (g.N.Net.told c.args.users.now) (g.N.Net.told c.loop-round.users) (g.N.Net.told c.round.new.users)
          (g.W.Watch.watched c.args.watch.now) (g.W.Watch.watched c.loop-round.watch) (g.W.Watch.watched c.stops.new.watch) (seen told noted false (g.F.Folder.told c.args.folder.now) c.args.server.now) folder folder_now c.loop-round.server c.renew-begun.new.server c.ask_again.new.server
          (seen told noted false (g.F.Folder.told c.round.new.folder) c.round.new.self) c.now-moment.result c.renew-begun.result c.loop-round.invariant.rounds (c.stops.ensures.room c.in-None-stops.is) (c.stops.ensures.watched ∙ ap (λ (o : Option Stop). asked_once o (g.W.Watch.watched c.loop-round.watch)) c.in-None-stops.is) renews
          c.renew-begun.ensures.core c.renew-begun.ensures.rest renewed c.ask_again.ensures c.round.ensures.round.0;
      server = c.round.ensures.server;
      conf = c.renew-begun.ensures.conf ∙ c.loop-round.invariant.conf;
    }
