use Rattle.std.proofs.Common.{ℕ, refl, subst}
use Rattle.dl_startup.specs.declared.status.Status.TheVariants.{OutOfMemory}
use Rattle.dl_serve.specs.Open.{IsHeard}
use Rattle.dl_daemon.specs.Outside.{outside}
use Rattle.dl_daemon.proofs.Steps.{begun_nothing, begun_ran, unheard_on}
use Rattle.dl_daemon.proofs.program.keep_begun.Goals as goal

pub returns-in-Err : goal.returns-in-Err
returns-in-Err g c =
    let old = outside (g.F.Folder.told c.args.folder.now) (g.N.Net.told c.args.net.now) (g.N.Net.told c.args.users.now) (g.W.Watch.watched c.args.watch.now) in
    begun_nothing g.N.L.Link.told c.args.limits c.args.begun old old c.left_early.result.status OutOfMemory c.left_early.result.left c.left_early.ensures.0 c.left_early.ensures.1 tt

pub returns-in-Ok-listen : goal.returns-in-Ok-listen
returns-in-Ok-listen g c =
    let is = c.in-Ok.ensures in
    let net = g.N.Net.told c.args.net.now in
    let users = g.N.Net.told c.args.users.now in
    let net_now = g.N.Net.told c.listen.new.net in
    let users_now = g.N.Net.told c.listen.new.users in
    begun_ran g.N.L.Link.told c.args.limits c.args.begun c.in-Ok.opened (outside (g.F.Folder.told c.args.folder.now) net users (g.W.Watch.watched c.args.watch.now)) net_now users_now
    (outside (g.F.Folder.told c.keep_opened.new.folder) (g.N.Net.told c.keep_opened.new.net) (g.N.Net.told c.keep_opened.new.users) (g.W.Watch.watched c.keep_opened.new.watch)) c.keep_opened.result.status c.keep_opened.result.left is
    (subst (λ (port : ℕ). IsHeard port net net_now) is.port c.in-Ok-listen.ensures.0) (subst (λ (port : ℕ). IsHeard port users users_now) is.users c.in-Ok-listen.ensures.1)
    c.keep_opened.ensures

pub returns-in-Err-listen : goal.returns-in-Err-listen
returns-in-Err-listen g c =
    let is = c.in-Ok.ensures in
    let old = outside (g.F.Folder.told c.args.folder.now) (g.N.Net.told c.args.net.now) (g.N.Net.told c.args.users.now) (g.W.Watch.watched c.args.watch.now) in
    let new = outside (g.F.Folder.told c.args.folder.now) (g.N.Net.told c.listen.new.net) (g.N.Net.told c.listen.new.users) (g.W.Watch.watched c.args.watch.now) in
    begun_nothing g.N.L.Link.told c.args.limits c.args.begun old new c.left_early-in-Err-listen.result.status c.in-Err-listen.status c.left_early-in-Err-listen.result.left
    c.left_early-in-Err-listen.ensures.0 c.left_early-in-Err-listen.ensures.1
    (unheard_on g.N.L.Link.told c.args.limits c.args.begun c.in-Ok.opened old new c.in-Err-listen.status is c.in-Err-listen.ensures refl refl)
