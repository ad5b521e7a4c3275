use Rattle.std.proofs.Common.{ℕ, refl, subst}
use Rattle.dl_startup.specs.declared.status.Status.TheVariants.{OutOfMemory}
use Rattle.dl_serve.specs.Open.{IsHeard}
use Rattle.dl_serve.specs.Told.{told}
use Rattle.dl_serve.proofs.Steps.{begun_nothing, begun_ran, unheard_on}
use Rattle.dl_serve.proofs.program.serve_begun.Goals as goal

pub returns-in-Err : goal.returns-in-Err
returns-in-Err g c =
    let old = told (g.F.Folder.told c.args.folder.now) (g.N.Net.told c.args.net.now) (g.N.Net.told c.args.users.now) (g.O.Sink.told c.args.out.now) in
    begun_nothing g.N.L.Link.told c.args.begun old old c.left_early.result.status OutOfMemory c.left_early.result.closed c.left_early.ensures.0 c.left_early.ensures.1 refl tt

pub returns-in-Ok-listen : goal.returns-in-Ok-listen
returns-in-Ok-listen g c =
    let is = c.in-Ok.ensures in
    let net = g.N.Net.told c.args.net.now in
    let users = g.N.Net.told c.args.users.now in
    let net_now = g.N.Net.told c.listen.new.net in
    let users_now = g.N.Net.told c.listen.new.users in
    begun_ran g.N.L.Link.told c.args.begun c.in-Ok.opened (told (g.F.Folder.told c.args.folder.now) net users (g.O.Sink.told c.args.out.now)) net_now users_now
    (told (g.F.Folder.told c.serve_opened.new.folder) (g.N.Net.told c.serve_opened.new.net) (g.N.Net.told c.serve_opened.new.users) (g.O.Sink.told c.serve_opened.new.out))
    c.serve_opened.result.status c.serve_opened.result.closed is
    (subst (λ (port : ℕ). IsHeard port net net_now) is.port c.in-Ok-listen.ensures.0) (subst (λ (port : ℕ). IsHeard port users users_now) is.users c.in-Ok-listen.ensures.1)
    c.serve_opened.ensures

pub returns-in-Err-listen : goal.returns-in-Err-listen
returns-in-Err-listen g c =
    let is = c.in-Ok.ensures in
    let old = told (g.F.Folder.told c.args.folder.now) (g.N.Net.told c.args.net.now) (g.N.Net.told c.args.users.now) (g.O.Sink.told c.args.out.now) in
    let new = told (g.F.Folder.told c.args.folder.now) (g.N.Net.told c.listen.new.net) (g.N.Net.told c.listen.new.users) (g.O.Sink.told c.args.out.now) in
    begun_nothing g.N.L.Link.told c.args.begun old new c.left_early-in-Err-listen.result.status c.in-Err-listen.status c.left_early-in-Err-listen.result.closed
    c.left_early-in-Err-listen.ensures.0 c.left_early-in-Err-listen.ensures.1 refl
    (unheard_on g.N.L.Link.told c.args.begun c.in-Ok.opened old new c.in-Err-listen.status is c.in-Err-listen.ensures refl)
