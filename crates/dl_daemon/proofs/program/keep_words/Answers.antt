use Rattle.std.proofs.Common.{map, Option, refl, sym, ap, subst, ◌∙◌}
use Rattle.std.specs.String.{string_bytes}
use Rattle.dl_outside.specs.Told.{FolderTold}
use Rattle.dl_words.specs.Daemon.{Daemon, daemon_said}
use Rattle.dl_serve.proofs.OpenedServers.{made_trace}
use Rattle.dl_daemon.specs.declared.watch.Watched.{Watched}
use Rattle.dl_daemon.specs.Outside.{outside}
use Rattle.dl_daemon.specs.Program.{EndsBegun}
use Rattle.dl_daemon.specs.Watching.{told_for, told_of}
use Rattle.dl_daemon.proofs.Steps.{began, refused, refused_nothing, unasked, unset, untold}
use Rattle.dl_daemon.proofs.program.keep_words.Goals as goal

pub keep_begun-requires : goal.keep_begun-requires
keep_begun-requires g c = made_trace c.in-Ok-begin.begun.conf (g.F.Folder.told c.args.folder.now).files c.in-Ok-begin.begun.trace c.in-Ok-begin.ensures.trace

pub returns-in-Err : goal.returns-in-Err
returns-in-Err g c =
    let said = map string_bytes c.args.words.now in
    let old = outside (g.F.Folder.told c.args.folder.now) (g.N.Net.told c.args.net.now) (g.N.Net.told c.args.users.now) (g.W.Watch.watched c.args.watch.now) in
    refused_nothing g.N.L.Link.told said old old c.left_early.result.status c.in-Err.status c.left_early.result.left c.left_early.ensures.0 c.left_early.ensures.1
    (refused g.N.L.Link.told said old old c.in-Err.status (unasked said old.folder c.in-Err.status c.in-Err.ensures) refl refl (untold said old.watch c.in-Err.status c.in-Err.ensures))

pub returns-in-Ok-begin : goal.returns-in-Ok-begin
returns-in-Ok-begin g c =
    let first : FolderTold = g.F.Folder.told c.args.folder.now in
    let between : FolderTold = g.F.Folder.told c.begin-2.new.folder in
    let net = g.N.Net.told c.args.net.now in
    let users = g.N.Net.told c.args.users.now in
    let new = outside (g.F.Folder.told c.keep_begun.new.folder) (g.N.Net.told c.keep_begun.new.net) (g.N.Net.told c.keep_begun.new.users) (g.W.Watch.watched c.keep_begun.new.watch) in
    let watch = g.W.Watch.watched c.args.watch.now in
    let told = told_of c.in-Ok.asked.status watch in
    let start = c.in-Ok-begin.ensures in
    began g.N.L.Link.told (map string_bytes c.args.words.now) (daemon_said c.in-Ok.asked) c.in-Ok-begin.begun (outside first net users watch) between new c.keep_begun.result.status c.keep_begun.result.left
    c.of_daemon.result c.of_daemon.ensures
    (λ why closed has. c.what_was_kept_is_its_journal.ensures c.of_daemon.result c.in-Ok-begin.begun (outside between net users told) new why closed first start.trace start.quiet has)
    (λ why closed has. c.what_programs_sent_is_admitted.ensures c.of_daemon.result c.in-Ok-begin.begun (outside between net users told) new why closed has)
    (λ why closed has. c.how_programs_ended.ensures c.of_daemon.result c.in-Ok-begin.begun (outside between net users told) new why closed has)
    (λ why closed has. c.how_clients_went.ensures c.of_daemon.result c.in-Ok-begin.begun (outside between net users told) new why closed first start.trace has)
    (λ why closed has. c.what_programs_took.ensures c.of_daemon.result c.in-Ok-begin.begun (outside between net users told) new why closed first start.trace has)
    (λ why closed has. c.how_each_round_serves.ensures c.of_daemon.result c.in-Ok-begin.begun (outside between net users told) new why closed first start.trace has)
    (λ why closed has. c.why_links_were_dropped.ensures c.in-Ok-begin.begun (outside between net users told) new why closed has)
    c.in-Ok.ensures start
    (subst (λ (w : Watched). EndsBegun g.N.L.Link.told c.of_daemon.result c.in-Ok-begin.begun (outside between net users w) new c.keep_begun.result.status c.keep_begun.result.left) c.begin.ensures c.keep_begun.ensures)

pub returns-in-Err-begin : goal.returns-in-Err-begin
returns-in-Err-begin g c =
    let said = map string_bytes c.args.words.now in
    let old = outside (g.F.Folder.told c.args.folder.now) (g.N.Net.told c.args.net.now) (g.N.Net.told c.args.users.now) (g.W.Watch.watched c.args.watch.now) in
    let new = outside (g.F.Folder.told c.begin-2.new.folder) (g.N.Net.told c.args.net.now) (g.N.Net.told c.args.users.now) (g.W.Watch.watched c.begin.new.self) in
    refused_nothing g.N.L.Link.told said old new c.left_early-in-Err-begin.result.status c.in-Err-begin.status c.left_early-in-Err-begin.result.left c.left_early-in-Err-begin.ensures.0
    c.left_early-in-Err-begin.ensures.1
    (refused g.N.L.Link.told said old new c.in-Err-begin.status (unset said (daemon_said c.in-Ok.asked) old.folder new.folder c.in-Err-begin.status c.in-Ok.ensures c.in-Err-begin.ensures) refl refl
    (λ _. c.begin.ensures ∙ ap (λ (o : Option Daemon). told_for o old.watch) (sym c.in-Ok.ensures)))
