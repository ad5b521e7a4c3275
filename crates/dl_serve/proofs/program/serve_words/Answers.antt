use Rattle.std.proofs.Common.{map, refl}
use Rattle.std.specs.String.{string_bytes}
use Rattle.dl_outside.specs.Told.{FolderTold}
use Rattle.dl_serve.specs.Told.{told}
use Rattle.dl_serve.proofs.OpenedServers.{made_trace}
use Rattle.dl_serve.proofs.Steps.{began, refused, refused_nothing}
use Rattle.dl_serve.proofs.program.serve_words.Goals as goal

pub serve_begun-requires : goal.serve_begun-requires
serve_begun-requires g c = made_trace c.in-Ok.begun.conf (g.F.Folder.told c.args.folder.now).files c.in-Ok.begun.trace c.in-Ok.ensures.2.trace

pub returns-in-Ok : goal.returns-in-Ok
returns-in-Ok g c =
    let begins = c.in-Ok.ensures in
    let first : FolderTold = g.F.Folder.told c.args.folder.now in
    let between : FolderTold = g.F.Folder.told c.begin.new.folder in
    let net = g.N.Net.told c.args.net.now in
    let users = g.N.Net.told c.args.users.now in
    let out = g.O.Sink.told c.args.out.now in
    let new = told (g.F.Folder.told c.serve_begun.new.folder) (g.N.Net.told c.serve_begun.new.net) (g.N.Net.told c.serve_begun.new.users) (g.O.Sink.told c.serve_begun.new.out) in
    began g.N.L.Link.told (map string_bytes c.args.words.now) begins.0 c.in-Ok.begun (told first net users out) between new c.serve_begun.result.status c.serve_begun.result.closed
    (λ full left has. c.what_was_served_is_its_journal.ensures c.in-Ok.begun (told between net users out) new full left first begins.2.trace begins.2.quiet has)
    (λ full left has. c.what_programs_sent_is_admitted.ensures c.in-Ok.begun (told between net users out) new full left has)
    (λ full left has. c.how_programs_ended.ensures c.in-Ok.begun (told between net users out) new full left has)
    (λ full left has. c.how_clients_went.ensures c.in-Ok.begun (told between net users out) new full left first begins.2.trace has)
    (λ full left has. c.what_programs_took.ensures c.in-Ok.begun (told between net users out) new full left first begins.2.trace has)
    (λ full left has. c.why_links_were_dropped.ensures c.in-Ok.begun (told between net users out) new full left first begins.2.trace has)
    (λ full left last has. c.who_was_handed_out.ensures c.in-Ok.begun (told between net users out) new full left last has)
    (λ full left has. c.how_each_round_serves.ensures c.in-Ok.begun (told between net users out) new full left first begins.2.trace has)
    begins.1 begins.2 c.serve_begun.ensures

pub returns-in-Err : goal.returns-in-Err
returns-in-Err g c =
    let said = map string_bytes c.args.words.now in
    let old = told (g.F.Folder.told c.args.folder.now) (g.N.Net.told c.args.net.now) (g.N.Net.told c.args.users.now) (g.O.Sink.told c.args.out.now) in
    let new = told (g.F.Folder.told c.begin.new.folder) (g.N.Net.told c.args.net.now) (g.N.Net.told c.args.users.now) (g.O.Sink.told c.args.out.now) in
    refused_nothing g.N.L.Link.told said old new c.left_early.result.status c.in-Err.status c.left_early.result.closed c.left_early.ensures.0 c.left_early.ensures.1 refl
    (refused g.N.L.Link.told said old new c.in-Err.status c.in-Err.ensures refl refl)
