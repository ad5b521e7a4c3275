use Rattle.std.proofs.Common.{◌≡◌, Err, map, string_bytes, subst, sym}
use Rattle.clap.specs.Matches.{found_of}
use Rattle.clap.specs.Simple.{app_of}
use Rattle.clap.specs.Walk.{rows_of}
use Rattle.dl_words.specs.Serve.{SaysOptions, serve_in, serve_said}
use Rattle.dl_words.specs.declared.parse.WordsFault.{WordsFault}
use Rattle.dl_words.proofs.Own.{serve_port, serve_rounds, serve_users}
use Rattle.dl_words.proofs.Said.{options_refused, options_taken}
use Rattle.dl_words.proofs.serve.options.Goals as goal

pub returns-in-Err-clause-said : goal.returns-in-Err-clause-said
returns-in-Err-clause-said c =
    subst (λ (fault : WordsFault). SaysOptions (map string_bytes c.args.words.now) (Err fault)) (sym c.plain.ensures)
    (options_refused (app_of c.in-Ok.command) (map string_bytes c.args.words.now) c.in-Err.fault c.in-Ok.ensures c.in-Err.ensures.parses)

pub number-requires-clause-given : goal.number-requires-clause-given
number-requires-clause-given c = serve_port c.in-Ok.command c.in-Ok-parse.matches c.in-Ok-parse.ensures.from c.in-Ok.ensures

pub number-requires-2-clause-given : goal.number-requires-2-clause-given
number-requires-2-clause-given c = serve_users c.in-Ok.command c.in-Ok-parse.matches c.in-Ok-parse.ensures.from c.in-Ok.ensures

pub number-requires-3-clause-given : goal.number-requires-3-clause-given
number-requires-3-clause-given c = serve_rounds c.in-Ok.command c.in-Ok-parse.matches c.in-Ok-parse.ensures.from c.in-Ok.ensures

pub returns-clause-said : goal.returns-clause-said
returns-clause-said c =
    let said : serve_said (record { conf = c.text.result; port = c.number.result; users = c.number-2.result; rounds = c.number-3.result }) ≡ serve_in (rows_of (found_of c.in-Ok-parse.matches)) =
    (λ i. record { conf = c.text.ensures i; port = c.number.ensures.number i; users = c.number-2.ensures.number i; rounds = c.number-3.ensures.number i }) in
    options_taken (app_of c.in-Ok.command) (map string_bytes c.args.words.now) c.in-Ok-parse.matches
    (serve_said (record { conf = c.text.result; port = c.number.result; users = c.number-2.result; rounds = c.number-3.result })) c.in-Ok.ensures c.in-Ok-parse.ensures.parses said
