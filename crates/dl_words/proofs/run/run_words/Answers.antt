use Rattle.std.proofs.Common.{◌≡◌, Err, map, string_bytes, subst, sym}
use Rattle.clap.specs.Matches.{found_of}
use Rattle.clap.specs.Simple.{app_of}
use Rattle.clap.specs.Walk.{rows_of}
use Rattle.dl_words.specs.Run.{SaysRun, run_in, run_said}
use Rattle.dl_words.specs.declared.parse.WordsFault.{WordsFault}
use Rattle.dl_words.proofs.Own.{run_port}
use Rattle.dl_words.proofs.Said.{run_refused, run_taken}
use Rattle.dl_words.proofs.run.run_words.Goals as goal

pub returns-in-Err-clause-said : goal.returns-in-Err-clause-said
returns-in-Err-clause-said c =
    subst (λ (fault : WordsFault). SaysRun (map string_bytes c.args.words.now) (Err fault)) (sym c.plain.ensures)
    (run_refused (app_of c.in-Ok.command) (map string_bytes c.args.words.now) c.in-Err.fault c.in-Ok.ensures c.in-Err.ensures.parses)

pub number-requires-clause-given : goal.number-requires-clause-given
number-requires-clause-given c = run_port c.in-Ok.command c.in-Ok-parse.matches c.in-Ok-parse.ensures.from c.in-Ok.ensures

pub returns-clause-said : goal.returns-clause-said
returns-clause-said c =
    let said : run_said (record { conf = c.text.result; port = c.number.result; scenario = c.text-2.result }) ≡ run_in (rows_of (found_of c.in-Ok-parse.matches)) =
    (λ i. record { conf = c.text.ensures i; port = c.number.ensures.number i; scenario = c.text-2.ensures i }) in
    run_taken (app_of c.in-Ok.command) (map string_bytes c.args.words.now) c.in-Ok-parse.matches
    (run_said (record { conf = c.text.result; port = c.number.result; scenario = c.text-2.result })) c.in-Ok.ensures c.in-Ok-parse.ensures.parses said
