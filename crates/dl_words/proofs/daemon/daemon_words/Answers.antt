use Rattle.std.proofs.Common.{◌≡◌, map, string_bytes, ◌∙◌}
use Rattle.clap.specs.Matches.{found_of}
use Rattle.clap.specs.Simple.{app_of}
use Rattle.clap.specs.Walk.{rows_of}
use Rattle.dl_words.specs.Daemon.{daemon_in, daemon_said}
use Rattle.dl_words.proofs.Own.{daemon_port, daemon_status, daemon_users}
use Rattle.dl_words.proofs.Said.{daemon_refused, daemon_taken}
use Rattle.dl_words.proofs.daemon.daemon_words.Goals as goal

pub returns-in-Err-clause-said : goal.returns-in-Err-clause-said
returns-in-Err-clause-said c =
    daemon_refused (app_of c.in-Ok.command) (map string_bytes c.args.words.now) c.in-Err.fault c.in-Ok.ensures c.in-Err.ensures.parses

pub given_number-status-requires : goal.given_number-status-requires
given_number-status-requires c = record { given = daemon_status c.in-Ok.command c.in-Ok-parse.matches c.in-Ok-parse.ensures.from c.in-Ok.ensures }

pub number-requires-clause-given : goal.number-requires-clause-given
number-requires-clause-given c = daemon_port c.in-Ok.command c.in-Ok-parse.matches c.in-Ok-parse.ensures.from c.in-Ok.ensures

pub number-requires-2-clause-given : goal.number-requires-2-clause-given
number-requires-2-clause-given c = daemon_users c.in-Ok.command c.in-Ok-parse.matches c.in-Ok-parse.ensures.from c.in-Ok.ensures

pub returns-clause-said : goal.returns-clause-said
returns-clause-said c =
    let said : daemon_said (record { conf = c.text.result; port = c.number.result; users = c.number-2.result; status = c.seconds.result }) ≡ daemon_in (rows_of (found_of c.in-Ok-parse.matches)) =
    (λ i. record { conf = c.text.ensures i; port = c.number.ensures.number i; users = c.number-2.ensures.number i; status = (c.seconds.ensures ∙ c.given_number-status.ensures.number) i }) in
    daemon_taken (app_of c.in-Ok.command) (map string_bytes c.args.words.now) c.in-Ok-parse.matches
    (daemon_said (record { conf = c.text.result; port = c.number.result; users = c.number-2.result; status = c.seconds.result })) c.in-Ok.ensures c.in-Ok-parse.ensures.parses said
