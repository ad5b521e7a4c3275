-- The commands of the programs, as `clap` has them.
use Rattle.std.specs.Prelude.{ℕ, pos, true, Some, codes}
use Rattle.clap.specs.Simple.{App, new_app, new_rule, on_top, with_rule}
use Rattle.clap.specs.Walk.{Rule, Text}
use Rattle.clap.specs.declared.builder.value_parser.ValueParser.TheVariants as parser

-- the greatest port, and the greatest number of rounds
abbrev pub port_limit : ℕ
port_limit = 65535

abbrev pub round_limit : ℕ
round_limit = 1000000000

-- the greatest number of seconds
abbrev pub second_limit : ℕ
second_limit = 4294967295

-- the option `--NAME VALUE`
abbrev pub option : Text → Rule
option name = record (new_rule name) { long = Some name }

-- the option `--NAME N`, a number from 1 to this one
abbrev pub number_option : Text → ℕ → Rule
number_option name most = record (option name) { parser = Some (parser.Signed (pos 1) (pos most)) }

-- the name of a scenario, which must be there
abbrev pub scenario : Rule
scenario = record (new_rule (codes "SCENARIO")) { required = true }

-- a command without words for help
abbrev pub plain_command : Text → App
plain_command name = on_top (λ shape. record shape { disable_help_flag = true }) (new_app name)

-- a command with `[--conf NAME] [--port N]`
abbrev pub with_common : App → App
with_common command = with_rule (with_rule command (option (codes "conf"))) (number_option (codes "port") port_limit)

-- `dlt_run [--conf NAME] [--port N] SCENARIO`
abbrev pub run_command : App
run_command = with_rule (with_common (plain_command (codes "dlt_run"))) scenario

-- `dlt_run [--conf NAME] [--port N] [--users N] [--rounds N]`, for the words from `--serve` on
abbrev pub serve_command : App
serve_command = with_rule (with_rule (with_common (plain_command (codes "dlt_run"))) (number_option (codes "users") port_limit)) (number_option (codes "rounds") round_limit)

-- `dlt_daemon [--conf NAME] [--port N] [--users N] [--status SECONDS]`, with `--help` and `--version`
abbrev pub daemon_command : App
daemon_command =
    with_rule (with_rule (with_common (on_top (λ shape. record shape { has_version = true }) (new_app (codes "dlt_daemon")))) (number_option (codes "users") port_limit))
    (number_option (codes "status") second_limit)
