-- The numbers of the commands, which their options' parsers accepted.
use Rattle.std.proofs.Common.{◌≡◌, true, false, refl}
use Rattle.std.specs.Prelude.{codes}
use Rattle.clap.specs.Built.{IsParsedFrom}
use Rattle.clap.specs.Matches.{first_value, found_of}
use Rattle.clap.specs.Simple.{app_of}
use Rattle.clap.specs.declared.builder.command.Command.{Command}
use Rattle.clap.specs.declared.parser.matches.ArgMatches.{ArgMatches}
use Rattle.dl_words.specs.Command.{daemon_command, port_limit, round_limit, run_command, second_limit, serve_command}
use Rattle.dl_words.specs.Parse.{IsGivenUpTo}
use Rattle.dl_words.proofs.Accepted.{number_given}

never : {A : Type 0} → false ≡ true → A
never bad = cc

pub run_port : (command : Command) (m : ArgMatches) → IsParsedFrom command m → app_of command ≡ run_command → IsGivenUpTo port_limit (first_value (found_of m) (codes "port"))
run_port command m p is =
    number_given command m p run_command (codes "port") port_limit is refl (record { named = refl; not_help = refl; not_version = refl })
    ((λ e. never e), ((λ e. refl), ((λ e. never e), tt)))

pub serve_port : (command : Command) (m : ArgMatches) → IsParsedFrom command m → app_of command ≡ serve_command → IsGivenUpTo port_limit (first_value (found_of m) (codes "port"))
serve_port command m p is =
    number_given command m p serve_command (codes "port") port_limit is refl (record { named = refl; not_help = refl; not_version = refl })
    ((λ e. never e), ((λ e. refl), ((λ e. never e), ((λ e. never e), tt))))

pub serve_users : (command : Command) (m : ArgMatches) → IsParsedFrom command m → app_of command ≡ serve_command → IsGivenUpTo port_limit (first_value (found_of m) (codes "users"))
serve_users command m p is =
    number_given command m p serve_command (codes "users") port_limit is refl (record { named = refl; not_help = refl; not_version = refl })
    ((λ e. never e), ((λ e. never e), ((λ e. refl), ((λ e. never e), tt))))

pub serve_rounds : (command : Command) (m : ArgMatches) → IsParsedFrom command m → app_of command ≡ serve_command → IsGivenUpTo round_limit (first_value (found_of m) (codes "rounds"))
serve_rounds command m p is =
    number_given command m p serve_command (codes "rounds") round_limit is refl (record { named = refl; not_help = refl; not_version = refl })
    ((λ e. never e), ((λ e. never e), ((λ e. never e), ((λ e. refl), tt))))

pub daemon_port : (command : Command) (m : ArgMatches) → IsParsedFrom command m → app_of command ≡ daemon_command → IsGivenUpTo port_limit (first_value (found_of m) (codes "port"))
daemon_port command m p is =
    number_given command m p daemon_command (codes "port") port_limit is refl (record { named = refl; not_help = refl; not_version = refl })
    ((λ e. never e), ((λ e. refl), ((λ e. never e), ((λ e. never e), tt))))

pub daemon_users : (command : Command) (m : ArgMatches) → IsParsedFrom command m → app_of command ≡ daemon_command → IsGivenUpTo port_limit (first_value (found_of m) (codes "users"))
daemon_users command m p is =
    number_given command m p daemon_command (codes "users") port_limit is refl (record { named = refl; not_help = refl; not_version = refl })
    ((λ e. never e), ((λ e. never e), ((λ e. refl), ((λ e. never e), tt))))

pub daemon_status : (command : Command) (m : ArgMatches) → IsParsedFrom command m → app_of command ≡ daemon_command → IsGivenUpTo second_limit (first_value (found_of m) (codes "status"))
daemon_status command m p is =
    number_given command m p daemon_command (codes "status") second_limit is refl (record { named = refl; not_help = refl; not_version = refl })
    ((λ e. never e), ((λ e. never e), ((λ e. never e), ((λ e. refl), tt))))
