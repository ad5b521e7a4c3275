-- Words that ask for no daemon.
use Rattle.std.proofs.Common.{◌≡◌, ℕ, List, None, ap, sym, subst}
use Rattle.std.specs.Prelude.{Err, option_map}
use Rattle.clap.specs.Faults.{fault_of}
use Rattle.clap.specs.Kinds.{IsAmong}
use Rattle.clap.specs.declared.error.kind.ErrorKind.{ErrorKind}
use Rattle.clap.specs.declared.error.kind.ErrorKind.TheVariants as kind
use Rattle.dl_startup.specs.declared.status.Status.{Status}
use Rattle.dl_words.specs.Command.{daemon_command}
use Rattle.dl_words.specs.Daemon.{SaysDaemon, daemon_in, daemon_of}
use Rattle.dl_words.specs.declared.parse.ParseFault.{ParseFault}
use Rattle.dl_words.specs.declared.parse.ParseFault.TheVariants as parse
use Rattle.dl_words.proofs.Values.{refused}
use Rattle.dl_daemon.specs.Begin.{Asks, refusal}

-- `clap` has a fault for them, help and the version among these
no_daemon : (words : List (List ℕ)) (cause : ErrorKind) → IsAmong cause (fault_of daemon_command words) → daemon_of words ≡ None
unfolding daemon_of
no_daemon words cause some = ap (option_map daemon_in) (refused daemon_command words cause some)

asks_none : (words : List (List ℕ)) (fault : ParseFault) → SaysDaemon words (Err fault) → Asks words (Err (refusal fault))
asks_none words parse.Help some = no_daemon words kind.DisplayHelp some
asks_none words parse.Version some = no_daemon words kind.DisplayVersion some
asks_none words parse.Refused some = no_daemon words some.0 some.1
asks_none words parse.OutOfMemory some = tt

pub asks_nothing : (words : List (List ℕ)) (fault : ParseFault) (s : Status) → s ≡ refusal fault → SaysDaemon words (Err fault) → Asks words (Err s)
asks_nothing words fault s is says = subst (λ (t : Status). Asks words (Err t)) (sym is) (asks_none words fault says)
