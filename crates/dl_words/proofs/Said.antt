-- What words ask for, by what a command found in them.
use Rattle.std.proofs.Common.{◌≡◌, ◌∙◌, ap, true, false, ◌-◌, List, [], ◌∷◌, length, Some, None, refl, subst, sym, arith}
use Rattle.std.specs.Prelude.{Result, Ok, Err, String, drop, map, option_map, take, string_bytes, if◌then◌else◌}
use Rattle.std.proofs.lemmas.List.{take_all}
use Rattle.clap.specs.Faults.{fault_of}
use Rattle.clap.specs.Kinds.{IsAmong}
use Rattle.clap.specs.declared.error.kind.ErrorKind.{ErrorKind}
use Rattle.clap.specs.declared.error.kind.ErrorKind.TheVariants as kind
use Rattle.dl_words.specs.declared.parse.ParseFault.{ParseFault}
use Rattle.dl_words.specs.declared.parse.ParseFault.TheVariants as parse
use Rattle.clap.specs.Simple.{App}
use Rattle.clap.specs.Matches.{found_of}
use Rattle.clap.specs.Walk.{Text, rows_of}
use Rattle.clap.specs.declared.parser.matches.ArgMatches.{ArgMatches}
use Rattle.dl_words.specs.Command.{daemon_command, run_command, serve_command}
use Rattle.dl_words.specs.Daemon.{Daemon, SaysDaemon, daemon_in, daemon_of}
use Rattle.dl_words.specs.Parse.{Parses, found_in, plain_fault}
use Rattle.dl_words.specs.Run.{Run, SaysRun, run_in, run_of}
use Rattle.dl_words.specs.Serve.{SaysOptions, SaysServe, Serve, asks_to_serve, options_of, serve_in, serve_of}
use Rattle.dl_words.specs.declared.serve.ServeWords.{ServeWords}
use Rattle.dl_words.specs.declared.parse.WordsFault.{WordsFault}
use Rattle.dl_words.specs.declared.parse.WordsFault.TheVariants.{Refused, OutOfMemory}
use Rattle.dl_words.proofs.Values.{refused, taken}

found : (app command : App) (words : List Text) (m : ArgMatches) → app ≡ command → Parses app words (Ok m) → found_in command words ≡ Some (rows_of (found_of m))
found app command words m is parses = ap (λ (a : App). found_in a words) (sym is) ∙ taken app words (rows_of (found_of m)) parses.0 parses.1

-- ---- to play a scenario

run_none : (app : App) (words : List Text) (cause : ErrorKind) → app ≡ run_command → IsAmong cause (fault_of app words) → run_of words ≡ None
unfolding run_of
run_none app words cause is some = ap (option_map run_in) (ap (λ (a : App). found_in a words) (sym is) ∙ refused app words cause some)

pub run_refused : (app : App) (words : List Text) (fault : ParseFault) → app ≡ run_command → Parses app words (Err fault) → SaysRun words (Err (plain_fault fault))
run_refused app words parse.Help is some = run_none app words kind.DisplayHelp is some
run_refused app words parse.Version is some = run_none app words kind.DisplayVersion is some
run_refused app words parse.Refused is some = run_none app words some.0 is some.1
run_refused app words parse.OutOfMemory is some = tt

pub run_taken : (app : App) (words : List Text) (m : ArgMatches) (asked : Run) → app ≡ run_command → Parses app words (Ok m) → asked ≡ run_in (rows_of (found_of m)) → run_of words ≡ Some asked
unfolding run_of
run_taken app words m asked is parses said = ap (option_map run_in) (found app run_command words m is parses) ∙ ap Some (sym said)

-- ---- to serve programs outside

options_none : (app : App) (words : List Text) (cause : ErrorKind) → app ≡ serve_command → IsAmong cause (fault_of app words) → options_of words ≡ None
unfolding options_of
options_none app words cause is some = ap (option_map serve_in) (ap (λ (a : App). found_in a words) (sym is) ∙ refused app words cause some)

pub options_refused : (app : App) (words : List Text) (fault : ParseFault) → app ≡ serve_command → Parses app words (Err fault) → SaysOptions words (Err (plain_fault fault))
options_refused app words parse.Help is some = options_none app words kind.DisplayHelp is some
options_refused app words parse.Version is some = options_none app words kind.DisplayVersion is some
options_refused app words parse.Refused is some = options_none app words some.0 is some.1
options_refused app words parse.OutOfMemory is some = tt

pub options_taken : (app : App) (words : List Text) (m : ArgMatches) (asked : Serve) → app ≡ serve_command → Parses app words (Ok m) → asked ≡ serve_in (rows_of (found_of m)) → options_of words ≡ Some asked
unfolding options_of
options_taken app words m asked is parses said = ap (option_map serve_in) (found app serve_command words m is parses) ∙ ap Some (sym said)

pub serve_other : (words : List Text) → asks_to_serve words ≡ false → serve_of words ≡ None
unfolding serve_of
serve_other words other = ap (λ b. if b then options_of (drop 1 words) else None) other

behind : (words : List Text) → asks_to_serve words ≡ true → options_of (drop 1 words) ≡ serve_of words
unfolding serve_of
behind words serves = sym (ap (λ b. if b then options_of (drop 1 words) else None) serves)

bytes_behind : {Z : Type 0} (words : List (String Z)) → map string_bytes (drop 1 words) ≡ drop 1 (map string_bytes words)
bytes_behind [] = refl
bytes_behind (word ∷ words) = refl

-- a slice from place 1 on
pub rest_is : {A : Type 0} (xs : List A) → take (length xs - 1) (drop 1 xs) ≡ drop 1 xs
rest_is [] = refl
rest_is (x ∷ xs) = take_all (length (x ∷ xs) - 1) xs (omega arith)

pub serve_said_by : {Z : Type 0} (words : List (String Z)) (r : Result ServeWords WordsFault) → asks_to_serve (map string_bytes words) ≡ true → SaysOptions (map string_bytes (drop 1 words)) r
    → SaysServe (map string_bytes words) r
serve_said_by words (Ok asked) serves says = sym (ap options_of (bytes_behind words) ∙ behind (map string_bytes words) serves) ∙ says
serve_said_by words (Err Refused) serves says = sym (ap options_of (bytes_behind words) ∙ behind (map string_bytes words) serves) ∙ says
serve_said_by words (Err OutOfMemory) serves says = tt

-- ---- a daemon

pub daemon_refused : (app : App) (words : List Text) (fault : ParseFault) → app ≡ daemon_command → Parses app words (Err fault) → SaysDaemon words (Err fault)
daemon_refused app words parse.Help is some = subst (λ (a : App). IsAmong kind.DisplayHelp (fault_of a words)) is some
daemon_refused app words parse.Version is some = subst (λ (a : App). IsAmong kind.DisplayVersion (fault_of a words)) is some
daemon_refused app words parse.Refused is some = (some.0, subst (λ (a : App). IsAmong some.0 (fault_of a words)) is some.1, some.2, some.3)
daemon_refused app words parse.OutOfMemory is some = tt

pub daemon_taken : (app : App) (words : List Text) (m : ArgMatches) (asked : Daemon) → app ≡ daemon_command → Parses app words (Ok m) → asked ≡ daemon_in (rows_of (found_of m)) → daemon_of words ≡ Some asked
unfolding daemon_of
daemon_taken app words m asked is parses said = ap (option_map daemon_in) (found app daemon_command words m is parses) ∙ ap Some (sym said)
