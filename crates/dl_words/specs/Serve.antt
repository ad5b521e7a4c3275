-- What the words of `dlt_run --serve` ask for.
use Rattle.std.specs.Prelude.{◌≡◌, ℕ, Bool, false, List, ◌∷◌, drop, codes, Option, Some, None, Result, Ok, Err, option_map, if◌then◌else◌}
use Rattle.std.specs.Str.{bytes_eq}
use Rattle.clap.specs.Walk.{Row, Text}
use Rattle.dl_words.specs.Command.{round_limit, serve_command}
use Rattle.dl_words.specs.Parse.{found_in, number_in, text_in}
use Rattle.dl_words.specs.declared.parse.WordsFault.{WordsFault}
use Rattle.dl_words.specs.declared.parse.WordsFault.TheVariants.{Refused, OutOfMemory}
use Rattle.dl_words.specs.declared.serve.ServeWords.{ServeWords}

-- a configuration, a port for clients and one for programs that log, and a number of rounds
pub record Serve : Type 0 where
  pub conf : Text
  pub port : ℕ
  pub users : ℕ
  pub rounds : ℕ

-- the configuration is `dlt.conf`, the ports are 3490 and 3491, and the rounds are as many as may be, where none is named
abbrev pub serve_in : List Row → Serve
serve_in rows = record {
  conf = text_in (codes "conf") (codes "dlt.conf") rows;
  port = number_in (codes "port") 3490 rows;
  users = number_in (codes "users") 3491 rows;
  rounds = number_in (codes "rounds") round_limit rows;
}

-- the first word behind the program's name is `--serve`
abbrev pub asks_to_serve : List Text → Bool
asks_to_serve (name ∷ word ∷ words) = bytes_eq word (codes "--serve")
asks_to_serve _ = false

-- what the words from `--serve` on ask for; nothing where `clap` refuses them
unfoldable pub options_of : List Text → Option Serve
options_of words = option_map serve_in (found_in serve_command words)

-- What the words ask for, the program's name first; nothing where they are not `--serve` and what it takes.
unfoldable pub serve_of : List Text → Option Serve
serve_of words = if asks_to_serve words then options_of (drop 1 words) else None

-- what was read of the words, in these terms
abbrev pub serve_said : ServeWords → Serve
serve_said words = record { conf = words.conf.now; port = words.port; users = words.users; rounds = words.rounds }

-- It is what the words ask for; or they ask for nothing. Of want of memory this says nothing.
abbrev pub SaysServe : List Text → Result ServeWords WordsFault → Type 0
SaysServe words (Ok asked) = serve_of words ≡ Some (serve_said asked)
SaysServe words (Err Refused) = serve_of words ≡ None
SaysServe words (Err OutOfMemory) = Unit {0}

-- the same of the words from `--serve` on
abbrev pub SaysOptions : List Text → Result ServeWords WordsFault → Type 0
SaysOptions words (Ok asked) = options_of words ≡ Some (serve_said asked)
SaysOptions words (Err Refused) = options_of words ≡ None
SaysOptions words (Err OutOfMemory) = Unit {0}
