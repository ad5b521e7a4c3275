-- What the words of `dlt_run` ask for that play a scenario.
use Rattle.std.specs.Prelude.{◌≡◌, ℕ, List, [], codes, Option, Some, None, Result, Ok, Err, option_map}
use Rattle.clap.specs.Walk.{Row, Text}
use Rattle.dl_words.specs.Command.{run_command}
use Rattle.dl_words.specs.Parse.{found_in, number_in, text_in}
use Rattle.dl_words.specs.declared.parse.WordsFault.{WordsFault}
use Rattle.dl_words.specs.declared.parse.WordsFault.TheVariants.{Refused, OutOfMemory}
use Rattle.dl_words.specs.declared.run.RunWords.{RunWords}

-- a configuration, a port and a scenario
pub record Run : Type 0 where
  pub conf : Text
  pub port : ℕ
  pub scenario : Text

-- the configuration is `dlt.conf` and the port 3490 where none is named
abbrev pub run_in : List Row → Run
run_in rows = record { conf = text_in (codes "conf") (codes "dlt.conf") rows; port = number_in (codes "port") 3490 rows; scenario = text_in (codes "SCENARIO") [] rows }

-- What the words ask for, the program's name first; nothing where `clap` refuses them.
unfoldable pub run_of : List Text → Option Run
run_of words = option_map run_in (found_in run_command words)

-- what was read of the words, in these terms
abbrev pub run_said : RunWords → Run
run_said words = record { conf = words.conf.now; port = words.port; scenario = words.scenario.now }

-- It is what the words ask for; or they ask for nothing. Of want of memory this says nothing.
abbrev pub SaysRun : List Text → Result RunWords WordsFault → Type 0
SaysRun words (Ok asked) = run_of words ≡ Some (run_said asked)
SaysRun words (Err Refused) = run_of words ≡ None
SaysRun words (Err OutOfMemory) = Unit {0}
