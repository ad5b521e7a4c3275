-- What the words of `dlt_why` ask for.
use Rattle.std.specs.Prelude.{◌≡◌, List, [], codes, drop, map, Option, Result, Ok, Err, option_map}
use Rattle.clap.specs.Faults.{fault_of}
use Rattle.clap.specs.Simple.{App, matches_of}
use Rattle.clap.specs.Walk.{Row, Text, first_of}
use Rattle.dl_why_words.specs.Command.{find_command, steps_command, stream_command, trace_command}
use Rattle.dl_why_words.specs.Parse.{IsRefused, text_in, texts_in}
use Rattle.dl_why_words.specs.Task.{task_of}
use Rattle.dl_why_words.specs.declared.parse.WhyFault.{WhyFault}
use Rattle.dl_why_words.specs.declared.parse.WhyFault.TheVariants as fault
use Rattle.dl_why_words.specs.declared.task.Task.{Task}
use Rattle.dl_why_words.specs.declared.task.Task.TheVariants.{Steps, Trace, Stream, Find, Help, Version, Unknown}
use Rattle.dl_why_words.specs.declared.words.WhyWords.{WhyWords}
use Rattle.dl_why_words.specs.declared.words.WhyWords.TheVariants as words

-- what is asked for: what became of the calls of a script, of the file of this name where one is given; what is missing of the files that names stand
-- for; what is missing of one file's stream; with the name of a picture, where one is wanted; or where the message is of an application and a context, by
-- its time or its counter
pub data Asked : Type 0 where
  AsksSteps : (script picture : Option Text) → Asked
  AsksTrace : (names : List Text) → (picture : Option Text) → Asked
  AsksStream : (name : Text) → (picture : Option Text) → Asked
  AsksFind : (apid ctid when : Text) → (names : List Text) → Asked

-- by what was found
abbrev pub steps_in : List Row → Asked
steps_in rows = AsksSteps (first_of (codes "FILE") rows) (first_of (codes "picture") rows)

abbrev pub trace_in : List Row → Asked
trace_in rows = AsksTrace (texts_in (codes "FILE") rows) (first_of (codes "picture") rows)

abbrev pub stream_in : List Row → Asked
stream_in rows = AsksStream (text_in (codes "FILE") rows) (first_of (codes "picture") rows)

abbrev pub find_in : List Row → Asked
find_in rows = AsksFind (text_in (codes "APID") rows) (text_in (codes "CTID") rows) (text_in (codes "WHEN") rows) (texts_in (codes "FILE") rows)

-- what was read of the words, in these terms
abbrev pub said : WhyWords → Asked
said (words.Steps script picture) = AsksSteps (option_map (λ name. name.now) script) (option_map (λ name. name.now) picture)
said (words.Trace names picture) = AsksTrace (map (λ name. name.now) names.items) (option_map (λ name. name.now) picture)
said (words.Stream name picture) = AsksStream name.now (option_map (λ name. name.now) picture)
said (words.Find apid ctid when names) = AsksFind apid.now ctid.now when.now (map (λ name. name.now) names.items)

-- a command takes words, and this is what it finds in them
unfoldable pub IsFound : App → (List Row → Asked) → List Text → Asked → Type 0
IsFound command of words asked = (fault_of command words ≡ []) × (asked ≡ of (matches_of command words))

-- what a command finds in words is what was read of them; or it refuses them
abbrev pub Finds : App → (List Row → Asked) → List Text → Result WhyWords WhyFault → Type 0
Finds command of words (Ok read) = IsFound command of words (said read)
Finds command of words (Err fault) = IsRefused command words fault

-- the same by what the first word asks for
abbrev pub SaysOf : Task → List Text → Result WhyWords WhyFault → Type 0
SaysOf Steps words result = Finds steps_command steps_in (drop 1 words) result
SaysOf Trace words result = Finds trace_command trace_in (drop 1 words) result
SaysOf Stream words result = Finds stream_command stream_in (drop 1 words) result
SaysOf Find words result = Finds find_command find_in (drop 1 words) result
SaysOf Help words result = result ≡ Err fault.Help
SaysOf Version words result = result ≡ Err fault.Version
SaysOf Unknown words result = result ≡ Err fault.Refused

-- What the words ask for, the program's name first; or why they ask for nothing.
abbrev pub Says : List Text → Result WhyWords WhyFault → Type 0
Says words result = SaysOf (task_of words) words result
