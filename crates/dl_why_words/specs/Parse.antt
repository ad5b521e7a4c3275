-- What a command of `dlt_why` finds in words.
use Rattle.std.specs.Prelude.{◌≡◌, ◌≢◌, List, [], Result, Ok, Err, unwrap_or}
use Rattle.clap.specs.Faults.{fault_of}
use Rattle.clap.specs.Kinds.{IsAmong}
use Rattle.clap.specs.Matches.{found_of}
use Rattle.clap.specs.Simple.{App, matches_of}
use Rattle.clap.specs.Walk.{Row, Text, all_of, first_of, rows_of}
use Rattle.clap.specs.declared.error.kind.ErrorKind.{ErrorKind}
use Rattle.clap.specs.declared.error.kind.ErrorKind.TheVariants as kind
use Rattle.clap.specs.declared.parser.matches.ArgMatches.{ArgMatches}
use Rattle.dl_why_words.specs.declared.parse.WhyFault.{WhyFault}
use Rattle.dl_why_words.specs.declared.parse.WhyFault.TheVariants.{Help, Version, Refused, OutOfMemory}

-- Why a command refuses words: they ask for help, or there is another cause. The version is no command's. Of want of memory this says nothing.
abbrev pub IsRefused : App → List Text → WhyFault → Type 0
IsRefused command words Help = IsAmong kind.DisplayHelp (fault_of command words)
IsRefused command words Version = ⊥
IsRefused command words Refused = (cause : ErrorKind) × IsAmong cause (fault_of command words) × (cause ≢ kind.DisplayHelp)
IsRefused command words OutOfMemory = Unit {0}

-- what was found is what the command finds in the words; or it refuses them
abbrev pub Parses : App → List Text → Result ArgMatches WhyFault → Type 0
Parses command words (Ok found) = (fault_of command words ≡ []) × (rows_of (found_of found) ≡ matches_of command words)
Parses command words (Err fault) = IsRefused command words fault

-- the value of an id that must be there
abbrev pub text_in : Text → List Row → Text
text_in id rows = unwrap_or (first_of id rows) []

-- all values of an id; none where it is not given
abbrev pub texts_in : Text → List Row → List Text
texts_in id rows = unwrap_or (all_of id rows) []
