-- What a command finds in words.
use Rattle.std.specs.Prelude.{◌≡◌, ◌≢◌, ℕ, ◌≤◌, List, [], Option, Some, None, IfSome, Result, Ok, Err, option_map, unwrap_or, if◌then◌else◌}
use Rattle.std.specs.Str.Parse.{IsNumeral, digits_value, without_leading_plus}
use Rattle.clap.specs.Faults.{fault_of}
use Rattle.clap.specs.Matches.{found_of}
use Rattle.clap.specs.Simple.{App, matches_of}
use Rattle.clap.specs.Walk.{Row, Text, first_of, is_empty, rows_of}
use Rattle.clap.specs.declared.parser.matches.ArgMatches.{ArgMatches}
use Rattle.clap.specs.Kinds.{IsAmong}
use Rattle.clap.specs.declared.error.kind.ErrorKind.{ErrorKind}
use Rattle.clap.specs.declared.error.kind.ErrorKind.TheVariants as kind
use Rattle.dl_words.specs.declared.parse.ParseFault.{ParseFault}
use Rattle.dl_words.specs.declared.parse.ParseFault.TheVariants as parse
use Rattle.dl_words.specs.declared.parse.WordsFault.{WordsFault}
use Rattle.dl_words.specs.declared.parse.WordsFault.TheVariants.{Refused, OutOfMemory}

-- what a command finds in words; nothing where it refuses them
unfoldable pub found_in : App → List Text → Option (List Row)
found_in command words = if is_empty (fault_of command words) then Some (matches_of command words) else None

-- What was found is what the command finds in the words; or they ask for help or for the version, or are refused for another cause.
abbrev pub Parses : App → List Text → Result ArgMatches ParseFault → Type 0
Parses command words (Ok found) = (fault_of command words ≡ []) × (rows_of (found_of found) ≡ matches_of command words)
Parses command words (Err parse.Help) = IsAmong kind.DisplayHelp (fault_of command words)
Parses command words (Err parse.Version) = IsAmong kind.DisplayVersion (fault_of command words)
Parses command words (Err parse.Refused) = (cause : ErrorKind) × IsAmong cause (fault_of command words) × (cause ≢ kind.DisplayHelp) × (cause ≢ kind.DisplayVersion)
Parses command words (Err parse.OutOfMemory) = Unit {0}

-- the same of a program without words for help
abbrev pub plain_fault : ParseFault → WordsFault
plain_fault parse.OutOfMemory = OutOfMemory
plain_fault _ = Refused

-- the value of an option, or another text where it is not given
abbrev pub text_in : Text → Text → List Row → Text
text_in id absent rows = unwrap_or (first_of id rows) absent

-- the number that a text spells, with or without a plus before its digits
abbrev pub number_of : Text → ℕ
number_of text = digits_value 10 (without_leading_plus text)

-- the number of an option, where it is given
abbrev pub given_number : Text → List Row → Option ℕ
given_number id rows = option_map number_of (first_of id rows)

-- the number of an option, or another one where it is not given
abbrev pub number_in : Text → ℕ → List Row → ℕ
number_in id absent rows = unwrap_or (given_number id rows) absent

-- a text spells a number from 1 to this one
pub record SpellsUpTo (most : ℕ) (text : Text) : Type 0 where
  pub numeral : IsNumeral 10 (without_leading_plus text)
  pub at_least : 1 ≤ number_of text
  pub at_most : number_of text ≤ most

-- so does the value of an option, where it is given
abbrev pub IsGivenUpTo : ℕ → Option Text → Type 0
IsGivenUpTo most given = IfSome given (SpellsUpTo most)
