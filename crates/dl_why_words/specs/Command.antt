-- The commands of `dlt_why`, as `clap` has them, each with `--help`.
use Rattle.std.specs.Prelude.{true, Some, codes}
use Rattle.clap.specs.Simple.{App, new_app, new_rule, with_rule}
use Rattle.clap.specs.Walk.{Rule, Text}
use Rattle.clap.specs.declared.builder.action.ArgAction.TheVariants.{Append}
use Rattle.dl_words.specs.Command.{option}

-- the names of files, any number of them
abbrev pub files : Rule
files = record (new_rule (codes "FILE")) { action = Some Append }

-- the name of a file, which must be there
abbrev pub file : Rule
file = record (new_rule (codes "FILE")) { required = true }

-- the name of a file, which may be there
abbrev pub file_if_any : Rule
file_if_any = new_rule (codes "FILE")

-- a word that must be there
abbrev pub needed : Text → Rule
needed name = record (new_rule name) { required = true }

-- `steps [--picture FILE] [FILE]`
abbrev pub steps_command : App
steps_command = with_rule (with_rule (new_app (codes "steps")) (option (codes "picture"))) file_if_any

-- `trace [--picture FILE] [FILE]..`
abbrev pub trace_command : App
trace_command = with_rule (with_rule (new_app (codes "trace")) (option (codes "picture"))) files

-- `stream [--picture FILE] FILE`
abbrev pub stream_command : App
stream_command = with_rule (with_rule (new_app (codes "stream")) (option (codes "picture"))) file

-- `find APID CTID WHEN [FILE]..`
abbrev pub find_command : App
find_command = with_rule (with_rule (with_rule (with_rule (new_app (codes "find")) (needed (codes "APID"))) (needed (codes "CTID"))) (needed (codes "WHEN"))) files
