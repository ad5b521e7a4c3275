-- What the first word of `dlt_why` asks for.
use Rattle.std.specs.Prelude.{List, ◌∷◌, codes, if◌then◌else◌}
use Rattle.std.specs.Str.{bytes_eq}
use Rattle.clap.specs.Walk.{Text}
use Rattle.dl_why_words.specs.declared.task.Task.{Task}
use Rattle.dl_why_words.specs.declared.task.Task.TheVariants.{Steps, Trace, Stream, Find, Help, Version, Unknown}

abbrev pub task_named : Text → Task
task_named word =
    if bytes_eq word (codes "steps") then Steps
    else if bytes_eq word (codes "trace") then Trace
    else if bytes_eq word (codes "stream") then Stream
    else if bytes_eq word (codes "find") then Find
    else if bytes_eq word (codes "--help") then Help
    else if bytes_eq word (codes "-h") then Help
    else if bytes_eq word (codes "--version") then Version
    else if bytes_eq word (codes "-V") then Version
    else Unknown

-- what the first word behind the program's name asks for
abbrev pub task_of : List Text → Task
task_of (name ∷ word ∷ words) = task_named word
task_of _ = Unknown
