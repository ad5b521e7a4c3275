-- What is new of the contexts that are there.
use Rattle.std.specs.Prelude.{◌==◌, ◌&&◌, not, Bool, List}
use Rattle.std.specs.List.{filter, list_any}
use Rattle.std.specs.Str.{bytes_eq}
use Rattle.dl_own_log.specs.declared.standing.Standing.{Standing}

abbrev pub is_same_context : Standing → Standing → Bool
is_same_context one other = bytes_eq other.apid one.apid && bytes_eq other.ctid one.ctid

abbrev pub is_there : List Standing → Standing → Bool
is_there all one = list_any (is_same_context one) all

-- with the same level
abbrev pub is_among : List Standing → Standing → Bool
is_among all one = list_any (λ other. is_same_context one other && (other.level == one.level)) all

-- those that weren't there, or had another level
abbrev pub changed : List Standing → List Standing → List Standing
changed before now = filter (λ one. not (is_among before one)) now

-- those that aren't there any more
abbrev pub gone : List Standing → List Standing → List Standing
gone before now = filter (λ one. not (is_there now one)) before
