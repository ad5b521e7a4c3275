-- What is asked for: which messages of sessions it is about.
use Rattle.std.specs.Prelude.{◌==◌, ◌&&◌, Bool, true}
use Rattle.std.specs.Option.{option_map_or}
use Rattle.std.specs.Str.{bytes_eq}
use Rattle.dl_find_words.specs.declared.question.Point.{Point}
use Rattle.dl_find_words.specs.declared.question.Point.TheVariants.{Time, Counter}
use Rattle.dl_find_words.specs.declared.question.Question.{Question}
use Rattle.dl_sessions.specs.declared.session.Entry.{Entry}

-- a message of the application, and of the session where one is named
abbrev pub is_asked : Question → Entry → Bool
is_asked q e = bytes_eq e.session.apid q.apid && option_map_or (λ seid. e.session.seid == seid) q.seid true

-- of the context too
abbrev pub is_of_context : Question → Entry → Bool
is_of_context q e = is_asked q e && bytes_eq e.ctid q.ctid

-- with this time or this counter
abbrev pub is_at : Point → Entry → Bool
is_at (Time ticks) e = e.ticks == ticks
is_at (Counter mcnt) e = e.mcnt == mcnt

-- what is asked for
abbrev pub is_named : Question → Entry → Bool
is_named q e = is_of_context q e && is_at q.point e

-- an account that a program gave of calls of this session, of any context; and of the context
abbrev pub is_account : Question → Entry → Bool
is_account q e = is_asked q e && e.calls.are_told

abbrev pub is_about : Question → Entry → Bool
is_about q e = is_account q e && bytes_eq e.calls.ctid q.ctid
