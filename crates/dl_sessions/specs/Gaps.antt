-- Who is who in a stream of messages, and how many are missing before each of them.
use Rattle.std.specs.Prelude.{ℕ, ◌-◌, ◌^◌, ◌==◌, ◌&&◌, ◌||◌, not, min, Bool, true, false, List, Option, Some, None, is_some, nat_le, nat_lt, if◌then◌else◌}
use Rattle.std.specs.List.{filter_map}
use Rattle.std.specs.Option.{option_map, option_map_or}
use Rattle.std.specs.Str.{bytes_eq}
use Rattle.dl_model.specs.Along.{last_that}
use Rattle.dl_receive.specs.Text.{passed_over}
use Rattle.dl_sessions.specs.declared.session.Context.{Context}
use Rattle.dl_sessions.specs.declared.session.Entry.{Entry}
use Rattle.dl_sessions.specs.declared.session.Latest.{Latest}
use Rattle.dl_sessions.specs.declared.session.Session.{Session}
use Rattle.dl_sessions.specs.declared.session.Source.{Source}
use Rattle.dl_sessions.specs.declared.session.Told.{Told}
use Rattle.dl_sessions.specs.declared.session.Told.TheVariants as told
use Rattle.dl_sessions.specs.declared.session.Turn.{Turn}

-- ---- who is who

-- an application is known by its APID alone: a program may name another ECU than the daemon that writes records of it
abbrev pub same_source : Source → Source → Bool
same_source a b = bytes_eq a.apid b.apid

abbrev pub same_session : Session → Session → Bool
same_session a b = bytes_eq a.ecu b.ecu && (bytes_eq a.apid b.apid && a.seid == b.seid)

abbrev pub same_context : Context → Context → Bool
same_context a b = bytes_eq a.ecu b.ecu && (bytes_eq a.apid b.apid && (a.seid == b.seid && bytes_eq a.ctid b.ctid))

-- the application of a session
abbrev pub source_of : Session → Source
source_of session = record { apid = session.apid }

-- the context of a message
abbrev pub context_of : Entry → Context
context_of e = record { ecu = e.session.ecu; apid = e.session.apid; seid = e.session.seid; ctid = e.ctid }

abbrev pub is_in : Session → Entry → Bool
is_in session e = same_session e.session session

abbrev pub is_of : Context → Entry → Bool
is_of context e = same_context (context_of e) context

-- the messages of a stream that tell their session
abbrev pub entry_of : Told → Option Entry
entry_of (told.Log e) = Some e
entry_of _ = None

abbrev pub entries : List Told → List Entry
entries stream = filter_map entry_of stream

-- a count; it stops at the greatest number of 64 bits
abbrev pub counted : ℕ → ℕ
counted n = min n (2 ^ 64 - 1)

-- ---- what is missing

-- what is kept of a message
abbrev pub latest_of : Entry → Latest
latest_of e = record { mcnt = e.mcnt; ticks = e.ticks }

-- Who counts has begun anew with a message: it counts from 0 again, and the timestamp falls back. So it is where a program was started again,
-- and the trace of its earlier run goes on with that of the next one; the counters of the two have nothing to do with each other.
abbrev pub begins_anew : Latest → Entry → Bool
begins_anew last e = nat_lt e.ticks last.ticks && e.mcnt == 0

-- how many counters were passed over since the last message: counters have one byte
abbrev pub gap : Option Latest → Entry → ℕ
gap last e = option_map_or (λ l. if begins_anew l e then 0 else passed_over l.mcnt e.mcnt) last 0

-- all counters that were passed over since the last message
abbrev pub passed : Option Latest → Entry → ℕ
passed last e = option_map_or (λ l. passed_over l.mcnt e.mcnt) last 0

-- Who counts may have begun anew with a message, since another counter was due: this one is 0, or the timestamp falls back. Else messages are missing.
-- The bytes don't tell which.
abbrev pub may_begin : Latest → Entry → Bool
may_begin l e = not (passed_over l.mcnt e.mcnt == 0) && (e.mcnt == 0 || nat_lt e.ticks l.ticks)

-- the counters that were passed over where who counts may have begun anew
abbrev pub unsure : Option Latest → Entry → ℕ
unsure last e = option_map_or (λ l. if may_begin l e then passed_over l.mcnt e.mcnt else 0) last 0

-- the last message that passes a test
abbrev pub latest : (Entry → Bool) → List Entry → Option Latest
latest test es = option_map latest_of (last_that test es)

-- how many counters were passed over before a message, after those before it: where its session counts, and where its context does
abbrev pub gap_in_session : List Entry → Entry → ℕ
gap_in_session before e = passed (latest (is_in e.session) before) e

abbrev pub gap_in_context : List Entry → Entry → ℕ
gap_in_context before e = passed (latest (is_of (context_of e)) before) e

-- how many of them where it may have begun anew
abbrev pub open_in_session : List Entry → Entry → ℕ
open_in_session before e = unsure (latest (is_in e.session) before) e

abbrev pub open_in_context : List Entry → Entry → ℕ
open_in_context before e = unsure (latest (is_of (context_of e)) before) e

-- ---- who counts

-- a message goes on from its context's last counter: none is missing since, or it is the first, 0, of a new context
abbrev pub goes_on : Option Latest → Entry → Bool
goes_on last e = gap last e == 0 && (if is_some last then true else e.mcnt == 0)

abbrev pub turn : Option Latest → Entry → Turn
turn last e = record { missing = passed last e; unsure = unsure last e; goes_on = goes_on last e }

abbrev pub turn_of : List Entry → Entry → Turn
turn_of before e = turn (latest (is_of (context_of e)) before) e

-- 1 where a message goes on from its session's last counter, and not from its context's
abbrev pub of_session : Option Latest → Bool → Entry → ℕ
of_session last in_context e = if is_some last && (gap last e == 0 && not in_context) then 1 else 0

-- 1 where a message goes on from its context's last counter, and that of its session is met again or steps back: so it is taken where at least 127
-- of 256 counters would be passed over. Likewise where it is an account: programs write these whose library counts each context by itself.
abbrev pub of_context : Option Latest → Bool → Entry → ℕ
of_context last in_context e = if (nat_le 127 (gap last e) && in_context) || e.calls.are_told then 1 else 0

abbrev pub session_counts : List Entry → Entry → ℕ
session_counts before e = of_session (latest (is_in e.session) before) (goes_on (latest (is_of (context_of e)) before) e) e

abbrev pub context_counts : List Entry → Entry → ℕ
context_counts before e = of_context (latest (is_in e.session) before) (goes_on (latest (is_of (context_of e)) before) e) e
