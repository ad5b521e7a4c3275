-- The text of an account.
use Rattle.std.specs.Prelude.{ℕ, ◌+◌, ◌-◌, ◌/◌, ◌%◌, ◌==◌, ◌&&◌, ◌||◌, not, Bool, nat_le, nat_lt, List, [], ◌∷◌, ◌++◌, codes, sum_by, if◌then◌else◌}
use Rattle.std.specs.List.{flat_map}
use Rattle.std.specs.Fmt.{decimal}
use Rattle.std.specs.Option.{option_map_or}
use Rattle.std.specs.Str.{bytes_eq}
use Rattle.dl_text.specs.IdText.{id_text}
use Rattle.dl_control.specs.Reply.{daemon_apid}
use Rattle.dl_sessions.specs.declared.session.Hole.{Hole}
use Rattle.dl_sessions.specs.declared.session.Losses.{Losses}
use Rattle.dl_sessions.specs.declared.session.Position.{Position}
use Rattle.dl_sessions.specs.declared.session.Session.{Session}
use Rattle.dl_sessions.specs.declared.session.Source.{Source}
use Rattle.dl_sessions.specs.declared.session.Tally.{Tally}
use Rattle.dl_sessions.specs.declared.session.Told.{Told}
use Rattle.dl_sessions.specs.declared.session.Totals.{Totals}
use Rattle.dl_sessions.specs.Account.{holes, sessions, totals_of}
use Rattle.dl_sessions.specs.Applications.{next_number, sources, tally_of, told_for}
use Rattle.dl_sessions.specs.Gaps.{counted, entries, same_source, source_of}

-- ---- fields

-- a decimal digit
abbrev pub digit : ℕ → ℕ
digit n = 48 + n % 10

-- a timestamp in seconds, with four digits behind the point
abbrev pub time_text : ℕ → List ℕ
time_text ticks = decimal (ticks / 10000) ++ 46 ∷ digit (ticks / 1000) ∷ digit (ticks / 100) ∷ digit (ticks / 10) ∷ digit ticks ∷ []

-- a session: its ECU, its application, and its own id, each behind a blank
abbrev pub session_text : Session → List ℕ
session_text session = codes " " ++ id_text session.ecu ++ codes " " ++ id_text session.apid ++ codes " " ++ decimal session.seid

-- ---- which counting a session follows

-- Each context counts its own messages where more of them go on so, while the session's counter steps back or stands, than go on in the session
-- alone. Else the session counts.
abbrev pub counts_by_context : Totals → Bool
counts_by_context totals = nat_lt totals.of_session totals.of_context

-- Nobody knows who counts, where as many messages speak for the one as for the other, and it makes a difference.
abbrev pub is_unknown : Totals → Bool
is_unknown totals = totals.of_session == totals.of_context && not (totals.by_session == totals.by_context)

-- what was passed over by the counting that the session follows, and by the other one
abbrev pub all_passed : Totals → ℕ
all_passed totals = if counts_by_context totals then totals.by_context else totals.by_session

abbrev pub other_passed : Totals → ℕ
other_passed totals = if counts_by_context totals then totals.by_session else totals.by_context

-- what of it was passed over where it may have begun anew; the others are missing
abbrev pub open_passed : Totals → ℕ
open_passed totals = if counts_by_context totals then totals.open_context else totals.open_session

abbrev pub missing : Totals → ℕ
missing totals = all_passed totals - open_passed totals

-- what is missing of a session is not known by number
abbrev pub is_open : Totals → Bool
is_open totals = is_unknown totals || not (open_passed totals == 0)

-- the same at a hole
abbrev pub passed_here : Totals → Hole → ℕ
passed_here totals hole = if counts_by_context totals then hole.by_context else hole.by_session

abbrev pub open_here : Totals → Hole → ℕ
open_here totals hole = if counts_by_context totals then hole.open_context else hole.open_session

abbrev pub missing_here : Totals → Hole → ℕ
missing_here totals hole = if is_unknown totals then 0 else if open_here totals hole == 0 then passed_here totals hole else 0

-- ---- holes

-- A number of missing messages by their counters, which have one byte: it is exact where as many were told by a record that belongs there, or
-- a multiple of 256 more.
abbrev pub count_words : ℕ → ℕ → List ℕ
count_words n told =
    if told % 256 == n then decimal told ++ codes ", as told"
    else decimal n ++ codes ", or " ++ decimal n ++ codes " and a multiple of 256"

-- so many, where it did not begin anew
unfoldable pub open_words : ℕ → List ℕ
open_words n = decimal n ++ codes ", or " ++ decimal n ++ codes " and a multiple of 256, unless it began anew"

-- by each of the countings, where nobody knows who counts
abbrev pub both_words : Hole → List ℕ
both_words hole = decimal hole.by_session ++ codes " passed over by session, " ++ decimal hole.by_context ++ codes " by context"

-- What is said of a hole. A record tells of all sessions and contexts of an application: it decides where one session has all its messages, and counts them.
abbrev pub hole_words : Hole → Totals → ℕ → List ℕ
hole_words hole totals told =
    if is_unknown totals then both_words hole
    else if open_here totals hole == 0 then count_words (passed_here totals hole) told
    else open_words (open_here totals hole)

-- nothing was passed over by the counting that the session follows
abbrev pub is_none_here : Totals → Hole → Bool
is_none_here totals hole = passed_here totals hole == 0 && not (is_unknown totals)

-- a hole: the number of the message behind it, that message's timestamp, and the session
unfoldable pub front_text : Hole → List ℕ
front_text hole = codes "hole " ++ decimal hole.place ++ codes " " ++ time_text hole.entry.ticks ++ session_text hole.entry.session ++ codes " "

abbrev pub hole_text : Hole → Totals → ℕ → List ℕ
hole_text hole totals told =
    if is_none_here totals hole then []
    else front_text hole ++ hole_words hole totals told ++ codes "\n"

-- the message of its application before which they are missing
abbrev pub position_of : Hole → Position
position_of hole = record { source = source_of hole.entry.session; number = hole.number }

-- what records tell of one hole alone: they tell of all sessions and contexts of an application
abbrev pub told_alone : Totals → Tally → ℕ → ℕ
told_alone totals tally told = if tally.sessions == 1 && not (counts_by_context totals) then told else 0

abbrev pub hole_line : List Told → Hole → List ℕ
hole_line stream hole =
    let totals = totals_of hole.entry.session (entries stream) in
    hole_text hole totals (told_alone totals (tally_of (source_of hole.entry.session) stream) (told_for (position_of hole) stream))

-- ---- sessions

-- how many are missing between the first message and the last, by their counters
abbrev pub missing_words : ℕ → List ℕ
missing_words n =
    if n == 0 then codes "none missing between, or a multiple of 256"
    else decimal n ++ codes " missing between, or " ++ decimal n ++ codes " and a multiple of 256"

-- where it may have begun anew they are missing only if it did not
unfoldable pub doubt_words : ℕ → List ℕ
doubt_words n = codes ", except where it may have begun anew: " ++ open_words n

abbrev pub except_words : ℕ → List ℕ
except_words n = if n == 0 then [] else doubt_words n

-- what is missing of a session; where nobody knows who counts, what each counting passes over
abbrev pub lack_words : Totals → List ℕ
lack_words totals =
    if is_unknown totals then decimal totals.by_session ++ codes " passed over by session, " ++ decimal totals.by_context ++ codes " by context"
    else missing_words (missing totals) ++ except_words (open_passed totals)

abbrev pub counting_words : Totals → List ℕ
counting_words totals =
    if is_unknown totals then codes " by session or by context, which is not known: "
    else if counts_by_context totals then codes " by context: "
    else codes " by session: "

-- what was passed over by the other counting, where that differs
abbrev pub other_counting : Totals → List ℕ
other_counting totals = if counts_by_context totals then codes " by session" else codes " by context"

abbrev pub other_words : Totals → List ℕ
other_words totals =
    if is_unknown totals then []
    else if totals.by_session == totals.by_context then []
    else codes ", " ++ decimal (other_passed totals) ++ other_counting totals

-- the counter of the first message
abbrev pub first_counter : Totals → ℕ
first_counter totals = option_map_or (λ first. first.mcnt) totals.first 0

-- what is said of the time before the first message, which has this counter, and behind the last
abbrev pub outside_words : ℕ → List ℕ
outside_words first = codes "; before: not recorded here, the first counter is " ++ decimal first ++ codes "; behind: not known\n"

-- the timestamps of the first message and of the last, each behind a blank
abbrev pub times_text : Totals → List ℕ
times_text totals =
    codes " " ++ time_text (option_map_or (λ first. first.ticks) totals.first 0) ++ codes " " ++ time_text (option_map_or (λ last. last.ticks) totals.last 0)

-- the number of a session's messages, the timestamps of the first and the last, and by what they are counted
unfoldable pub head_text : Session → Totals → List ℕ
head_text session totals =
    codes "session" ++ session_text session ++ codes " " ++ decimal totals.messages ++ times_text totals ++ counting_words totals

-- what is missing between them, and what is said of the time before and behind
unfoldable pub span_text : Totals → List ℕ
span_text totals = lack_words totals ++ other_words totals ++ outside_words (first_counter totals)

abbrev pub totals_text : Session → Totals → List ℕ
totals_text session totals = head_text session totals ++ span_text totals

abbrev pub session_line : List Told → Session → List ℕ
session_line stream session = totals_text session (totals_of session (entries stream))

-- ---- applications

-- the daemon, in whose name the losses of its buffer are reported
abbrev pub buffer : Source
buffer = record { apid = daemon_apid }

abbrev pub is_daemon : Source → Bool
is_daemon source = bytes_eq source.apid daemon_apid

-- what its sessions lack, of which so many are open
unfoldable pub between_words : ℕ → ℕ → ℕ → List ℕ
between_words messages n unsure =
    if messages == 0 then codes "no message here"
    else if unsure == 0 then missing_words n
    else codes "what is missing is open, as its sessions tell"

-- which of several sessions lost them isn't told
unfoldable pub among_words : ℕ → List ℕ
among_words sessions = if nat_lt sessions 2 then [] else codes " of its " ++ decimal sessions ++ codes " sessions together"

abbrev pub cause_words : Source → List ℕ
cause_words source = if is_daemon source then codes ": the buffer was full" else codes ": the ring of " ++ id_text source.apid ++ codes " was full"

unfoldable pub whose_words : Source → ℕ → List ℕ
whose_words source sessions = among_words sessions ++ cause_words source

-- what was told, and of what
abbrev pub told_words : Source → ℕ → ℕ → List ℕ
told_words source sessions told =
    if told == 0 then codes "; none told"
    else codes "; " ++ decimal told ++ codes " told" ++ whose_words source sessions

-- how the numbers of what is missing and of what was told go together; a multiple of 256 more is what counters can't show
abbrev pub fewer_words : ℕ → List ℕ
fewer_words n = codes ", " ++ decimal n ++ codes ", or " ++ decimal n ++ codes " and a multiple of 256, fewer than are missing"

abbrev pub more_words : ℕ → List ℕ
more_words n = if n % 256 == 0 then codes ", which agrees with the counters" else codes ", " ++ decimal n ++ codes " more than the counters show"

abbrev pub rest_words : ℕ → ℕ → List ℕ
rest_words n told = if nat_lt told n then fewer_words (n - told) else more_words (told - n)

-- a part of what was told, where there is one
abbrev pub part_words : ℕ → List ℕ → List ℕ
part_words n words = if n == 0 then [] else codes ", " ++ decimal n ++ words

-- what is said of the reports of an application that has messages here; its numbers are compared where none of its sessions is open
unfoldable pub compared_words : ℕ → ℕ → ℕ → List ℕ
compared_words n unsure told = if unsure == 0 then rest_words n told else []

abbrev pub detail_words : ℕ → ℕ → Losses → List ℕ
detail_words n unsure losses =
    if losses.messages == 0 then []
    else if losses.told == 0 then []
    else compared_words n unsure losses.told ++ part_words losses.before (codes " of them before its first message") ++ part_words losses.behind (codes " of them behind its last")

-- what was told of the buffer, of another application than the daemon's own
abbrev pub buffer_words : Source → ℕ → List ℕ
buffer_words source n = if is_daemon source then [] else if n == 0 then [] else codes "; " ++ decimal n ++ codes " told of all applications: the buffer was full"

abbrev pub application_name : Source → List ℕ
application_name source = codes "application " ++ id_text source.apid

-- an application and what its sessions lack
unfoldable pub lack_text : Source → ℕ → ℕ → ℕ → List ℕ
lack_text source messages n unsure = application_name source ++ codes ": " ++ between_words messages n unsure

-- what was told of it
unfoldable pub losses_text : Source → ℕ → ℕ → Losses → List ℕ
losses_text source n unsure losses = told_words source losses.sessions losses.told ++ detail_words n unsure losses ++ buffer_words source losses.buffer ++ codes "\n"

abbrev pub application_text : Source → ℕ → ℕ → Losses → List ℕ
application_text source n unsure losses = lack_text source losses.messages n unsure ++ losses_text source n unsure losses

-- how many sessions of an application are open
abbrev pub open_in : Source → List Told → ℕ
open_in source stream = counted (sum_by (λ session. if same_source (source_of session) source then (if is_open (totals_of session (entries stream)) then 1 else 0) else 0) (sessions (entries stream)))

abbrev pub missing_in : Source → List Told → ℕ
missing_in source stream = counted (sum_by (λ session. if same_source (source_of session) source then missing (totals_of session (entries stream)) else 0) (sessions (entries stream)))

abbrev pub losses_of : Source → List Told → Losses
losses_of source stream = record {
  messages = (tally_of source stream).messages;
  sessions = (tally_of source stream).sessions;
  told = (tally_of source stream).lost;
  before = told_for (record { source = source; number = 1 }) stream;
  behind = told_for (record { source = source; number = next_number (tally_of source stream) }) stream;
  buffer = (tally_of buffer stream).lost;
}

abbrev pub application_line : List Told → Source → List ℕ
application_line stream source = application_text source (missing_in source stream) (open_in source stream) (losses_of source stream)

-- The text of a stream's account: its holes in the order of the stream, then its sessions and its applications in the order of their first messages.
abbrev pub printed : List Told → List ℕ
printed stream = flat_map (hole_line stream) (holes stream) ++ flat_map (session_line stream) (sessions (entries stream)) ++ flat_map (application_line stream) (sources stream)
