-- The account of a stream of messages: what each session has, and what is missing of it.
use Rattle.std.specs.Prelude.{◌≡◌, ℕ, ◌+◌, ◌==◌, ◌&&◌, List, [], ◌∷◌, ◌++◌, length, sum, count_by, find, Some, None, unwrap_or, is_none, if◌then◌else◌}
use Rattle.std.specs.Option.{option_map, option_or}
use Rattle.std.specs.HashMap as hash
use Rattle.dl_model.specs.Along.{along}
use Rattle.dl_sessions.specs.Applications.{AreOf, next_number, tally_of}
use Rattle.dl_sessions.specs.Gaps.{context_counts, counted, entries, gap_in_context, gap_in_session, is_in, is_of, latest, latest_of, of_context, of_session, unsure, open_in_context, open_in_session, passed, same_context, same_session, session_counts, source_of, turn_of}
use Rattle.dl_sessions.specs.declared.account.Account.{Account}
use Rattle.dl_sessions.specs.declared.account.Step.{Step}
use Rattle.dl_sessions.specs.declared.session.Context.{Context}
use Rattle.dl_sessions.specs.declared.session.Entry.{Entry}
use Rattle.dl_sessions.specs.declared.session.Hole.{Hole}
use Rattle.dl_sessions.specs.declared.session.Latest.{Latest}
use Rattle.dl_sessions.specs.declared.session.Session.{Session}
use Rattle.dl_sessions.specs.declared.session.Told.{Told}
use Rattle.dl_sessions.specs.declared.session.Told.TheVariants as told
use Rattle.dl_sessions.specs.declared.session.Totals.{Totals}
use Rattle.dl_sessions.specs.declared.session.Turn.{Turn}

-- ---- what is counted

-- what is counted before each message of a session
abbrev pub gaps : (List Entry → Entry → ℕ) → Session → List Entry → List ℕ
gaps missing session es = along (λ before e. if is_in session e then missing before e ∷ [] else []) es

abbrev pub totals_of : Session → List Entry → Totals
totals_of session es = record {
  messages = counted (count_by (is_in session) es);
  first = option_map latest_of (find (is_in session) es);
  last = latest (is_in session) es;
  by_session = counted (sum (gaps gap_in_session session es));
  by_context = counted (sum (gaps gap_in_context session es));
  open_session = counted (sum (gaps open_in_session session es));
  open_context = counted (sum (gaps open_in_context session es));
  of_session = counted (sum (gaps session_counts session es));
  of_context = counted (sum (gaps context_counts session es));
}

-- the sessions, in the order of their first messages
abbrev pub sessions : List Entry → List Session
sessions es = along (λ before e. if is_none (latest (is_in e.session) before) then e.session ∷ [] else []) es

-- ---- over the stream

-- a hole, where something is missing
abbrev pub hole_if : Hole → List Hole
hole_if hole = if hole.by_session == 0 && hole.by_context == 0 then [] else hole ∷ []

-- The hole before a message, where messages are missing; its place is the number of that message in the stream, its number the one among those
-- of its application.
abbrev pub hole_here : List Told → Entry → Hole
hole_here before e = record {
  place = counted (length before + 1);
  number = next_number (tally_of (source_of e.session) before);
  entry = e;
  by_session = gap_in_session (entries before) e;
  by_context = gap_in_context (entries before) e;
  open_session = open_in_session (entries before) e;
  open_context = open_in_context (entries before) e;
}

abbrev pub hole_at : List Told → Told → List Hole
hole_at before (told.Log e) = hole_if (hole_here before e)
hole_at before _ = []

abbrev pub holes : List Told → List Hole
holes stream = along hole_at stream

-- ---- one message more

abbrev pub no_totals : Totals
no_totals = record { messages = 0; first = None; last = None; by_session = 0; by_context = 0; open_session = 0; open_context = 0; of_session = 0; of_context = 0 }

-- what is counted of a session with one message more, which is this to its context
abbrev pub noted : Totals → Entry → Turn → Totals
noted t e turn = record {
  messages = counted (t.messages + 1);
  first = option_or t.first (Some (latest_of e));
  last = Some (latest_of e);
  by_session = counted (t.by_session + passed t.last e);
  by_context = counted (t.by_context + turn.missing);
  open_session = counted (t.open_session + unsure t.last e);
  open_context = counted (t.open_context + turn.unsure);
  of_session = counted (t.of_session + of_session t.last turn.goes_on e);
  of_context = counted (t.of_context + of_context t.last turn.goes_on e);
}

-- what is kept of contexts and of sessions
abbrev pub KeepsContexts : {S : Type 0} → hash.HashMap Context Latest S → List Entry → Type 0
KeepsContexts contexts es = (context : Context) → hash.get same_context contexts context ≡ latest (is_of context) es

abbrev pub KeepsTotals : {S : Type 0} → hash.HashMap Session Totals S → List Entry → Type 0
KeepsTotals totals es = (session : Session) → unwrap_or (hash.get same_session totals session) no_totals ≡ totals_of session es

-- a message was noted of its context, and of its session
abbrev pub NotedContext : {S : Type 0} → List Entry → Entry → Turn → hash.HashMap Context Latest S → Type 0
NotedContext es e turn contexts = (turn ≡ turn_of es e) × KeepsContexts contexts (es ++ e ∷ [])

abbrev pub NotedSession : {S : Type 0} → List Entry → Entry → Step → hash.HashMap Session Totals S → Type 0
NotedSession es e step totals =
    (step.by_session ≡ gap_in_session es e) × (step.unsure ≡ open_in_session es e) × (step.is_first ≡ is_none (latest (is_in e.session) es)) × KeepsTotals totals (es ++ e ∷ [])

-- The account of a stream.
pub record IsAfter (stream : List Told) (account : Account) : Type 0 where
  pub totals_are : KeepsTotals account.totals (entries stream)
  pub contexts_are : KeepsContexts account.contexts (entries stream)
  pub applications_are : AreOf stream account.applications
  pub sessions_are : account.sessions.items ≡ sessions (entries stream)
  pub holes_are : account.holes.items ≡ holes stream
  pub messages_are : account.messages ≡ counted (length stream)
