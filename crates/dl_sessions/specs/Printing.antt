-- The lines of holes, of sessions and of applications, by what is kept of them.
use Rattle.std.specs.Prelude.{ℕ, List, sum_by, unwrap_or, if◌then◌else◌}
use Rattle.std.specs.HashMap as hash
use Rattle.dl_sessions.specs.declared.account.Account.{Account}
use Rattle.dl_sessions.specs.declared.applications.Applications.{Applications}
use Rattle.dl_sessions.specs.declared.session.Hole.{Hole}
use Rattle.dl_sessions.specs.declared.session.Losses.{Losses}
use Rattle.dl_sessions.specs.declared.session.Session.{Session}
use Rattle.dl_sessions.specs.declared.session.Source.{Source}
use Rattle.dl_sessions.specs.declared.session.Totals.{Totals}
use Rattle.dl_sessions.specs.Account.{no_totals}
use Rattle.dl_sessions.specs.Applications.{next_number, tally_by, told_by}
use Rattle.dl_sessions.specs.Gaps.{counted, same_session, same_source, source_of}
use Rattle.dl_sessions.specs.Text.{application_text, buffer, hole_text, is_open, missing, position_of, told_alone, totals_text}

abbrev pub totals_by : {S : Type 0} → hash.HashMap Session Totals S → Session → Totals
totals_by totals session = unwrap_or (hash.get same_session totals session) no_totals

abbrev pub hole_by : {S : Type 0} → hash.HashMap Session Totals S → Applications → Hole → List ℕ
hole_by totals applications hole =
    let own = totals_by totals hole.entry.session in
    hole_text hole own (told_alone own (tally_by applications (source_of hole.entry.session)) (told_by applications (position_of hole)))

abbrev pub session_by : {S : Type 0} → hash.HashMap Session Totals S → Session → List ℕ
session_by totals session = totals_text session (totals_by totals session)

abbrev pub missing_of : {S : Type 0} → hash.HashMap Session Totals S → Source → Session → ℕ
missing_of totals source session = if same_source (source_of session) source then missing (totals_by totals session) else 0

abbrev pub missing_by : {S : Type 0} → hash.HashMap Session Totals S → Source → List Session → ℕ
missing_by totals source sessions = counted (sum_by (missing_of totals source) sessions)

abbrev pub open_of : {S : Type 0} → hash.HashMap Session Totals S → Source → Session → ℕ
open_of totals source session = if same_source (source_of session) source then (if is_open (totals_by totals session) then 1 else 0) else 0

abbrev pub open_by : {S : Type 0} → hash.HashMap Session Totals S → Source → List Session → ℕ
open_by totals source sessions = counted (sum_by (open_of totals source) sessions)

abbrev pub losses_by : Applications → Source → Losses
losses_by applications source = record {
  messages = (tally_by applications source).messages;
  sessions = (tally_by applications source).sessions;
  told = (tally_by applications source).lost;
  before = told_by applications (record { source = source; number = 1 });
  behind = told_by applications (record { source = source; number = next_number (tally_by applications source) });
  buffer = (tally_by applications buffer).lost;
}

abbrev pub application_by : Account → Source → List ℕ
application_by account source =
    application_text source (missing_by account.totals source account.sessions.items) (open_by account.totals source account.sessions.items) (losses_by account.applications source)
