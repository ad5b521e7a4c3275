use Rattle.std.proofs.lemmas.Result.{on_ok_weaker}
use Rattle.dl_sessions.specs.Gaps.{entries}
use Rattle.dl_sessions.specs.declared.account.Account.{Account}
use Rattle.dl_sessions.proofs.Accounts.{flagged, logged}
use Rattle.dl_sessions.proofs.account.Account.note_log.Goals as goal

pub returns : goal.returns
returns c = λ stream after.
    let e = c.args.entry.now in
    let old = c.args.self.now in
    let new : Account = record {
      totals = c.note_session.new.totals;
      contexts = c.note_context.new.contexts;
      applications = c.note_message.new.self;
      sessions = c.push_first.new.sessions;
      holes = c.push_hole.new.holes;
      messages = c.saturating_add-self.result;
    } in
    let context = c.in_ok-turn.ensures (entries stream) after.contexts_are in
    let session = c.in_ok-step.ensures (entries stream) after.totals_are context.0 in
    let applications = c.in_ok-number.ensures stream after.applications_are
    (flagged stream e c.in_ok-turn.turn c.in_ok-step.step c.is_missing-is_behind_hole.result context.0 session.0 c.is_missing-is_behind_hole.ensures) session.2 in
    on_ok_weaker c.push_hole.result (logged stream e old new c.in_ok-turn.turn c.in_ok-step.step c.in_ok-number.number after context session applications.0 applications.1 c.in_ok-push_first.ensures c.saturating_add-self.ensures) c.push_hole.ensures
