use Rattle.std.proofs.Common.{sym, ap, ◌∙◌}
use Rattle.std.specs.HashMap as hash
use Rattle.std.specs.Option.{is_some}
use Rattle.dl_sessions.specs.Account.{noted, totals_of}
use Rattle.dl_sessions.specs.Gaps.{unsure, passed, same_session}
use Rattle.dl_sessions.specs.declared.session.Totals.{Totals}
use Rattle.dl_sessions.proofs.OneMore.{none_if, totals_kept}
use Rattle.dl_sessions.proofs.account.note_session.Goals as goal

pub returns : goal.returns
returns c = λ es keeps turn.
    let e = c.args.entry.now in
    let old = c.totals_so_far-old.ensures ∙ keeps e.session in (
      c.passed.ensures ∙ ap (λ (t : Totals). passed t.last e) old,
      c.unsure.ensures ∙ ap (λ (t : Totals). unsure t.last e) old,
      none_if c.is_none.result (totals_of e.session es).last (sym c.is_none.ensures ∙ ap (λ (t : Totals). is_some t.last) old),
      totals_kept (hash.get same_session c.args.totals.now) (hash.get same_session c.insert.new.self) es e c.noted.result c.in_ok-insert.ensures.updates.0
          (c.noted.ensures ∙ ap (λ (t : Totals). noted t e c.args.turn) old ∙ ap (noted (totals_of e.session es) e) turn) keeps,
    )
