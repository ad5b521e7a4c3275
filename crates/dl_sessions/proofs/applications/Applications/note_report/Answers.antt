use Rattle.std.proofs.Common.{ℕ, ◌+◌, ap, ◌∙◌}
use Rattle.dl_sessions.specs.Gaps.{counted}
use Rattle.dl_sessions.specs.declared.applications.Applications.{Applications}
use Rattle.dl_sessions.proofs.Applying.{reported}
use Rattle.dl_sessions.proofs.applications.Applications.note_report.Goals as goal

pub returns : goal.returns
returns c = λ stream are.
    let l = c.args.report.now in
    let tally = c.tally_so_far-tally.result in
    let old = c.args.self.now in
    let new : Applications = record { tallies = c.insert.new.self; told = c.insert-2.new.self; sources = c.push_first.new.sources } in
    reported stream l tally c.noted_report.result c.owner.result c.saturating_add-told.result old new are (c.tally_so_far-tally.ensures ∙ are.tallies_are l.source) c.noted_report.ensures c.owner.ensures
    c.in_ok-push_first.ensures c.in_ok-insert.ensures.updates.0 (c.saturating_add-told.ensures ∙ ap (λ (n : ℕ). counted (n + l.count)) c.told_so_far.ensures) c.in_ok-insert-2.ensures.updates.0
