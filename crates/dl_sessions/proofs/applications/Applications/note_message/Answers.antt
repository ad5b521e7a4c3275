use Rattle.std.proofs.Common.{refl, sym, ap, ◌∙◌}
use Rattle.dl_sessions.specs.Applications.{next_number, tally_of}
use Rattle.dl_sessions.specs.declared.applications.Applications.{Applications}
use Rattle.dl_sessions.specs.declared.session.Source.{Source}
use Rattle.dl_sessions.specs.declared.session.Tally.{Tally}
use Rattle.dl_sessions.proofs.Applying.{messaged_by}
use Rattle.dl_sessions.proofs.applications.Applications.note_message.Goals as goal

pub returns : goal.returns
returns c = λ stream are flag first.
    let e = c.args.entry.now in
    let who = c.source_of-source.result in
    let tally = c.tally_so_far-tally.result in
    let tally_is = c.tally_so_far-tally.ensures ∙ are.tallies_are who in
    let old = c.args.self.now in
    let new : Applications = record { tallies = c.insert.new.self; told = old.told; sources = c.push_first.new.sources } in (
      ap (λ (t : Tally). t.messages) c.noted_message-noted.ensures ∙ ap next_number (tally_is ∙ ap (λ (w : Source). tally_of w stream) c.source_of-source.ensures),
      messaged_by stream e c.args.is_behind_hole c.args.is_first who tally c.noted_message-noted.result old new are flag first (sym c.source_of-source.ensures) tally_is c.noted_message-noted.ensures
          c.in_ok-push_first.ensures c.in_ok-insert.ensures.updates.0 (λ x. refl),
    )
