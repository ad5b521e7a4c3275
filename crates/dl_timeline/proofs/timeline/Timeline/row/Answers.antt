use Rattle.std.proofs.Common.{ℕ, List, ◌++◌, ap, ◌∙◌}
use Rattle.dl_timeline.specs.Timeline.{name_text, note_text}
use Rattle.dl_timeline.proofs.timeline.Timeline.row.Goals as goal

pub returns : goal.returns
returns c = λ stream after is.
    let session = c.args.session.now in
    let name = c.in_ok-push_name.ensures ∙ ap (λ (l : List ℕ). l ++ name_text session) c.new-name.ensures.items in
    let note = c.in_ok-push_note.ensures ∙ ap (λ (l : List ℕ). l ++ note_text c.totals.result) c.new-note.ensures.items ∙ ap note_text (c.totals.ensures stream after) in
    let bins = c.in_ok-bins.ensures stream is in
    λ i. record { name = name i; note = note i; bins = bins i }
