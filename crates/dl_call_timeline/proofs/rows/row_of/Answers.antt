use Rattle.std.proofs.Common.{ℕ, List, ◌++◌, ap, ◌∙◌}
use Rattle.dl_call_timeline.specs.Marks.{marks_of}
use Rattle.dl_call_timeline.specs.Names.{name_text, note_text}
use Rattle.dl_call_timeline.proofs.rows.row_of.Goals as goal

pub returns : goal.returns
returns c = λ scale keeps.
    let name = c.in_ok-push_name.ensures ∙ ap (λ (l : List ℕ). l ++ name_text c.args.ecu.now c.args.apid.now c.args.number) c.new-name.ensures.items in
    let note = c.in_ok-push_note.ensures ∙ ap (λ (l : List ℕ). l ++ note_text c.total_of.result) c.new-note.ensures.items ∙ ap note_text c.total_of.ensures in
    let bins = c.in_ok-bins.ensures (marks_of scale c.args.calls.now) keeps in
    λ i. record { name = name i; note = note i; bins = bins i }
