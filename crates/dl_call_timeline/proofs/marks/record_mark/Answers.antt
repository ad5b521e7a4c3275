use Rattle.std.proofs.Common.{◌∙◌}
use Rattle.dl_call_timeline.proofs.marks.record_mark.Goals as goal

pub returns : goal.returns
returns c = λ scale calls keeps.
    let column = c.column.ensures ∙ keeps c.args.name in
    λ i. record { cell = record { row = c.args.writer; column = column i }; bin = record (c.no_bin.ensures i) { lost = 1; first_line = c.args.name.line; last_line = c.args.name.line } }
