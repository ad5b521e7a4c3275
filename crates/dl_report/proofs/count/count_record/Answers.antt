use Rattle.std.proofs.Common.{ap, ◌∙◌, slice_set}
use Rattle.dl_report.specs.Counts.{with_answer}
use Rattle.dl_report.proofs.Counting.{counts_one}
use Rattle.dl_report.proofs.Tables.{set_is_changed, changed_past}
use Rattle.dl_report.proofs.count.count_record.Goals as goal

pub returns-then-place-table : goal.returns-then-place-table
returns-then-place-table c = counts_one c.args.call.now c.args.table.now _
    (ap (slice_set c.args.table.now c.args.call.now.item.app) c.add_answer.ensures
    ∙ set_is_changed c.args.table.now c.args.call.now.item.app (with_answer c.args.call.now.answer) _ c.if-place-table.true)

pub returns-else-place-table : goal.returns-else-place-table
returns-else-place-table c = counts_one c.args.call.now c.args.table.now c.args.table.now
    (changed_past c.args.table.now c.args.call.now.item.app (with_answer c.args.call.now.answer) c.if-place-table.false)
