use Rattle.dl_report.proofs.Tables.{set_is_changed, changed_past}
use Rattle.dl_report.specs.Counts.{with_loss}
use Rattle.dl_report.proofs.count.count_loss.Goals as goal

pub returns-then-place-table : goal.returns-then-place-table
returns-then-place-table c = set_is_changed c.args.table.now c.args.app (with_loss c.args.count) _ c.if-place-table.true

pub returns-else-place-table : goal.returns-else-place-table
returns-else-place-table c = changed_past c.args.table.now c.args.app (with_loss c.args.count) c.if-place-table.false
