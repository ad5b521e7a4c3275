use Rattle.std.proofs.Common.{ap, ◌∙◌}
use Rattle.std.specs.HashMap as hash
use Rattle.dl_picture.specs.Tally.{joined}
use Rattle.dl_picture.specs.declared.chart.Bin.{Bin}
use Rattle.dl_timeline.specs.Timeline.{same_report}
use Rattle.dl_timeline.proofs.Keeping.{report_kept}
use Rattle.dl_timeline.proofs.timeline.add_report.Goals as goal

pub returns : goal.returns
returns c = λ so_far keeps.
    let m = c.args.report in
    report_kept (hash.get same_report c.args.reports.now) (hash.get same_report c.insert.new.self) so_far m c.joined-bin.result c.in_ok-insert.ensures.updates.0
    (c.joined-bin.ensures ∙ ap (λ (b : Bin). joined b m.bin) (c.report_so_far.ensures ∙ keeps m.spot)) keeps
