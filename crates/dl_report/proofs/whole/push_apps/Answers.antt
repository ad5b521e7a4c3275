use Rattle.dl_report.proofs.AppLines.{apps_go_on}
use Rattle.dl_report.proofs.whole.push_apps.Goals as goal

pub loop-number-preserved : goal.loop-number-preserved
loop-number-preserved c = λ records events counted.
    apps_go_on records events c.args.specs.now c.args.table.now c.loop-number.number c.index-specs-number.result _ _ c.loop-number.text.items c.push_app.new.text.items
    c.loop-number-test.true c.requires.size c.index-specs-number.is counted (c.loop-number.invariant records events counted) c.in_ok-push_app.ensures
