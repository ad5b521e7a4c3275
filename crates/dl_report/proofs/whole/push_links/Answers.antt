use Rattle.dl_report.proofs.Closing.{links_go_on}
use Rattle.dl_report.proofs.whole.push_links.Goals as goal

pub loop-link-preserved : goal.loop-link-preserved
loop-link-preserved c = λ events is.
    links_go_on events c.args.closes.now _ c.args.links.now c.loop-link.link-index _ c.reason-why.result c.args.text.now.items c.loop-link.text.items c.push_link.new.text.items
    c.loop-link-test.true is c.reason-why.ensures (c.loop-link.invariant events is) c.in_ok-push_link.ensures
