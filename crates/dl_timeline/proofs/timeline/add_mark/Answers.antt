use Rattle.std.proofs.Common.{ap, ◌∙◌}
use Rattle.std.specs.HashMap as hash
use Rattle.dl_picture.specs.Tally.{joined}
use Rattle.dl_picture.specs.declared.chart.Bin.{Bin}
use Rattle.dl_timeline.specs.Timeline.{same_spot}
use Rattle.dl_timeline.proofs.Keeping.{spot_kept}
use Rattle.dl_timeline.proofs.timeline.add_mark.Goals as goal

pub returns : goal.returns
returns c = λ marks keeps.
    let m = c.args.mark in
    spot_kept (hash.get same_spot c.args.spots.now) (hash.get same_spot c.insert.new.self) marks m c.joined-bin.result c.in_ok-insert.ensures.updates.0
    (c.joined-bin.ensures ∙ ap (λ (b : Bin). joined b m.bin) (c.spot_so_far.ensures ∙ keeps m.spot)) keeps
