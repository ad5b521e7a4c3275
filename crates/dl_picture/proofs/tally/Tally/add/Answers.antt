use Rattle.std.proofs.Common.{ap, ◌∙◌}
use Rattle.std.specs.HashMap as hash
use Rattle.dl_picture.specs.Tally.{joined, same_cell}
use Rattle.dl_picture.specs.declared.chart.Bin.{Bin}
use Rattle.dl_picture.proofs.Adding.{kept}
use Rattle.dl_picture.proofs.tally.Tally.add.Goals as goal

pub returns : goal.returns
returns c = λ marks keeps.
    let m = c.args.mark.now in
    kept (hash.get same_cell c.args.self.now.bins) (hash.get same_cell c.insert.new.self) marks m c.joined-bin.result c.in_ok-insert.ensures.updates.0
    (c.joined-bin.ensures ∙ ap (λ (b : Bin). joined b m.bin) (c.so_far.ensures ∙ keeps m.cell)) keeps
