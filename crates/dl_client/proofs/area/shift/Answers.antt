use Rattle.std.proofs.Common.{◌∙◌, ap, take, ◌-◌}
use Rattle.dl_client.proofs.Shifted.{shifted}
use Rattle.dl_client.proofs.area.shift.Goals as goal

pub returns : goal.returns
returns c = ap (take (c.args.end - c.args.start)) c.copy_within.ensures.after ∙ shifted c.args.bytes.now c.args.start c.args.end c.requires.end
