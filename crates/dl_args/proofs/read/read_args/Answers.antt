use Rattle.std.proofs.Common.{length, ap, ◌∙◌}
use Rattle.dl_args.specs.Coming.{all_of}
use Rattle.dl_args.proofs.Parts.{at_front}
use Rattle.dl_args.proofs.ArgLoop.{coming_is, only_read}
use Rattle.dl_args.proofs.read.read_args.Goals as goal

pub returns-in-Ok-clause-only : goal.returns-in-Ok-clause-only
returns-in-Ok-clause-only c =
    let payload = c.args.payload.now in
    let exact = c.in-Ok.ensures ∙ ap all_of c.make.ensures ∙ coming_is (length payload) c.args.count (at_front c.args.order payload) in
    only_read c.args.order c.args.count payload c.in-Ok.read exact
