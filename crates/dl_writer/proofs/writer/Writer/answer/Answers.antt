use Rattle.std.proofs.Common.{subst, sym, ◌<◌}
use Rattle.dl_ring.specs.Items.{item_with}
use Rattle.dl_writer.specs.Calls.{passed}
use Rattle.dl_writer.specs.State.{WriterState}
use Rattle.dl_writer.proofs.Writers.{called}
use Rattle.dl_writer.proofs.writer.Writer.answer.Goals as goal

pub invariant_of-self : goal.invariant_of-self
invariant_of-self g c =
    called c.self.inside c.push_call.new.self (item_with c.last_call-call.result c.args.payload.now) (c.push_call.ensures.pushed c.if-push_call.true)
    (subst (λ (w : WriterState). passed w < w.calls) (sym c.self.view_is) c.requires.number) c.self.invariant
