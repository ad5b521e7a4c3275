use Rattle.std.proofs.Common.{arith, ◌∙◌, ◌≡◌, ◌-◌, length, drop, take, length-drop}
use Rattle.std.proofs.lemmas.List.{take_all}
use Rattle.dl_outside.specs.Outside.{Takes}
use Rattle.dl_outside.specs.declared.sink.Took.TheVariants.{Bytes}
use Rattle.dl_outside.proofs.Sinks.{wrote}
use Rattle.dl_outside.proofs.writing.write_text.Goals as goal

pub loop-done-preserved : goal.loop-done-preserved
loop-done-preserved g c =
    let whole : take (length c.args.text.now - c.loop-done.done) (drop c.loop-done.done c.args.text.now) ≡ drop c.loop-done.done c.args.text.now =
    take_all _ _ (omega (arith, length-drop c.loop-done.done c.args.text.now)) in
    let taken : Takes (g.O.Sink.told c.loop-done.out).held (g.O.Sink.told c.write.new.self).held (Bytes c.in-Bytes.n) (drop c.loop-done.done c.args.text.now) =
    rw whole at c.in-Bytes.ensures.bytes in
    record {
      within = omega (arith, taken.1, length-drop c.loop-done.done c.args.text.now);
      held = wrote (g.O.Sink.told c.args.out.now).held (g.O.Sink.told c.loop-done.out).held (g.O.Sink.told c.write.new.self).held c.args.text.now c.loop-done.done c.in-Bytes.n c.loop-done.invariant.held taken;
      well = c.in-Bytes.ensures.cause ∙ c.loop-done.invariant.well;
    }
