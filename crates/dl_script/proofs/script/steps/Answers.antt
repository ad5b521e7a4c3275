use Rattle.std.proofs.Common.{◌≡◌, ◌+◌, ◌∷◌, length, ap, sym, ◌∙◌, arith}
use Rattle.dl_script.specs.Line.{step_of}
use Rattle.dl_script.specs.Script.{entries}
use Rattle.dl_script.proofs.Entries.{all_before, goes_on}
use Rattle.dl_script.proofs.script.steps.Goals as goal

pub loop-line-preserved : goal.loop-line-preserved
loop-line-preserved c =
    let lines : c.loop-line.line-iterator ≡ c.in-Some.line.now ∷ c.next.new.self = c.in-Some.ensures.steps in
    record {
      told = rw c.in_ok-push-in-Ok.ensures.items
          (sym (goes_on step_of c.loop-line.known (c.loop-line.number + 1) c.in-Some.line.now c.next.new.self c.loop-line.steps.items c.in-Ok.step c.judged_step.new.known
          (sym c.if-says_nothing.ensures) c.in-Ok.ensures)
          ∙ ap (λ lines. all_before c.loop-line.steps.items (entries step_of c.loop-line.known (c.loop-line.number + 1) lines)) (sym lines) ∙ c.loop-line.invariant.told);
      lines = omega (arith, c.loop-line.invariant.lines, ap length lines);
    }
