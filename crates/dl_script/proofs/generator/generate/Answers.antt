use Rattle.std.proofs.Common.{◌≡◌, ◌+◌, ◌-◌, ◌++◌, ◌∙◌}
use Rattle.dl_script.specs.Generated.{turns, generated}
use Rattle.dl_script.proofs.Turns.{one_turn, no_turn}
use Rattle.dl_script.proofs.generator.generate.Goals as goal

pub loop-i-preserved : goal.loop-i-preserved
loop-i-preserved c =
    let all : c.push_turn.new.steps.items ++ turns (c.args.calls - (c.loop-i.i + 1)) (c.loop-i.i + 1 + 1) c.push_turn.new.draws.word ≡ generated c.args.number c.args.calls =
    rw (c.in_ok-push_turn.ensures.steps, c.in_ok-push_turn.ensures.word)
    (one_turn c.loop-i.steps.items c.args.calls c.loop-i.i c.loop-i.draws.word c.loop-i-test.true ∙ c.loop-i.invariant) in
    all

pub returns : goal.returns
returns c =
    c.over.ensures ∙ no_turn c.loop-i.steps.items c.args.calls c.loop-i.i c.loop-i.draws.word c.loop-i-test.false ∙ c.loop-i.invariant
