use Rattle.std.proofs.Common.{◌∙◌, ap, refl, arith, Ok}
use Rattle.dl_world.proofs.HandingOut.{hands_next, hands_none, rest_both}
use Rattle.dl_world.proofs.world.World.note_levels.Goals as goal

pub loop-init : goal.loop-init
loop-init c = record { rest = λ new all. all; same = refl }

pub returns-in_err-note_level-clause-rest : goal.returns-in_err-note_level-clause-rest
returns-in_err-note_level-clause-rest c = rest_both c.args.self.now c.loop.self c.note_level.new.self c.loop.invariant.same c.note_level.ensures.rest

pub loop-smaller : goal.loop-smaller
loop-smaller c = omega (arith, c.note_level.ensures.fewer (c.in_ok-note_level.was ∙ ap Ok c.if-branch.true))

pub loop-preserved : goal.loop-preserved
loop-preserved c = record {
  rest = λ new all. c.loop.invariant.rest new (hands_next c.loop.self c.note_level.new.self new c.in_ok-note_level.ensures.does all);
  same = rest_both c.args.self.now c.loop.self c.note_level.new.self c.loop.invariant.same c.note_level.ensures.rest;
}

pub returns-clause-does : goal.returns-clause-does
returns-clause-does c =
    c.loop.invariant.rest c.note_level.new.self
    (hands_none c.loop.self c.note_level.new.self c.in_ok-note_level.ensures.does (c.note_level.ensures.none (c.in_ok-note_level.was ∙ ap Ok c.if-branch.false)))

pub returns-clause-rest : goal.returns-clause-rest
returns-clause-rest c = rest_both c.args.self.now c.loop.self c.note_level.new.self c.loop.invariant.same c.note_level.ensures.rest
