use Rattle.std.proofs.Common.{◌<◌, ℕ, List, length, sym, subst, ◌∙◌}
use Rattle.dl_sessions.proofs.Following.{IsCounting, arrives, goes_on, sets_out}
use Rattle.dl_sessions.proofs.Readings.{shorter}
use Rattle.dl_sessions.proofs.follower.Counts.add_all.Goals as goal

pub loop-place-init : goal.loop-place-init
loop-place-init c = λ before after. sets_out before c.args.bytes.now c.args.self.now after

pub loop-place-smaller : goal.loop-place-smaller
loop-place-smaller c =
    let now = c.loop-place.rest.now in
    subst (λ (m : List ℕ). length m < length now) (sym c.behind_first-rest.ensures) (shorter now c.in-Some.place (sym c.first_place.ensures ∙ c.in-Some.is))

pub loop-place-preserved : goal.loop-place-preserved
loop-place-preserved c = λ before after.
    let bytes = c.args.bytes.now in
    let now = c.loop-place.rest.now in
    subst (λ (m : List ℕ). IsCounting before bytes m c.add.new.self) (sym c.behind_first-rest.ensures)
    (goes_on before bytes now c.in-Some.place c.told_first.result c.loop-place.self c.add.new.self (c.loop-place.invariant before after) (sym c.first_place.ensures ∙ c.in-Some.is) c.told_first.ensures
    (λ stream so. c.in_ok-add.ensures stream so))

pub returns : goal.returns
returns c = λ before after. arrives before c.args.bytes.now c.loop-place.rest.now c.loop-place.self (c.loop-place.invariant before after) (sym c.first_place.ensures ∙ c.in_default.is)
