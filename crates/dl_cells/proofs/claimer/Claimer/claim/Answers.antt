use Rattle.std.proofs.Common.{rules, arith, ◌∙◌, ◌<◌, ℕ, ap, subst, sym}
use Rattle.dl_cells.specs.Views.{bit}
use Rattle.dl_cells.specs.Claims.{refused_of}
use Rattle.dl_cells.specs.ClaimStates.{ClaimerState}
use Rattle.dl_cells.proofs.ClaimKeeping.{claiming}
use Rattle.dl_cells.proofs.claimer.Claimer.claim.Goals as goal

pub fetch_add-found-requires : goal.fetch_add-found-requires
fetch_add-found-requires c = let none_yet = c.self.invariant.noted c.from-place.result ∙ ap bit c.if-self-place.false in (search rules, search rules, claiming _ _ _ _ _ (search rules) none_yet (search rules))

pub returns-then-found-lt-NUMBERS-clause-over : goal.returns-then-found-lt-NUMBERS-clause-over
returns-then-found-lt-NUMBERS-clause-over c = λ some.
    let there : 0 < refused_of c.from-place.result c.self.inside.seat.me.0.refused = subst (λ (z : ℕ × ClaimerState). 0 < refused_of z.0 z.1.refused) (λ i. (sym c.from-place.ensures i, sym c.self.view_is i)) some in
    let none_yet = c.self.invariant.noted c.from-place.result ∙ ap bit c.if-self-place.false in
    absurd (omega arith)
