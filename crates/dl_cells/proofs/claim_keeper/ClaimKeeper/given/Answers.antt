use Rattle.std.proofs.Common.{rules, arith, ◌<◌, ℕ, subst, sym}
use Rattle.dl_cells.specs.Claims.{refused_of}
use Rattle.dl_cells.specs.ClaimStates.{KeeperState}
use Rattle.dl_cells.proofs.ClaimKeeping.{looking}
use Rattle.dl_cells.proofs.claim_keeper.ClaimKeeper.given.Goals as goal

pub load-found-requires : goal.load-found-requires
load-found-requires c = (search rules, search rules, looking _ _ _ _ _ (search rules))

pub returns-clause-full : goal.returns-clause-full
returns-clause-full c = λ some.
    let there : 0 < refused_of c.from.result c.self.inside.seat.me.0.refused = subst (λ (z : ℕ × KeeperState). 0 < refused_of z.0 z.1.refused) (λ i. (sym c.from.ensures i, sym c.self.view_is i)) some in
    let all = c.load-found.ensures.2.2.full there in
    let least = c.min.ensures in
    omega arith
