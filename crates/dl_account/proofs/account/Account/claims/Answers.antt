use Rattle.std.proofs.Common.{subst}
use Rattle.dl_account.specs.AccountInside.{settled_side}
use Rattle.dl_account.specs.Settled.{IsSettled}
use Rattle.dl_account.proofs.Accounting.{settled, claimed_told}
use Rattle.dl_account.proofs.account.Account.claims.Goals as goal

pub returns-clause-claimed : goal.returns-clause-claimed
returns-clause-claimed c whole =
    let inside = c.self.inside in
    claimed_told c.args.self.now
    (subst IsSettled c.self.view_is (settled (settled_side inside) inside.journal.events inside.ends c.self.invariant.books c.self.invariant.handles c.self.invariant.drained c.reports.ensures.small))
    whole
