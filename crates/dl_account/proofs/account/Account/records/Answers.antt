use Rattle.std.proofs.Common.{subst}
use Rattle.dl_account.specs.AccountInside.{settled_side}
use Rattle.dl_account.specs.Settled.{IsSettled}
use Rattle.dl_account.proofs.Accounting.{settled, losses_told, queued_told}
use Rattle.dl_account.proofs.account.Account.records.Goals as goal

pub returns-clause-settled : goal.returns-clause-settled
returns-clause-settled c =
    let inside = c.self.inside in
    subst IsSettled c.self.view_is (settled (settled_side inside) inside.journal.events inside.ends c.self.invariant.books c.self.invariant.handles c.self.invariant.drained c.reports.ensures.small)

pub returns-clause-losses : goal.returns-clause-losses
returns-clause-losses c whole = losses_told c.args.self.now (returns-clause-settled c) whole

pub returns-clause-queued : goal.returns-clause-queued
returns-clause-queued c whole = queued_told c.args.self.now (returns-clause-settled c) whole
