use Rattle.dl_runs.proofs.CallCauses.{causes_are, accounts_have, accounts_taken, full_told}
use Rattle.dl_runs.proofs.causes.a_hole_has_one_cause.Goals as goal

pub returns-clause-calls : goal.returns-clause-calls
returns-clause-calls c = λ setting source buffer client events records n.
    causes_are setting source buffer client n.first n.writer n.refusals n.pushed events n.formed records n.owned

pub returns-clause-accounts : goal.returns-clause-accounts
returns-clause-accounts c = λ setting source account buffer client writer formed whole.
    accounts_have setting source account.first account.events account.pending account.refusals account.pushed account.records formed whole buffer client writer

pub returns-clause-taken : goal.returns-clause-taken
returns-clause-taken c = λ source account buffer client writer whole.
    accounts_taken source account.first account.events account.pending account.refusals account.pushed account.records whole buffer client writer

pub returns-clause-told : goal.returns-clause-told
returns-clause-told c = full_told
