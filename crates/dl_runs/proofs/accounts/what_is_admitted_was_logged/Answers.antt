use Rattle.dl_runs.proofs.LoggedCalls.{was_logged}
use Rattle.dl_runs.proofs.accounts.what_is_admitted_was_logged.Goals as goal

pub returns : goal.returns
returns c = λ account app writer call moment before after whole.
    was_logged account.first account.events account.pending account.refusals account.pushed account.records whole app writer call moment before after
