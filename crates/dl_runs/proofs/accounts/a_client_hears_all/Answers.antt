use Rattle.dl_runs.proofs.HeardCalls.{hears_all}
use Rattle.dl_runs.proofs.accounts.a_client_hears_all.Goals as goal

pub returns : goal.returns
returns c = λ setting records specs stay n.
    hears_all setting records specs n.refusals n.pushed stay.client stay.cause stay.before stay.middle stay.after n.formed n.accounted n.none_before n.none_after
