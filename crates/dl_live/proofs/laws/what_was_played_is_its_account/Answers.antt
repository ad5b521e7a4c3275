use Rattle.dl_live.proofs.Performed.{come_to}
use Rattle.dl_live.proofs.laws.what_was_played_is_its_account.Goals as goal

pub returns : goal.returns
returns g c = λ begun p wanted failed net heard net_now first folder folder_now out out_now account links runnable are begins quiet is_heard been.
    come_to g.L.Link.told begun p wanted failed heard net_now folder folder_now account links runnable are first begins been net out out_now quiet is_heard
