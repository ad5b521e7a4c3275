-- What is known of folder and nets where both nets listen.
use Rattle.std.proofs.Common.{◌≡◌, subst}
use Rattle.dl_outside.specs.Told.{FolderTold, NetTold, SinkTold}
use Rattle.dl_startup.specs.declared.status.Status.{Status}
use Rattle.std.specs.Prelude.{Bool}
use Rattle.dl_serve.specs.declared.closed.Closed.{Closed}
use Rattle.dl_serve.specs.declared.faults.Faults.{Faults}
use Rattle.dl_serve.specs.Ends.{Ends}
use Rattle.dl_serve.specs.Faults.{counted}

-- they count what they did
pub counts_same : {L : Type 0} (folder folder_then : FolderTold) (net net_then users users_then : NetTold L) → folder_then.faults ≡ folder.faults → net_then.faults ≡ net.faults → users_then.faults ≡ users.faults
    → counted folder_then net_then users_then ≡ counted folder net users
counts_same folder folder_then net net_then users users_then folder_is net_is users_are = λ i. record { folder = folder_is i; net = net_is i; users = users_are i }

-- so how it ends is told from the first counts
pub ends_from : {L : Type 0} (closed : Closed L) (full : Bool) (before between now : Faults) (out out_now : SinkTold) (status : Status) → between ≡ before → Ends closed full between now out out_now status
    → Ends closed full before now out out_now status
ends_from closed full before between now out out_now status same ends = subst (λ (f : Faults). Ends closed full f now out out_now status) same ends
