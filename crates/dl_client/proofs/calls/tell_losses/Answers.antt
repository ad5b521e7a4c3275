use Rattle.std.proofs.Common.{List, [], refl, ℕ}
use Rattle.dl_client.proofs.calls.tell_losses.Goals as goal

pub returns-then-not-client-clause-accounts : goal.returns-then-not-client-clause-accounts
returns-then-not-client-clause-accounts c = ([], tt, λ (taken : List ℕ). refl)
