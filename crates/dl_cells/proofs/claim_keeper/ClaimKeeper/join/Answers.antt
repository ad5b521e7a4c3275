use Rattle.std.proofs.Common.{rules}
use Rattle.dl_cells.proofs.ClaimKeeping.{joining}
use Rattle.dl_cells.proofs.claim_keeper.ClaimKeeper.join.Goals as goal

pub join_seat-requires : goal.join_seat-requires
join_seat-requires c = (search rules, search rules, search rules, search rules, joining _ _ _ _ _ (search rules))
