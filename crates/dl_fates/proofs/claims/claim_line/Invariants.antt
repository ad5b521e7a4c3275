use Rattle.std.proofs.Common.{◌≡◌, take}
use Rattle.dl_fates.specs.Claims.{claim_line}
use Rattle.dl_fates.proofs.claims.claim_line.Given as goal

-- the line of the last one so far
abbrev pub invariant-loop-claim : goal.invariant-loop-claim
invariant-loop-claim l = l.line ≡ claim_line (take l.claim-index l.claims) l.at l.call
