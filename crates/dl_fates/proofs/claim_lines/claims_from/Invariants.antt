use Rattle.std.proofs.Common.{◌≡◌, ◌++◌, drop}
use Rattle.dl_fates.specs.ClaimLines.{claims_from}
use Rattle.dl_fates.specs.Lines.{placed}
use Rattle.dl_fates.proofs.claim_lines.claims_from.Given as goal

-- the claims so far, with those of the lines that are left, are those of all lines
abbrev pub invariant-loop-place : goal.invariant-loop-place
invariant-loop-place l = l.claims.items ++ claims_from (placed (drop l.place l.numbers) (drop l.place l.steps)) ≡ claims_from (placed l.numbers l.steps)
