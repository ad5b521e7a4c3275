use Rattle.std.proofs.Common.{◌≡◌, take}
use Rattle.std.specs.List.{count_by}
use Rattle.dl_script.specs.Earlier.{is_on}
use Rattle.dl_script.proofs.claim.Known.claims_on.Given as goal

-- the count of those so far
abbrev pub invariant-loop-place : goal.invariant-loop-place
invariant-loop-place l = l.count ≡ count_by (is_on l.apid) (take l.place-index l.self.places)
