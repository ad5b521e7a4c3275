use Rattle.std.proofs.Common.{◌≡◌, take}
use Rattle.dl_fates.specs.Cases.{cases_by}
use Rattle.dl_fates.specs.Written.{KeepsCounts}
use Rattle.dl_fates.proofs.cases.cases_by.Given as goal

-- the calls so far, and how many of them each writer has
abbrev pub invariant-loop-at : goal.invariant-loop-at
invariant-loop-at l = record {
  cases : l.cases.items ≡ cases_by l.records l.fates (take l.at-index l.calls);
  counts : KeepsCounts l.counts (take l.at-index l.calls);
}
