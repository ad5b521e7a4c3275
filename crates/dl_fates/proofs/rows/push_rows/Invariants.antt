use Rattle.std.proofs.Common.{◌≡◌, ◌++◌, take}
use Rattle.dl_fates.specs.Written.{KeepsCounts, more_by, rows_by}
use Rattle.dl_fates.proofs.rows.push_rows.Given as goal

-- the rows so far, and how many calls each writer has so far
abbrev pub invariant-loop-at : goal.invariant-loop-at
invariant-loop-at l = record {
  rows : l.text.items ≡ l.initial.text.items ++ rows_by l.records l.findings.specs.now l.findings.nobody l.findings.clients.items (more_by l.findings.claims.now l.findings.taken.items l.findings.directory.now l.findings.stored) (take l.at-index l.calls);
  counts : KeepsCounts l.counts (take l.at-index l.calls);
}
