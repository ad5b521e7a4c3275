use Rattle.std.proofs.Common.{◌-◌, ◌≤◌, ℕ, length}
use Rattle.dl_model.specs.Accounts.{AreNumbered}
use Rattle.dl_model.specs.WholeAccounts.{records_by}
use Rattle.dl_storage.proofs.calls.are_numbered.Given as goal

-- the calls of the writers so far are numbered
abbrev pub invariant-loop-writer : goal.invariant-loop-writer
invariant-loop-writer l = record {
  within : l.writer ≤ length l.records;
  numbered : (writer : ℕ) → 1 ≤ writer → writer ≤ l.writer → AreNumbered (records_by writer l.records);
}

abbrev pub decreases-loop-writer : goal.decreases-loop-writer
decreases-loop-writer l = length l.records - l.writer
