use Rattle.std.proofs.Common.{◌≡◌, ◌+◌, drop}
use Rattle.dl_model.specs.Accounts.{AreNumbered}
use Rattle.dl_model.proofs.Records.{AreNumberedFrom}
use Rattle.dl_storage.proofs.calls.is_numbered.Given as goal

-- where the records that are left are numbered from here on, all are from 1
abbrev pub invariant-loop-record : goal.invariant-loop-record
invariant-loop-record l = record {
  number : l.number ≡ l.record-index;
  all : AreNumberedFrom (l.number + 1) (drop l.record-index l.own) → AreNumbered l.own;
}
