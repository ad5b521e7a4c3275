use Rattle.std.proofs.Common.{◌≡◌, drop}
use Rattle.std.specs.Prelude.{◌==◌}
use Rattle.std.specs.List.{find}
use Rattle.dl_storage.proofs.calls.search.Given as goal

-- the records that are left have it where all have it
abbrev pub invariant-loop-record : goal.invariant-loop-record
invariant-loop-record l = find (λ r. r.item.call == l.call) (drop l.record-index l.own) ≡ find (λ r. r.item.call == l.call) l.own
