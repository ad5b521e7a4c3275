use Rattle.std.proofs.Common.{◌≡◌, take}
use Rattle.std.specs.Prelude.{count_by}
use Rattle.dl_model.specs.Journal.{is_connect}
use Rattle.dl_fates.proofs.findings.came.Given as goal

abbrev pub invariant-loop-event : goal.invariant-loop-event
invariant-loop-event l = l.count ≡ count_by is_connect (take l.event-index l.events)
