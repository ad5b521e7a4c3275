use Rattle.std.proofs.Common.{◌≤◌, ◌*◌, List, length, take}
use Rattle.std.specs.List.{flat_map}
use Rattle.dl_events.specs.declared.record.Record.{Record}
use Rattle.dl_report.specs.Counts.{HasCounted}
use Rattle.dl_report.proofs.count.count_answers.Given as goal

-- the records of the writers so far were counted, each list shorter than memory
abbrev pub invariant-loop-place : goal.invariant-loop-place
invariant-loop-place l = record {
  counted : HasCounted (flat_map (λ (rs : List Record). rs) (take l.place l.records)) l.initial.table l.table;
  short : length (flat_map (λ (rs : List Record). rs) (take l.place l.records)) ≤ 18446744073709551616 * l.place;
}
