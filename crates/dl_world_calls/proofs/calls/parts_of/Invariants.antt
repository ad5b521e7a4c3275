use Rattle.std.proofs.Common.{◌≡◌, ◌≤◌, ◌+◌, ◌++◌, length, take}
use Rattle.std.specs.Prelude.{map}
use Rattle.std.specs.Vec.Iter.{into_iter_items}
use Rattle.dl_world_calls.specs.State.{Writer}
use Rattle.dl_world_calls.proofs.calls.parts_of.Given as goal

abbrev pub invariant-loop-writer : goal.invariant-loop-writer
invariant-loop-writer l = record {
  records : l.records ++ map (λ (writer : Writer). writer.records) (into_iter_items l.writer-iterator) ≡ map (λ (writer : Writer). writer.records) l.fn.writers.items;
  claims : l.claims ++ map (λ (writer : Writer). take writer.announced writer.claims) (into_iter_items l.writer-iterator) ≡ map (λ (writer : Writer). take writer.announced writer.claims) l.fn.writers.items;
  records_limit : length l.records + length (into_iter_items l.writer-iterator) ≤ 32;
  claims_limit : length l.claims + length (into_iter_items l.writer-iterator) ≤ 32;
}
