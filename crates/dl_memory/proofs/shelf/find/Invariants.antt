use Rattle.std.proofs.Common.{◌≡◌, ◌+◌, take, drop}
use Rattle.std.specs.Prelude.{sum_by}
use Rattle.dl_memory.specs.Shelf.{place_of, size_of}
use Rattle.dl_memory.proofs.shelf.find.Given as goal

abbrev pub invariant-loop-index : goal.invariant-loop-index
invariant-loop-index l = record {
  start : l.start ≡ sum_by size_of (take l.index l.entries);
  place : let rest = place_of l.name (drop l.index l.entries) in
      place_of l.name l.entries ≡ record { index = l.index + rest.index; start = l.start + rest.start; size = rest.size };
}
