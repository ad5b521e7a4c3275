use Rattle.std.proofs.Common.{◌≡◌, take}
use Rattle.std.specs.Prelude.{filter, map}
use Rattle.std.specs.Bool.{nat_eq}
use Rattle.std.specs.List.{starts_with}
use Rattle.dl_memory.proofs.stock.MemoryFolderFolder.names.Given as goal

abbrev pub invariant-loop-entry : goal.invariant-loop-entry
invariant-loop-entry l = l.names.items ≡ filter (λ name. starts_with nat_eq name l.prefix) (map (λ e. e.name.bytes) (take l.entry-index l.entry-items))
