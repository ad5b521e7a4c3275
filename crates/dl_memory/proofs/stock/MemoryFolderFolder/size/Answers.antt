use Rattle.std.proofs.Common.{ap, sym, ◌∙◌}
use Rattle.dl_memory.specs.Shelf.{Stock}
use Rattle.dl_memory.proofs.Maps.{size_is}
use Rattle.dl_memory.proofs.stock.MemoryFolderFolder.size.Goals as goal

pub returns-in_default-clause-found : goal.returns-in_default-clause-found
returns-in_default-clause-found c =
    let place = c.find.ensures.place in
    sym (size_is c.self.inside.entries.items c.self.inside.bytes.items c.args.name.now c.find.result c.args.self.now.files (ap (λ (s : Stock). s.files) (sym c.self.view_is)) c.self.invariant.sorted c.self.invariant.all (rw c.deref.ensures.value at place)
    ∙ c.in_default.is)

pub returns-clause-found : goal.returns-clause-found
returns-clause-found c =
    let place = c.find.ensures.place in
    sym (size_is c.self.inside.entries.items c.self.inside.bytes.items c.args.name.now c.find.result c.args.self.now.files (ap (λ (s : Stock). s.files) (sym c.self.view_is)) c.self.invariant.sorted c.self.invariant.all (rw c.deref.ensures.value at place)
    ∙ c.in-Some.is)
