use Rattle.std.proofs.Common.{ap, sym, ◌∙◌}
use Rattle.std.specs.Prelude.{filter, map}
use Rattle.std.specs.Bool.{nat_eq}
use Rattle.std.specs.List.{starts_with}
use Rattle.std.proofs.lemmas.List.{take_all}
use Rattle.dl_outside.specs.Folder.{names_with}
use Rattle.dl_memory.specs.Shelf.{Stock, files_in}
use Rattle.dl_memory.proofs.Shelves.{named}
use Rattle.dl_memory.proofs.Maps.{keyed, of_files}
use Rattle.dl_memory.proofs.stock.MemoryFolderFolder.names.Goals as goal

pub returns-clause-found : goal.returns-clause-found
returns-clause-found c =
    let es = c.self.inside.entries.items in
    let bs = c.self.inside.bytes.items in
    let prefix = c.args.prefix.now in
    c.over-2.ensures ∙ c.loop-entry.invariant
    ∙ ap (λ xs. filter (λ name. starts_with nat_eq name prefix) (map (λ e. e.name.bytes) xs)) (take_all c.loop-entry.entry-index c.deref-entry-items.result.now c.loop-entry-test.false ∙ c.deref-entry-items.ensures.value)
    ∙ ap (filter (λ name. starts_with nat_eq name prefix)) (sym (named es bs) ∙ sym (keyed (files_in es bs) c.self.invariant.sorted))
    ∙ ap (λ (s : Stock). names_with prefix (of_files s.files)) c.self.view_is
