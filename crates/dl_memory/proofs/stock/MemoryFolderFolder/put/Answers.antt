use Rattle.std.proofs.Common.{Some, ap, sym, ◌∙◌}
use Rattle.std.specs.FinMap as map
use Rattle.dl_memory.specs.Shelf.{Stock, files_in}
use Rattle.dl_memory.proofs.Maps.{inserted, of_files, ok_says}
use Rattle.dl_memory.proofs.stock.MemoryFolderFolder.put.Goals as goal

pub returns-clause-files : goal.returns-clause-files
returns-clause-files c =
    let name = c.args.name.now in
    let bytes = c.args.bytes.now in
    let is = ok_says c.write.result (sym c.is_err.ensures.value ∙ c.if-is_err.false) c.write.ensures.written in
    let old = files_in c.self.inside.entries.items c.self.inside.bytes.items in
    ap Some (ap (λ (s : Stock). of_files s.files) is ∙ inserted old name bytes c.self.invariant.sorted ∙ ap (λ (s : Stock). map.insert (of_files s.files) name bytes) c.self.view_is)
