use Rattle.std.proofs.Common.{◌++◌, [], Some, ap, sym, ◌∙◌, unwrap_or}
use Rattle.std.specs.FinMap as map
use Rattle.dl_outside.specs.Folder.{with_more}
use Rattle.dl_memory.specs.Shelf.{Stock, files_in}
use Rattle.dl_memory.proofs.Shelves.{held_in}
use Rattle.dl_memory.proofs.Maps.{gotten, inserted, of_files, ok_says}
use Rattle.dl_memory.proofs.stock.MemoryFolderFolder.append.Goals as goal

pub returns-clause-files : goal.returns-clause-files
returns-clause-files c =
    let name = c.args.name.now in
    let piece = c.args.piece.now in
    let is = ok_says c.write.result (sym c.is_err.ensures.value ∙ c.if-is_err.false) c.write.ensures.written in
    let old = files_in c.self.inside.entries.items c.self.inside.bytes.items in
    let sorted = c.self.invariant.sorted in
    ap Some
    (ap (λ (s : Stock). of_files s.files) is ∙ inserted old name (held_in name old ++ piece) sorted
    ∙ ap (λ o. map.insert (of_files old) name (unwrap_or o [] ++ piece)) (sym (gotten old name sorted))
    ∙ ap (λ (s : Stock). with_more (of_files s.files) name piece) c.self.view_is)
