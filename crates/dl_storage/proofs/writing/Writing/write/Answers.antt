use Rattle.std.proofs.lemmas.Option.{IfSome_then}
use Rattle.dl_storage.proofs.Writes.{batch_writes}
use Rattle.dl_storage.proofs.writing.Writing.write.Goals as goal

pub returns-in-Ok-clause-written : goal.returns-in-Ok-clause-written
returns-in-Ok-clause-written g c =
    batch_writes c.spell-bytes.new.self.batch _ c.saturating_add-self-in-Ok.result c.saturating_add-self.result c.spell-bytes.result c.args.self.now c.write_all.new.self
    (g.F.Folder.told c.args.folder.now) (g.F.Folder.told c.write_all.new.folder) c.in-Ok.field-0
    c.spell-bytes.ensures.batch (IfSome_then c.args.self.now.trace.state.end c.in-Ok.ensures.ended (λ end e. e.0))
    c.in-Ok.ensures.stored c.spell-bytes.ensures.len c.saturating_add-self.ensures c.saturating_add-self-in-Ok.ensures
