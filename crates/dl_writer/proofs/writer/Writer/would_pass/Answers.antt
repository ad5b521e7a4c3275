use Rattle.std.proofs.Common.{sym}
use Rattle.dl_writer.specs.WriterInside.{writer_state}
use Rattle.dl_writer.proofs.Looking.{looks_up}
use Rattle.dl_writer.proofs.writer.Writer.would_pass.Goals as goal

pub returns : goal.returns
returns c =
    looks_up _ (writer_state c.self.inside) _ _ c.slot_of.result c.load.result.version c.load.result.level c.passes.result c.load.new.self
    (sym c.self.view_is) c.slot_of.ensures.value c.load.ensures.reads c.load.ensures.newest c.passes.ensures
