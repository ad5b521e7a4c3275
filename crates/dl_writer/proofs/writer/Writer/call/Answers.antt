use Rattle.dl_writer.proofs.Writers.{loaded}
use Rattle.dl_writer.proofs.writer.Writer.call.Goals as goal

pub invariant_of-self : goal.invariant_of-self
invariant_of-self g c = loaded c.self.inside c.load-seen.new.self _ c.load-seen.ensures.reads c.if-self-eq-WRITER_CALL_LIMIT.false c.self.invariant
