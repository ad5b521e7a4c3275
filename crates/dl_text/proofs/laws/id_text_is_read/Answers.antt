use Rattle.std.proofs.Common.{arith}
use Rattle.dl_text.proofs.IdTexts.{four}
use Rattle.dl_text.proofs.laws.id_text_is_read.Goals as goal

pub returns : goal.returns
returns c = four c.args.a c.args.b c.args.c c.args.d (omega arith) (omega arith) (omega arith) (omega arith)
