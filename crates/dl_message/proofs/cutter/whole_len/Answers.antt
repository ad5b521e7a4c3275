use Rattle.std.proofs.Common.{sym, arith}
use Rattle.dl_message.proofs.Pieces.{whole_front}
use Rattle.dl_message.proofs.cutter.whole_len.Goals as goal

pub returns-else-bytes-len-clause-whole : goal.returns-else-bytes-len-clause-whole
returns-else-bytes-len-clause-whole c =
    whole_front c.args.limit c.in_ok-front.front.len c.args.bytes.now (sym c.in_ok-front.ensures.fault) c.in_ok-front.ensures.len (omega arith) (omega arith)
