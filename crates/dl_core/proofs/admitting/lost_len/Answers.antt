use Rattle.std.proofs.Common.{arith}
use Rattle.dl_core.proofs.Sizes.{lost_size}
use Rattle.dl_core.proofs.admitting.lost_len.Goals as goal

pub returns : goal.returns
returns c = λ apid four. omega (arith, lost_size c.args.ecu apid c.args.count c.bytes.ensures.len four, c.div_ceil.ensures)
