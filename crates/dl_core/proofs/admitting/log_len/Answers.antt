use Rattle.std.proofs.Common.{ap, arith, length}
use Rattle.dl_core.proofs.Sizes.{log_size}
use Rattle.dl_core.proofs.admitting.log_len.Goals as goal

pub returns-clause-value : goal.returns-clause-value
returns-clause-value c =
    omega (arith, log_size c.args.ecu c.args.item.now c.bytes.ensures.len c.bytes-2.ensures.len c.bytes-3.ensures.len, ap length c.bytes-4.ensures.value)
