use Rattle.dl_core.proofs.daemon.Core.report_need.Goals as goal

pub returns : goal.returns
returns c = c.lost_need.ensures c.args.apid c.bytes-apid.ensures.len
