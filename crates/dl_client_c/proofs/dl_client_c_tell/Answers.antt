use Rattle.dl_client_c.proofs.dl_client_c_tell.Goals as goal

pub returns-clause-waits : goal.returns-clause-waits
returns-clause-waits c is = (c.settle.ensures.same c.if-settle.false, c.settle.ensures.full c.if-settle.false)
