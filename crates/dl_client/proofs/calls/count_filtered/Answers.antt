use Rattle.dl_client.proofs.calls.count_filtered.Goals as goal

pub returns-clause-counted : goal.returns-clause-counted
returns-clause-counted c so taken = (c.requires.at, c.requires.above, c.set_context.ensures.set taken)
