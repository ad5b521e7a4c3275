use Rattle.dl_client.proofs.calls.count_lost.Goals as goal

pub returns : goal.returns
returns c taken = (c.requires.at, c.requires.passes, c.requires.cause, c.set_context.ensures.set taken)
