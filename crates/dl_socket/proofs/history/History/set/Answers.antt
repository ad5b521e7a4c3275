use Rattle.dl_socket.proofs.history.History.set.Goals as goal

pub returns : goal.returns
returns c = λ i. record { sets = c.and_level.ensures.0 i; refused = c.and_level.ensures.1 i }
