use Rattle.dl_socket.proofs.history.History.refuse.Goals as goal

pub returns : goal.returns
returns c = λ i. record { sets = c.and_refusal.ensures.0 i; refused = c.and_refusal.ensures.1 i }
