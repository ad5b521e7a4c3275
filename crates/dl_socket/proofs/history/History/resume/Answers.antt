use Rattle.dl_socket.proofs.history.History.resume.Goals as goal

pub returns : goal.returns
returns c = λ i. record { sets = c.and_version.ensures.0 i; refused = c.and_version.ensures.1 i }
