use Rattle.dl_socket.proofs.laws.a_turn_hears_more.Goals as goal

pub returns : goal.returns
returns c = λ channel moment end before after old new stream msgs turned heard. c.a_turn_hears_more.ensures channel moment end _ _ stream msgs heard turned.turn
