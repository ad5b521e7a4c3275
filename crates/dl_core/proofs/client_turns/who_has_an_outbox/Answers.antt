use Rattle.dl_core.proofs.OpenClients.{open_by_journal, open_by_core}
use Rattle.dl_core.proofs.client_turns.who_has_an_outbox.Goals as goal

pub returns : goal.returns
returns c = λ run events taken core client is. (open_by_journal run events taken core is client, open_by_core run events taken core is client)
