use Rattle.dl_report.proofs.InTurn.{formed_turns}
use Rattle.dl_report.proofs.left_laws.clients_come_and_go.Goals as goal

pub returns : goal.returns
returns c = formed_turns
