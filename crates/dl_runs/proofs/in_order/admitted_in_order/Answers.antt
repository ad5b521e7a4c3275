use Rattle.dl_runs.proofs.RunLaws.{admitted_in_order, calls_in_order, claims_in_order}
use Rattle.dl_runs.proofs.in_order.admitted_in_order.Goals as goal

pub returns-clause-all : goal.returns-clause-all
returns-clause-all c = admitted_in_order

pub returns-clause-calls : goal.returns-clause-calls
returns-clause-calls c = calls_in_order

pub returns-clause-claims : goal.returns-clause-claims
returns-clause-claims c = claims_in_order
