use Rattle.std.proofs.Common.{ap, sym, ◌∙◌, arith}
use Rattle.dl_control.specs.Reading.{request_of}
use Rattle.dl_control.proofs.RequestLaws.{found_in, only_in, fault_in, fault_cut}
use Rattle.dl_control.proofs.request.read_request.Goals as goal

pub returns-in_default-clause-fault : goal.returns-in_default-clause-fault
returns-in_default-clause-fault c = fault_cut c.args.order c.args.payload.now (λ i. omega (arith, c.type_inv.payload i)) c.in_default.ensures.read

pub returns-clause-exact : goal.returns-clause-exact
returns-clause-exact c = c.request_of_service.ensures ∙ ap request_of (sym c.in-Some.ensures.read)

pub returns-clause-found : goal.returns-clause-found
returns-clause-found c =
    found_in c.args.order c.args.payload.now c.request_of_service.result (λ i. omega (arith, c.type_inv.payload i)) (returns-clause-exact c)

pub returns-clause-only : goal.returns-clause-only
returns-clause-only c = λ request. only_in c.args.order c.args.payload.now c.request_of_service.result request (returns-clause-exact c)

pub returns-clause-fault : goal.returns-clause-fault
returns-clause-fault c =
    fault_in c.args.order c.args.payload.now c.request_of_service.result (λ i. omega (arith, c.type_inv.payload i)) (returns-clause-exact c)
