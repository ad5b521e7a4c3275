use Rattle.std.proofs.Common.{Bool, sym, ap, ◌∙◌}
use Rattle.std.specs.Prelude.{◌||◌}
use Rattle.dl_server.specs.State.{seen}
use Rattle.dl_server.proofs.server.Server.accept_all.Goals as goal

pub returns-then-client-clause-accepts : goal.returns-then-client-clause-accepts
returns-then-client-clause-accepts g c = λ folder. (
  record {
    came = c.accept_client-client.result;
    accepted = seen g.L.Link.told g.J.Journal.events g.J.Journal.may_run_out folder c.accept_client-client.new.self;
    accepts = c.accept_client-client.ensures.accepts folder;
    entered = c.accept_program-program.result;
    enters = c.accept_program-program.ensures.accepts folder;
  },
  c.if-client.true ∙ sym (ap (λ (b : Bool). b || c.accept_program-program.result) c.if-client.true),
)

pub returns-then-client-clause-limits : goal.returns-then-client-clause-limits
returns-then-client-clause-limits g c =
    let first = c.accept_client-client.ensures.limits in
    let second = c.accept_program-program.ensures.limits in
    record { clients = second.clients ∙ first.clients; channels = second.channels ∙ first.channels }

pub returns-else-client-clause-accepts : goal.returns-else-client-clause-accepts
returns-else-client-clause-accepts g c = λ folder. (
  record {
    came = c.accept_client-client.result;
    accepted = seen g.L.Link.told g.J.Journal.events g.J.Journal.may_run_out folder c.accept_client-client.new.self;
    accepts = c.accept_client-client.ensures.accepts folder;
    entered = c.accept_program-program.result;
    enters = c.accept_program-program.ensures.accepts folder;
  },
  sym (ap (λ (b : Bool). b || c.accept_program-program.result) c.if-client.false),
)

pub returns-else-client-clause-limits : goal.returns-else-client-clause-limits
returns-else-client-clause-limits g c =
    let first = c.accept_client-client.ensures.limits in
    let second = c.accept_program-program.ensures.limits in
    record { clients = second.clients ∙ first.clients; channels = second.channels ∙ first.channels }
