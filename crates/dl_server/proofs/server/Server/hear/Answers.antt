use Rattle.std.proofs.Common.{Bool, sym, ap, ◌∙◌}
use Rattle.std.specs.Prelude.{◌||◌}
use Rattle.dl_server.specs.State.{seen}
use Rattle.dl_server.proofs.server.Server.hear.Goals as goal

pub returns-then-asked-clause-hears : goal.returns-then-asked-clause-hears
returns-then-asked-clause-hears g c = (
  record {
    asked = c.hear_clients-asked.result;
    served = seen g.L.Link.told g.J.Journal.events g.J.Journal.may_run_out (g.F.Folder.told c.hear_clients-asked.new.folder) c.hear_clients-asked.new.self;
    clients = c.hear_clients-asked.ensures.hears;
    moment = c.now.result;
    moved = c.hear_programs-heard.result;
    programs = c.hear_programs-heard.ensures.hears;
  },
  c.if-asked.true ∙ sym (ap (λ (b : Bool). b || c.hear_programs-heard.result) c.if-asked.true),
)

pub returns-then-asked-clause-limits : goal.returns-then-asked-clause-limits
returns-then-asked-clause-limits g c =
    let first = c.hear_clients-asked.ensures.limits in
    let second = c.hear_programs-heard.ensures.limits in
    record { clients = second.clients ∙ first.clients; channels = second.channels ∙ first.channels }

pub returns-else-asked-clause-hears : goal.returns-else-asked-clause-hears
returns-else-asked-clause-hears g c = (
  record {
    asked = c.hear_clients-asked.result;
    served = seen g.L.Link.told g.J.Journal.events g.J.Journal.may_run_out (g.F.Folder.told c.hear_clients-asked.new.folder) c.hear_clients-asked.new.self;
    clients = c.hear_clients-asked.ensures.hears;
    moment = c.now.result;
    moved = c.hear_programs-heard.result;
    programs = c.hear_programs-heard.ensures.hears;
  },
  sym (ap (λ (b : Bool). b || c.hear_programs-heard.result) c.if-asked.false),
)

pub returns-else-asked-clause-limits : goal.returns-else-asked-clause-limits
returns-else-asked-clause-limits g c =
    let first = c.hear_clients-asked.ensures.limits in
    let second = c.hear_programs-heard.ensures.limits in
    record { clients = second.clients ∙ first.clients; channels = second.channels ∙ first.channels }
