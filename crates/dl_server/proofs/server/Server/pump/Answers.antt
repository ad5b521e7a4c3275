use Rattle.std.proofs.Common.{refl, ◌∙◌}
use Rattle.dl_server.specs.State.{seen}
use Rattle.dl_server.proofs.server.Server.pump.Goals as goal

pub returns-clause-pumps : goal.returns-clause-pumps
returns-clause-pumps g c = (
  record {
    moved = c.pump_clients-sent.result;
    sent = seen g.L.Link.told g.J.Journal.events g.J.Journal.may_run_out (g.F.Folder.told c.args.folder.now) c.pump_clients-sent.new.self;
    clients = c.pump_clients-sent.ensures.pumps (g.F.Folder.told c.args.folder.now);
    moment = c.now.result;
    pumped = seen g.L.Link.told g.J.Journal.events g.J.Journal.may_run_out (g.F.Folder.told c.pump_programs.new.folder) c.pump_programs.new.self;
    programs = c.pump_programs.ensures.pumps;
    parts = c.part_clients.ensures.parts (g.F.Folder.told c.pump_programs.new.folder);
  },
  refl,
)

pub returns-clause-limits : goal.returns-clause-limits
returns-clause-limits g c =
    let first = c.pump_clients-sent.ensures.limits in
    let second = c.pump_programs.ensures.limits in
    let third = c.part_clients.ensures.limits in
    record { clients = third.clients ∙ second.clients ∙ first.clients; channels = third.channels ∙ second.channels ∙ first.channels }
