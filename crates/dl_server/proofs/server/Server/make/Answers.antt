use Rattle.std.proofs.Common.{ap, ◌∙◌}
use Rattle.dl_rounds.specs.ListenerPool.{Seated}
use Rattle.dl_server.proofs.server.Server.make.Goals as goal

pub returns-in-Ok : goal.returns-in-Ok
returns-in-Ok g c =
    let made = c.begin.ensures in
    let rooms = c.in-Ok.ensures in
    record {
      core_is = made.parts.0;
      journal_is = made.parts.1;
      channels_are = made.parts.2;
      no_client = made.links.0 ∙ rooms.clients;
      listeners_are = ap (λ (s : Seated). s.listeners) made.lists.0 ∙ rooms.listeners;
      no_program = made.links.1 ∙ rooms.programs;
      no_end = made.lists.1 ∙ rooms.ends;
      none_dropped = made.fresh.0;
      clients_come = made.fresh.1;
      programs_come = made.fresh.2;
      unwanted = made.fresh.3;
      all_shut = made.fresh.4;
    }
