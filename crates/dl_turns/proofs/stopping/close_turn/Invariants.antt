use Rattle.std.proofs.Common.{◌≡◌, ◌≤◌, ◌-◌}
use Rattle.dl_bytes.specs.Limits.{message_limit}
use Rattle.dl_turns.specs.Clients.{IsSame}
use Rattle.dl_turns.specs.Events.{IsServing}
use Rattle.dl_turns.specs.State.{stage}
use Rattle.dl_turns.specs.Stopping.{TurnsOn}
use Rattle.dl_turns.proofs.stopping.close_turn.Given as goal

-- so many turns were made, and none of them was quiet
abbrev pub invariant-loop-turns : goal.invariant-loop-turns
invariant-loop-turns g l = record {
  turns : TurnsOn l.fn.client l.turns
      (stage (g.L.Link.told l.fn.link) l.fn.cutter l.fn.core (g.D.WriterControl.told l.fn.desk) (g.J.Journal.events l.fn.journal) (g.F.Folder.told l.fn.folder))
      (stage (g.L.Link.told l.link) l.own.cutter.now l.core (g.D.WriterControl.told l.desk) (g.J.Journal.events l.journal) (g.F.Folder.told l.folder));
  within : l.turns ≤ 1000;
  limit : l.own.cutter.now.limit ≡ message_limit;
  serving : IsServing l.fn.client l.own.served.now l.core (g.D.WriterControl.told l.desk);
  spare : g.J.Journal.spare l.fn.journal ≤ g.J.Journal.spare l.journal;
  number : l.own.number ≡ l.fn.client;
  alike : IsSame l.initial.own l.own;
  same : g.D.WriterControl.same_rest l.fn.desk l.desk;
}

abbrev pub decreases-loop-turns : goal.decreases-loop-turns
decreases-loop-turns g l = 1000 - l.turns
