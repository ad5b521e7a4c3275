use Rattle.std.proofs.Common.{◌≡◌, ◌≤◌, ◌-◌, ℕ, Bool, None, length}
use Rattle.dl_hub.specs.State.{IsSameHub, outbox_of}
use Rattle.dl_turns.specs.Gone.{TellTheEnd}
use Rattle.dl_rounds.specs.Clients.{Clients, HaveVisited}
use Rattle.dl_rounds.specs.Rounds.{seen}
use Rattle.dl_rounds.specs.Ready.{AreHeard, AreLinked, KeepsRoom}
use Rattle.dl_rounds.specs.Visits.{Closed}
use Rattle.dl_rounds.proofs.rounds.close_all.Given as goal

-- who visits the rest, has visited all
abbrev pub invariant-loop-client : goal.invariant-loop-client
invariant-loop-client g l = let c = seen g.L.Link.told g.D.WriterControl.told g.J.Journal.events g.F.Folder.told in record {
  behind : (later : Bool) (new : Clients) → HaveVisited (Closed (TellTheEnd g.L.Link.told)) l.last later (c l.links l.seats.listeners l.core l.desk l.journal l.folder) new
      → (moved : Bool) × HaveVisited (Closed (TellTheEnd g.L.Link.told)) 0 moved (c l.fn.links l.fn.seats.listeners l.fn.core l.fn.desk l.fn.journal l.fn.folder) new;
  gone : (number : ℕ) → number ≤ l.last → outbox_of l.core.hub number ≡ None;
  linked : AreLinked l.links l.core (g.J.Journal.spare l.journal);
  heard : AreHeard l.seats l.core (g.D.WriterControl.told l.desk);
  room : KeepsRoom l.fn.core l.core (g.J.Journal.spare l.fn.journal) (g.J.Journal.spare l.journal);
  same : IsSameHub l.fn.core.hub l.core.hub;
  same_rest : g.D.WriterControl.same_rest l.fn.desk l.desk;
}

abbrev pub decreases-loop-client : goal.decreases-loop-client
decreases-loop-client g l = length l.links.links - l.last
