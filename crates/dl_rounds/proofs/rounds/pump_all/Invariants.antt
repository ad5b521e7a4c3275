use Rattle.std.proofs.Common.{◌≡◌, ◌≤◌, ◌-◌, Bool, List, length}
use Rattle.std.specs.Prelude.{◌||◌}
use Rattle.dl_outside.specs.Told.{FolderTold}
use Rattle.dl_desk.specs.Told.{ControlTold}
use Rattle.dl_hub.specs.State.{IsSameHub}
use Rattle.dl_rounds.specs.declared.listener.Listener.{Listener}
use Rattle.dl_rounds.specs.ListenerPool.{Seated}
use Rattle.dl_rounds.specs.Clients.{Clients, HaveVisited}
use Rattle.dl_rounds.specs.Rounds.{seen}
use Rattle.dl_rounds.specs.Ready.{AreHeard, AreLinked, KeepsRoom}
use Rattle.dl_rounds.specs.Visits.{Pumped}
use Rattle.dl_rounds.proofs.rounds.pump_all.Given as goal

-- who visits the rest, has visited all
abbrev pub invariant-loop-client : goal.invariant-loop-client
invariant-loop-client g l = let c = seen g.L.Link.told (λ d. d) g.J.Journal.events (λ f. f) in record {
  behind : (desk : ControlTold) (folder : FolderTold) (listeners : List Listener) → length l.fn.links.links ≤ length listeners → (later : Bool) (new : Clients)
      → HaveVisited Pumped l.last later (c l.links listeners l.core desk l.journal folder) new
      → HaveVisited Pumped 0 (l.moved || later) (c l.fn.links listeners l.fn.core desk l.fn.journal folder) new;
  linked : AreLinked l.links l.core (g.J.Journal.spare l.journal);
  heard : (seated : Seated) (desk : ControlTold) → AreHeard seated l.fn.core desk → AreHeard seated l.core desk;
  room : KeepsRoom l.fn.core l.core (g.J.Journal.spare l.fn.journal) (g.J.Journal.spare l.journal);
  same : IsSameHub l.fn.core.hub l.core.hub;
  many : length l.links.links ≡ length l.fn.links.links;
}

abbrev pub decreases-loop-client : goal.decreases-loop-client
decreases-loop-client g l = length l.links.links - l.last
