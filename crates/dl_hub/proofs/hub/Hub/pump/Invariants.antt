use Rattle.std.proofs.Common.{◌≡◌, length}
use Rattle.std.specs.Prelude.{IsSome}
use Rattle.std.specs.Option.{option_map_or}
use Rattle.dl_hub.specs.State.{outbox_of}
use Rattle.dl_hub.specs.Pumping.{Pumps, IsOnlySent}
use Rattle.dl_hub.proofs.hub.Hub.pump.Given as goal

abbrev pub invariant-loop-piece : goal.invariant-loop-piece
invariant-loop-piece g l = record {
  there : IsSome (outbox_of l.self l.client);
  sent : Pumps l.client l.fn.self l.self (g.L.Link.told l.fn.link) (g.L.Link.told l.link);
  faults : (g.L.Link.told l.link).faults ≡ (g.L.Link.told l.fn.link).faults;
  waits : (g.L.Link.told l.link).waits ≡ (g.L.Link.told l.fn.link).waits;
  rest : IsOnlySent (g.L.Link.told l.fn.link) (g.L.Link.told l.link);
}

abbrev pub decreases-loop-piece : goal.decreases-loop-piece
decreases-loop-piece g l = option_map_or (λ outbox. length outbox.bytes) (outbox_of l.self l.client) 0
