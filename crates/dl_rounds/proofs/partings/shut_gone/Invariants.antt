use Rattle.std.proofs.Common.{◌≡◌, ◌≤◌, map, length}
use Rattle.dl_rounds.specs.Partings.{ShutsTo}
use Rattle.dl_rounds.proofs.partings.shut_gone.Given as goal

abbrev pub invariant-loop-place : goal.invariant-loop-place
invariant-loop-place g l = record {
  end : l.place-end ≡ length l.fn.links.links;
  within : l.place ≤ l.place-end;
  many : length l.links.links ≡ length l.fn.links.links;
  room : l.links.room ≡ l.fn.links.room;
  shuts : ShutsTo l.place l.fn.hub (map g.L.Link.told l.fn.links.links) (map g.L.Link.told l.links.links);
}
