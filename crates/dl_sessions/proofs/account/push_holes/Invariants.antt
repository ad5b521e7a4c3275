use Rattle.std.proofs.Common.{◌≡◌, ◌++◌, take}
use Rattle.std.specs.List.{flat_map}
use Rattle.dl_sessions.specs.Printing.{hole_by}
use Rattle.dl_sessions.proofs.account.push_holes.Given as goal

abbrev pub invariant-loop-hole : goal.invariant-loop-hole
invariant-loop-hole l = l.text.items ≡ l.initial.text.items ++ flat_map (hole_by l.totals l.applications) (take l.hole-index l.holes)
