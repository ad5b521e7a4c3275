use Rattle.std.proofs.Common.{◌≡◌, drop}
use Rattle.std.specs.List.{filter_map}
use Rattle.dl_report.specs.Counts.{why_in}
use Rattle.dl_report.proofs.whole.reason.Given as goal

-- the clients that are left say what all say
abbrev pub invariant-loop-closed : goal.invariant-loop-closed
invariant-loop-closed l = filter_map (why_in l.client) (drop l.closed-index l.closes) ≡ filter_map (why_in l.client) l.closes
