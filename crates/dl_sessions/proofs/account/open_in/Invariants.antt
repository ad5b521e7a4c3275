use Rattle.std.proofs.Common.{◌≡◌, take}
use Rattle.std.specs.Prelude.{sum_by}
use Rattle.dl_sessions.specs.Gaps.{counted}
use Rattle.dl_sessions.specs.Printing.{open_of}
use Rattle.dl_sessions.proofs.account.open_in.Given as goal

abbrev pub invariant-loop-session : goal.invariant-loop-session
invariant-loop-session l = l.total ≡ counted (sum_by (open_of l.totals l.source) (take l.session-index l.sessions))
