use Rattle.std.proofs.Common.{◌≡◌, take}
use Rattle.std.specs.Prelude.{sum_by}
use Rattle.dl_sessions.specs.Gaps.{counted}
use Rattle.dl_sessions.specs.Printing.{missing_of}
use Rattle.dl_sessions.proofs.account.missing_in.Given as goal

abbrev pub invariant-loop-session : goal.invariant-loop-session
invariant-loop-session l = l.total ≡ counted (sum_by (missing_of l.totals l.source) (take l.session-index l.sessions))
