use Rattle.std.proofs.Common.{◌≡◌, ◌++◌, take}
use Rattle.std.specs.List.{flat_map}
use Rattle.dl_sessions.specs.Printing.{session_by}
use Rattle.dl_sessions.proofs.account.push_sessions.Given as goal

abbrev pub invariant-loop-session : goal.invariant-loop-session
invariant-loop-session l = l.text.items ≡ l.initial.text.items ++ flat_map (session_by l.totals) (take l.session-index l.sessions)
