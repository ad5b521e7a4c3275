use Rattle.std.proofs.Common.{◌≡◌, List, map, take}
use Rattle.dl_picture.specs.Row.{shown}
use Rattle.dl_sessions.specs.Account.{IsAfter}
use Rattle.dl_sessions.specs.declared.session.Told.{Told}
use Rattle.dl_timeline.specs.Timeline.{IsTimeline, row_of}
use Rattle.dl_timeline.proofs.timeline.Timeline.rows.Given as goal

abbrev pub invariant-loop-session : goal.invariant-loop-session
invariant-loop-session l = (stream : List Told) → IsAfter stream l.account → IsTimeline stream l.self → map shown l.rows.items ≡ map (row_of stream) (take l.session-index l.sessions)
