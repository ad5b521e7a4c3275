use Rattle.std.proofs.Common.{◌≡◌}
use Rattle.dl_hub.proofs.Places.{put_first}
use Rattle.dl_hub.proofs.hub.put_each.Given as goal

-- those at the places so far were sent it
abbrev pub invariant-loop-place : goal.invariant-loop-place
invariant-loop-place l = l.clients ≡ put_first l.frame l.place-index l.fn.clients
