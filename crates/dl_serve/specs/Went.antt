-- How the clients of a server went.
use Rattle.std.specs.Prelude.{[], map}
use Rattle.dl_model.specs.Setting.{Setting}
use Rattle.dl_outside.specs.Told.{LinkTold}
use Rattle.dl_settling.specs.Went.{HaveEnded, HaveGone, TellBytes}
use Rattle.dl_turns.specs.Gone.{TellTheEnd}
use Rattle.dl_serve.specs.declared.closed.Closed.{Closed}
use Rattle.dl_serve.specs.Comes.{run_in}

-- Whatever links tell, each client has its Close among the events, for a cause that its link's counts and the end of its link show. Where links tell what
-- they gave and took, the clients have gone as the model of a daemon's end says: their Request events are those of what their links gave, as the cause
-- says. Which trace files stood before is no part of it.
pub record EachCloseHasCause {L : Type 0} (link_told : L → LinkTold) (setting : Setting) (closed : Closed L) : Type 0 where
  pub ended : HaveEnded (TellTheEnd link_told) setting closed.events.events (map link_told closed.clients.links) closed.state.links
  pub gone : TellBytes link_told → HaveGone (run_in setting []) closed.events.events (map link_told closed.clients.links) closed.state.links
