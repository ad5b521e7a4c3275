-- What contracts see of the daemon's side once all writers are taken back, and of the account that is made of it.
use Rattle.std.specs.Prelude.{List}
use Rattle.dl_bytes.specs.declared.conf.AppSpec.{AppSpec}
use Rattle.dl_bytes.specs.declared.outcome.Ends.{Ends}
use Rattle.dl_events.specs.declared.event.Event.{Event}
use Rattle.dl_desk.specs.Handles.{HandlesState}
use Rattle.dl_writer.specs.State.{BookState}

-- The daemon's side, once all writers are taken back: the applications, the daemon's handles, and the books as they were
-- taken back, by their writers' numbers from 1.
pub record ClosingState : Type 0 where
  pub apps : List AppSpec
  pub handles : HandlesState
  pub books : List BookState

-- The account: the same, with the daemon's events, and what stood at the end beside them.
pub record AccountState : Type 0 where
  pub apps : List AppSpec
  pub handles : HandlesState
  pub books : List BookState
  pub events : List Event
  pub outcome : Ends
