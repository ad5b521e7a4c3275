-- What the closing of channels leaves of a server.
use Rattle.std.proofs.Common.{◌≡◌}
use Rattle.std.specs.Prelude.{OnErr, OnOk, Result, Ok, Err}
use Rattle.dl_bytes.specs.declared.moment.Moment.{Moment}
use Rattle.dl_channels.specs.Rounds.{Scene, StopsAll, StopsSome}
use Rattle.dl_server.specs.Closing.{ClosesPrograms, ClosesSomePrograms, closing_scene}
use Rattle.dl_server.specs.State.{State}
use Rattle.dl_server.proofs.VisitedScenes.{Stays, all_stopped, some_stopped}

module _ {E : Type 0} where
  pub closed_so : (moment : Moment) (r : Result (Unit {0}) E) (old new : State)
      → new ≡ record old { core = new.core; events = new.events; folder = new.folder; channels = new.channels; programs = new.programs }
      → OnOk r (StopsAll moment (closing_scene old) (closing_scene new)) → OnOk r (ClosesPrograms moment old new)
  closed_so moment (Ok done) old new rest stops = record { stops = stops; rest = rest }
  closed_so moment (Err error) old new rest stops = tt

  pub half_so : (moment : Moment) (r : Result (Unit {0}) E) (old new : State)
      → new ≡ record old { core = new.core; events = new.events; folder = new.folder; channels = new.channels; programs = new.programs }
      → OnErr r (StopsSome moment (closing_scene old) (closing_scene new)) → OnErr r (ClosesSomePrograms moment old new)
  half_so moment (Ok done) old new rest stops = tt
  half_so moment (Err error) old new rest stops = record { stops = stops; rest = rest }

  pub stays_so : (moment : Moment) (r : Result (Unit {0}) E) (old new : Scene) → OnOk r (StopsAll moment old new) → OnErr r (StopsSome moment old new) → Stays old new
  stays_so moment (Ok done) old new all some = all_stopped moment old new all
  stays_so moment (Err error) old new all some = some_stopped moment old new some
