-- A pump admits no frame.
use Rattle.std.proofs.Common.{◌≡◌, Bool, List, length, replicate, Option, arith}
use Rattle.std.proofs.lemmas.List.{length-replicate}
use Rattle.dl_core.specs.State.{Core}
use Rattle.dl_events.specs.declared.event.Event.{Event}
use Rattle.dl_loop.proofs.Accepted.{folder_none}
use Rattle.dl_loop.proofs.Visited.{pumped_admits_none}
use Rattle.dl_outside.specs.Told.{LinkTold}
use Rattle.dl_rounds.specs.Ready.{fresh_listener}
use Rattle.dl_rounds.specs.Visits.{PumpsAll}
use Rattle.dl_server.proofs.HeldRounds.{no_desk}

pub pumped_admitted : (moved : Bool) (links links_now : List LinkTold) (old new : Core) (events events_now : Option (List Event)) → PumpsAll moved links links_now old new events events_now
    → new.hub.admitted ≡ old.hub.admitted
pumped_admitted moved links links_now old new events events_now pumps =
    pumped_admits_none moved _ _ (pumps no_desk folder_none (replicate (length links) fresh_listener) (omega (arith, length-replicate (length links) fresh_listener)))
