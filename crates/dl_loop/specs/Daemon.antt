-- What is true of a daemon between any two calls.
use Rattle.std.specs.Prelude.{◌≡◌, ◌+◌, ◌*◌, ◌-◌, ◌≤◌, true, length, count_by, map, IsSome}
use Rattle.dl_bytes.specs.Limits.{client_limit}
use Rattle.dl_model.specs.Journal.{IsRunning}
use Rattle.dl_outside.specs.Told.{LinkTold}
use Rattle.dl_desk.specs.Made.{IsLater}
use Rattle.dl_core.specs.Follows.{Run}
use Rattle.dl_taking.specs.Drained.{is_claim, is_noted}
use Rattle.dl_taking.specs.Took.{took_by}
use Rattle.dl_turns.specs.Gone.{TellTheEnd}
use Rattle.dl_rounds.specs.Ready.{AreHeard, AreLinked, open_clients}
use Rattle.dl_rounds.specs.Shown.{AllShowWhy}
use Rattle.dl_settling.specs.Room.{HasFewClaims, IsFew}
use Rattle.dl_settling.specs.Went.{TellBytes}
use Rattle.dl_loop.specs.Bounds.{HasBounds}
use Rattle.dl_loop.specs.Holds.{Gives, HoldsIn}
use Rattle.dl_loop.specs.Limits.{claim_limit}
use Rattle.dl_loop.specs.State.{DaemonState, desk_told}
use Rattle.dl_loop.specs.Told.{IsToldBy}

-- There is room for what rounds may note: the Log and Lost events that may still come, the Claim events with a Level event of each, and of each
-- client that may come or go its Connect and its Close.
pub record HasRoom {L : Type 0} (d : DaemonState L) : Type 0 where
  pub noted : d.noted ≡ count_by is_noted d.journal.events
  pub claimed : d.claimed ≡ count_by is_claim d.journal.events
  pub few : d.noted ≤ d.calls
  pub few_claims : d.claimed ≤ claim_limit
  pub limit : d.core.hub.limit ≡ client_limit
  pub spare : open_clients d.core.hub + (d.calls - d.noted) + 2 * (claim_limit - d.claimed) + 2 * (client_limit - length d.core.hub.clients) ≤ d.journal.spare

-- links of this kind tell what they took
abbrev pub TellTaken : {L : Type 0} → (L → LinkTold) → Type 0
TellTaken {L} told = (link : L) → IsSome (told link).taken

-- A daemon whose links tell this. Its journal tells just what was taken, reported and set; its clients are linked and heard, and the next
-- round has room; there is no more than one Log or Lost event for each call that was taken and each loss that was reported, and no more than one
-- Claim event for each claim that was taken; no client was closed at a stop; the desk is the one that was handed in, later; and in each run that it
-- may be of, core and journal stand for each other, and clients that are gone show why.
pub record IsDaemon {L : Type 0} (told : L → LinkTold) (d : DaemonState L) : Type 0 where
  pub told_by : IsToldBy d.journal.events (length d.desk.apps) d.desk.handles
  pub linked : AreLinked d.links d.core d.journal.spare
  pub heard : AreHeard d.seated d.core (desk_told d.desk)
  pub room : HasRoom d
  pub bounds : HasBounds d.noted d.core.hub.admitted d.desk.handles.losses.reported
  pub few : IsFew d.noted (took_by d.desk.handles) (length d.desk.apps)
  pub few_claims : HasFewClaims d.claimed (took_by d.desk.handles) (length d.desk.apps)
  pub apps : length d.desk.apps ≤ 16
  pub desk : IsLater d.first_desk d.desk
  pub running : IsRunning d.journal.events
  pub runs : (run : Run) → Gives run d.first_core d.desk.apps d.desk.handles
      → HoldsIn (TellTaken told) (TellBytes told) (d.greeted ≡ true) run (map told d.links.links) d.seated.listeners d.journal.events d.core (desk_told d.first_desk) (desk_told d.desk)
  pub shown : (run : Run) → Gives run d.first_core d.desk.apps d.desk.handles → AllShowWhy (TellTheEnd told) d.journal.events d.core.hub (map told d.links.links)
