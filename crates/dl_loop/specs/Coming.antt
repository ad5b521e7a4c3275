-- The connections that come in rounds of a daemon, and what the rounds' answers tell of them.
use Rattle.std.specs.Prelude.{◌≡◌, ◌⊎◌, ℕ, zero, suc, ◌+◌, ◌-◌, ◌^◌, ◌<◌, ◌≤◌, min, true, false, [], length, drop, Some, IfSome, if◌then◌else◌}
use Rattle.dl_outside.specs.Outside.{HasRisen, Stays}
use Rattle.dl_outside.specs.Told.{LinkTold, NetTold}
use Rattle.dl_loop.specs.RoundSteps.{IsRound}
use Rattle.dl_loop.specs.Scene.{Scene}
use Rattle.dl_loop.specs.State.{DaemonState}
use Rattle.dl_loop.specs.declared.round.Round.{Round}

-- An accept that failed or wanted memory was the last one. The net's count of faults has risen where one has failed since, and stands where none has.
pub record EndsAccepts {L : Type 0} (net net_now : NetTold L) (old new : DaemonState L) : Type 0 where
  pub failed_once : old.failed ≡ true → new.failed ≡ true
  pub wanted_once : old.wanted ≡ true → new.wanted ≡ true
  pub faults : net.faults ≤ net_now.faults
  pub risen : new.failed ≡ true → (old.failed ≡ true) ⊎ HasRisen net.faults net_now.faults
  pub stands : new.failed ≡ false → net_now.faults ≡ net.faults

-- So many connections came: of those that waited the oldest were taken. Each is the link of a client that connected, or was let go; and those that
-- were let go are counted as dropped, as far as 32 bits go.
pub record HaveCome {L : Type 0} (came : ℕ) (net net_now : NetTold L) (old new : DaemonState L) : Type 0 where
  pub let_go : ℕ
  pub came_is : length new.links.links + let_go ≡ length old.links.links + came
  pub counted : old.dropped < 2 ^ 32 → new.dropped ≡ min (old.dropped + let_go) (2 ^ 32 - 1)
  pub waiting : IfSome net.waiting (λ links. (came ≤ length links) × (net_now.waiting ≡ Some (drop came links)))
  pub ends : EndsAccepts net net_now old new

-- ---- answers

-- how many connections came in a round of this answer
abbrev pub came_in : Round → ℕ
came_in answer = if answer.accepted then 1 else 0

-- What a round's answer tells of its accept. Nobody came only where no connection waited; a failure and a want of memory are the daemon's, and
-- without them it goes on; and one of the four is so.
pub record TellsAccept {L : Type 0} (answer : Round) (net net_now : NetTold L) (new : DaemonState L) : Type 0 where
  pub nobody : answer.none ≡ true → IfSome net.waiting (λ links. links ≡ []) × Stays net.waiting net_now.waiting
  pub failed : answer.failed ≡ true → new.failed ≡ true
  pub wanted : answer.wanted ≡ true → new.wanted ≡ true
  pub well : answer.failed ≡ false → answer.wanted ≡ false → (new.failed ≡ false) × (new.wanted ≡ false)
  pub one : answer.accepted ≡ false → answer.failed ≡ false → answer.wanted ≡ false → answer.none ≡ true

-- in so many rounds, which were the last ones, nobody came
abbrev pub HasWaited : {L : Type 0} → (L → LinkTold) → ℕ → NetTold L → Scene L → Type 0
HasWaited told zero net s = Unit {0}
HasWaited {L} told (suc times) net s =
    (answer : Round) × (answer.none ≡ true) × (before : NetTold L) × (old : Scene L) × IsRound told answer before net old s × HasWaited told times before old
