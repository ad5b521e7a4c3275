-- What a round takes of each application, in one sentence: 64 takes that gave, or one that found the ring empty, and then the losses once, unless no
-- more may come.
use Rattle.std.specs.Prelude.{◌≡◌, ◌≤◌, ◌+◌, ◌==◌, ◌⊎◌, ℕ, List, [], ◌∷◌, ◌++◌, length, filter}
use Rattle.dl_cells.specs.Losses.{report}
use Rattle.dl_cells.specs.declared.loss_keeper.Report.{Report}
use Rattle.dl_ring.specs.declared.item.RingItem.{RingItem}
use Rattle.dl_account.specs.Known.{taken_of}
use Rattle.dl_taking.specs.Took.{empties_of}
use Rattle.dl_loop.specs.Limits.{claim_limit, take_limit}
use Rattle.dl_loop.specs.Scene.{Scene}
use Rattle.dl_loop.specs.State.{DaemonState}

-- the Log and Lost events are as many as calls are allowed
abbrev pub HasAllCalls : {L : Type 0} → DaemonState L → Type 0
HasAllCalls d = d.noted ≡ d.calls

-- there are 1025 Claim events
abbrev pub HasAllClaims : {L : Type 0} → DaemonState L → Type 0
HasAllClaims d = d.claimed ≡ claim_limit

-- between the two a take found the ring of an application empty, once
abbrev pub FoundEmpty : {L : Type 0} → ℕ → Scene L → Scene L → Type 0
FoundEmpty app old new = empties_of new.daemon.desk.handles app ≡ empties_of old.daemon.desk.handles app + 1

-- the reports of an application's losses, in their order
abbrev pub reports_of : {L : Type 0} → ℕ → Scene L → List Report
reports_of app s = filter (λ r. r.app == app) s.daemon.desk.handles.losses.reported

-- between the two its losses were taken, once
abbrev pub HasReported : {L : Type 0} → ℕ → Scene L → Scene L → Type 0
HasReported app old new = (count : ℕ) × (reports_of app new ≡ reports_of app old ++ report app count ∷ [])

-- Between the two an application had its turn, and no more. The takes that gave are the calls and claims that were taken of its ring. They are 64, or
-- fewer where one take found the ring empty, and where no more may come. Its losses were taken once, unless no more may come.
pub record HasHadTurn {L : Type 0} (app : ℕ) (old new : Scene L) : Type 0 where
  pub gave : List RingItem
  pub taken : taken_of new.daemon.desk.handles app ≡ taken_of old.daemon.desk.handles app ++ gave
  pub few : length gave ≤ take_limit
  pub ended : (length gave ≡ take_limit) ⊎ FoundEmpty app old new ⊎ HasAllCalls new.daemon ⊎ HasAllClaims new.daemon
  pub once : empties_of new.daemon.desk.handles app ≤ empties_of old.daemon.desk.handles app + 1
  pub losses : HasReported app old new ⊎ HasAllCalls new.daemon
