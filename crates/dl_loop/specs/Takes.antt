-- What a round takes of the programs that log.
use Rattle.std.specs.Prelude.{◌≡◌, ℕ, zero, suc, ◌+◌, ◌-◌, ◌<◌, ◌==◌, nat_lt, min, ◌⊎◌, Bool, true, false, ◌||◌, List, [], ◌∷◌, length, None, if◌then◌else◌}
use Rattle.dl_cells.specs.Views.{bit}
use Rattle.dl_desk.specs.State.{DeskState}
use Rattle.dl_registry.specs.Kept.{owed_change}
use Rattle.dl_taking.specs.Takes.{Reports, TakesSome, found_none, gave}
use Rattle.dl_taking.specs.Took.{empties_now, empties_of, untaken}
use Rattle.dl_taking.specs.declared.taking.Got.{Got}
use Rattle.dl_turns.specs.Events.{IsDeskOf}
use Rattle.dl_loop.specs.Limits.{claim_limit, take_limit}
use Rattle.dl_loop.specs.Scene.{Scene, taking_of}
use Rattle.dl_loop.specs.State.{DaemonState, desk_told}

-- nothing has changed of a desk but what was taken of rings and loss words, and what it tells of levels and injections
abbrev pub SameButTaken : DeskState → DeskState → Type 0
SameButTaken old new = (record new { handles = untaken new.handles }) ≡ (record old { handles = untaken old.handles })

-- ---- calls and claims

-- how many takes may give now, where so many of a round gave: no more in all than may of a round, and no more than Log and Lost events may still come
abbrev pub most_of : {L : Type 0} → ℕ → DaemonState L → ℕ
most_of done d = min (take_limit - done) (d.calls - d.noted)

-- An application's takes of a round are over: its ring was found empty, or as many gave as may, or as many Log and Lost events or Claim events are
-- noted as may be.
abbrev pub is_over : {L : Type 0} → ℕ → Bool → DaemonState L → Bool
is_over done empty d = empty || done == take_limit || d.noted == d.calls || d.claimed == claim_limit

-- Calls of an application were taken and admitted, and then a claim of it, where one came: so many takes gave at most. There were fewer only where
-- a claim came, or where the ring was then found empty, once; no take else found one empty. No Level event is owed, and the level words follow the
-- registry.
pub record TakesSomeOf {L : Type 0} (app most : ℕ) (got : Got) (old new : Scene L) : Type 0 where
  pub takes : TakesSome app most got (taking_of old) (taking_of new)
  pub empties : empties_of new.daemon.desk.handles ≡ empties_now app (found_none most got) (empties_of old.daemon.desk.handles)
  pub settled : owed_change new.daemon.core.registry ≡ None
  pub desk_so : IsDeskOf new.daemon.core.registry (desk_told new.daemon.desk)
  pub desk : SameButTaken old.daemon.desk new.daemon.desk
  pub noted : new.daemon.noted ≡ old.daemon.noted + got.calls
  pub claimed : new.daemon.claimed ≡ old.daemon.claimed + bit got.claimed
  pub rest : new.daemon
      ≡ record old.daemon { core = new.daemon.core; desk = new.daemon.desk; journal = new.daemon.journal; noted = new.daemon.noted; claimed = new.daemon.claimed }

-- So an application's takes go on, where so many of the round gave and the last one found its ring empty or not, until they are over.
abbrev pub TakesOn : {L : Type 0} → ℕ → ℕ → Bool → List Got → Scene L → Scene L → Type 0
TakesOn app done empty [] old new = (is_over done empty old.daemon ≡ true) × (new ≡ old)
TakesOn {L} app done empty (got ∷ gots) old new =
    (is_over done empty old.daemon ≡ false) × (next : Scene L) × TakesSomeOf app (most_of done old.daemon) got old next
    × TakesOn app (done + gave got) (found_none (most_of done old.daemon) got) gots next new

-- all takes of an application in a round
abbrev pub TakesCalls : {L : Type 0} → ℕ → Scene L → Scene L → Type 0
TakesCalls app old new = (gots : List Got) × TakesOn app 0 false gots old new

-- ---- losses

-- The losses of an application were taken once, and told where there were any; no ring was found empty.
pub record TakesLosses {L : Type 0} (app count : ℕ) (old new : Scene L) : Type 0 where
  pub reports : Reports old.daemon.desk.apps app count (taking_of old) (taking_of new)
  pub empties : empties_of new.daemon.desk.handles ≡ empties_of old.daemon.desk.handles
  pub desk : SameButTaken old.daemon.desk new.daemon.desk
  pub noted : new.daemon.noted ≡ old.daemon.noted + (if count == 0 then 0 else 1)
  pub rest : new.daemon ≡ record old.daemon { core = new.daemon.core; desk = new.daemon.desk; journal = new.daemon.journal; noted = new.daemon.noted }

-- Losses are taken only while a Log or a Lost event may come.
abbrev pub TakesLossesIfMay : {L : Type 0} → ℕ → Scene L → Scene L → Type 0
TakesLossesIfMay app old new =
    ((old.daemon.noted < old.daemon.calls) × (count : ℕ) × TakesLosses app count old new)
    ⊎ ((old.daemon.noted ≡ old.daemon.calls) × (new ≡ old))

-- ---- turns

-- An application had its turn: calls and claims of it were taken, and then its losses.
pub record TakesTurn {L : Type 0} (app : ℕ) (old new : Scene L) : Type 0 where
  pub between : Scene L
  pub calls : TakesCalls app old between
  pub losses : TakesLossesIfMay app between new

-- so many applications had their turns, one after the other, from this one on
abbrev pub TakesTurns : {L : Type 0} → ℕ → ℕ → Scene L → Scene L → Type 0
TakesTurns first zero old new = new ≡ old
TakesTurns {L} first (suc many) old new = (next : Scene L) × TakesTurn first old next × TakesTurns (first + 1) many next new

-- all applications had their turns, in order
abbrev pub TakesAll : {L : Type 0} → Scene L → Scene L → Type 0
TakesAll old new = TakesTurns 0 (length old.daemon.desk.apps) old new

-- Something was taken between the two: a call, a claim or losses. Each has its event, so more Log, Lost and Claim events are noted.
abbrev pub has_taken : {L : Type 0} → DaemonState L → DaemonState L → Bool
has_taken old new = nat_lt (old.noted + old.claimed) (new.noted + new.claimed)
