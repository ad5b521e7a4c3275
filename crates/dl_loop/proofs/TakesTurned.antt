-- Turns of applications, one after the other.
use Rattle.std.proofs.Common.{◌≡◌, ◌≢◌, ℕ, suc, ◌+◌, ◌-◌, ◌<◌, ◌==◌, Bool, false, List, [], ◌∷◌, inl, inr, ap, subst, ◌∙◌, arith}
use Rattle.std.specs.Prelude.{◌||◌}
use Rattle.std.proofs.lemmas.Bool.{eqb-false}
use Rattle.dl_taking.specs.declared.taking.Got.{Got}
use Rattle.dl_loop.specs.Scene.{Scene}
use Rattle.dl_loop.specs.Limits.{claim_limit}
use Rattle.dl_loop.specs.State.{DaemonState}
use Rattle.dl_taking.specs.Takes.{found_none, gave}
use Rattle.dl_loop.specs.Takes.{TakesCalls, TakesLossesIfMay, TakesOn, TakesSomeOf, TakesTurns, is_over, most_of}
use Rattle.dl_loop.proofs.TakenDaemons.{taken_apps}
use Rattle.dl_lemmas.proofs.Bools.{neither}

-- ---- takes of one application

-- they are not over
pub record GoOn {L : Type 0} (done : ℕ) (empty : Bool) (d : DaemonState L) : Type 0 where
  pub more : empty ≡ false
  pub fewer : done ≢ 64
  pub calls : d.noted ≢ d.calls
  pub claims : d.claimed ≢ claim_limit

pub go_on : {L : Type 0} (done : ℕ) (empty : Bool) (d : DaemonState L) → is_over done empty d ≡ false → GoOn done empty d
go_on done empty d is =
    let first = neither (empty || done == 64 || d.noted == d.calls) (d.claimed == claim_limit) is in
    let second = neither (empty || done == 64) (d.noted == d.calls) first.0 in
    let third = neither empty (done == 64) second.0 in record {
      more = third.0;
      fewer = eqb-false done 64 third.1;
      calls = eqb-false d.noted d.calls second.1;
      claims = eqb-false d.claimed claim_limit first.1;
    }

-- ---- what stays

-- the applications are the same, and have told of themselves or not
pub record SameApps {L : Type 0} (old new : Scene L) : Type 0 where
  pub apps : new.daemon.desk.apps ≡ old.daemon.desk.apps
  pub greeted : new.daemon.greeted ≡ old.daemon.greeted

same_scene : {L : Type 0} (old new : Scene L) → new ≡ old → SameApps old new
same_scene old new same = record { apps = ap (λ (s : Scene _). s.daemon.desk.apps) same; greeted = ap (λ (s : Scene _). s.daemon.greeted) same }

pub some_same : {L : Type 0} (app most : ℕ) (got : Got) (old new : Scene L) → TakesSomeOf app most got old new → SameApps old new
some_same app most got old new some = record { apps = taken_apps old.daemon.desk new.daemon.desk some.desk; greeted = ap (λ (d : DaemonState _). d.greeted) some.rest }

on_same : {L : Type 0} (app done : ℕ) (empty : Bool) (gots : List Got) (old new : Scene L) → TakesOn app done empty gots old new → SameApps old new
on_same app done empty [] old new none = same_scene old new none.1
on_same app done empty (got ∷ gots) old new some =
    let one = some_same app (most_of done old.daemon) got old some.1 some.2 in
    let rest = on_same app (done + gave got) (found_none (most_of done old.daemon) got) gots some.1 new some.3 in
    record { apps = rest.apps ∙ one.apps; greeted = rest.greeted ∙ one.greeted }

pub calls_same : {L : Type 0} (app : ℕ) (old new : Scene L) → TakesCalls app old new → SameApps old new
calls_same app old new calls = on_same app 0 false calls.0 old new calls.1

pub losses_same : {L : Type 0} (app : ℕ) (old new : Scene L) → TakesLossesIfMay app old new → SameApps old new
losses_same app old new (inl some) = record { apps = taken_apps old.daemon.desk new.daemon.desk some.2.desk; greeted = ap (λ (d : DaemonState _). d.greeted) some.2.rest }
losses_same app old new (inr none) = same_scene old new none.1

module _ {L : Type 0} (app : ℕ) (was mid now : Scene L) (calls : TakesCalls app was mid) (losses : TakesLossesIfMay app mid now) where
  pub turn_same : SameApps was now
  turn_same =
      let one = calls_same app was mid calls in
      let two = losses_same app mid now losses in record { apps = two.apps ∙ one.apps; greeted = two.greeted ∙ one.greeted }

  -- a turn, with those after it
  pub turns_next : (many : ℕ) (end : Scene L) → app < many → TakesTurns (app + 1) (many - (app + 1)) now end → TakesTurns app (many - app) was end
  turns_next many end within rest =
      let one : suc (many - (app + 1)) ≡ many - app = omega (arith, within) in
      subst (λ (n : ℕ). TakesTurns app n was end) one (now, record { between = mid; calls = calls; losses = losses }, rest)
