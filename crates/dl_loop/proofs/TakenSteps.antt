-- A daemon is one after calls and a claim of an application were taken, and after its losses were.
use Rattle.std.proofs.Common.{◌≡◌, ℕ, ◌+◌, ◌<◌, ◌≤◌, ◌^◌, Bool, true, false, cond, eqb, List, [], ◌∷◌, ◌++◌, length, refl, sym, ap, subst, ◌∙◌, arith}
use Rattle.dl_bytes.specs.declared.moment.Moment.{Moment}
use Rattle.dl_cells.proofs.Bits.{bit_small}
use Rattle.dl_cells.specs.Losses.{report, reported_of}
use Rattle.dl_cells.specs.declared.loss_keeper.Report.{Report}
use Rattle.dl_outside.specs.Told.{LinkTold}
use Rattle.dl_ring.specs.declared.item.RingItem.TheVariants.{Register}
use Rattle.dl_cells.specs.Views.{bit}
use Rattle.dl_registry.specs.Kept.{Kept, owed_change}
use Rattle.dl_core.specs.Admission.{lost_frames}
use Rattle.dl_core.specs.State.{Core}
use Rattle.dl_taking.specs.Drained.{IsTake}
use Rattle.dl_taking.specs.Side.{Side}
use Rattle.dl_taking.specs.Takes.{TakesClaimIf}
use Rattle.dl_taking.specs.Took.{Took as Seen, took_by}
use Rattle.dl_taking.specs.declared.taking.Got.{Got}
use Rattle.dl_taking.proofs.DrainedEvents.{report_drain, step_drain}
use Rattle.dl_turns.specs.Events.{IsDeskOf}
use Rattle.dl_settling.specs.Room.{HasFewClaims, IsFew}
use Rattle.dl_loop.specs.Bounds.{HasBounds}
use Rattle.dl_loop.specs.Daemon.{IsDaemon}
use Rattle.dl_loop.specs.Scene.{Scene, taking_of}
use Rattle.dl_loop.specs.Limits.{claim_limit}
use Rattle.dl_loop.specs.State.{DaemonState, desk_told}
use Rattle.dl_loop.specs.Takes.{TakesLosses, TakesSomeOf}
use Rattle.dl_loop.proofs.AdmittedBounds.{bounds_logs, bounds_report}
use Rattle.dl_loop.proofs.FewEvents.{StayFew, claims_still, few_calls, few_losses, few_taken, one_at_most}
use Rattle.dl_loop.proofs.TakenDaemons.{Took, taken_daemon}

-- a claim behind calls is one item more
few_behind : (claimed : Bool) (app apps : ℕ) (noted claims calls : ℕ) (moment : Moment) (between new : Side) → TakesClaimIf claimed app moment between new → app < apps
    → StayFew noted claims calls 0 apps between.took → StayFew noted claims calls (bit claimed) apps new.took
few_behind true app apps noted claims calls moment between new takes below few =
    let more = few_taken (noted + calls) (claims + 0) 0 1 app apps (Register takes.claim ∷ []) between.took new.took takes.took refl refl below few.noted_few few.claims_few in record {
      noted_few = subst (λ (n : ℕ). IsFew n new.took apps) (omega arith) more.noted_few;
      claims_few = subst (λ (n : ℕ). HasFewClaims n new.took apps) (omega arith) more.claims_few;
    }
few_behind false app apps noted claims calls moment between new same below few = subst (λ (s : Side). StayFew noted claims calls 0 apps s.took) (sym same) few

module _ {L : Type 0} (told : L → LinkTold) (app : ℕ) (old new : Scene L) (is : IsDaemon told old.daemon) (greeted : old.daemon.greeted ≡ true) (within : app < length old.daemon.desk.apps) where
  -- ---- calls and a claim

  module _ (most : ℕ) (got : Got) (calls : old.daemon.noted + most ≤ old.daemon.calls) (claims : old.daemon.claimed < claim_limit) (takes : TakesSomeOf app most got old new) where
    pub some_took : Took got.calls (bit got.claimed) got.calls old new
    some_took =
        let some = takes.takes in
        let take : IsTake old.daemon.desk.apps got.calls (bit got.claimed) got.calls (taking_of old) (taking_of new) = step_drain old.daemon.desk.apps app most got (taking_of old) (taking_of new) within some in
        let few = few_behind got.claimed app (length old.daemon.desk.apps) old.daemon.noted old.daemon.claimed got.calls some.moment some.between (taking_of new) some.claim within
        (few_calls old.daemon.noted old.daemon.claimed got.calls app (length old.daemon.desk.apps) some.items (took_by old.daemon.desk.handles) some.between.took some.took some.count_is within is.few is.few_claims) in
        let admitted : new.daemon.core.hub.admitted ≡ old.daemon.core.hub.admitted + got.calls = omega (arith, take.drain.admitted, take.frames_so) in
        let reports : new.daemon.desk.handles.losses.reported ≡ old.daemon.desk.handles.losses.reported = same_reports got.claimed some.claim ∙ ap (λ (t : Seen). t.reported) some.took in
        record {
          take = take;
          greeted = greeted;
          settled = takes.settled;
          desk_so = takes.desk_so;
          desk = takes.desk;
          noted = takes.noted;
          claimed = takes.claimed;
          within = omega (arith, takes.noted, some.few, calls);
          within_claims = omega (arith, takes.claimed, bit_small got.claimed, claims);
          few = subst (λ (n : ℕ). IsFew n (took_by new.daemon.desk.handles) (length old.daemon.desk.apps)) (sym takes.noted) few.noted_few;
          few_claims = subst (λ (n : ℕ). HasFewClaims n (took_by new.daemon.desk.handles) (length old.daemon.desk.apps)) (sym takes.claimed) few.claims_few;
          bounds = subst (λ (n : ℕ). HasBounds n new.daemon.core.hub.admitted new.daemon.desk.handles.losses.reported) (sym takes.noted)
              (subst (λ (n : ℕ). HasBounds (old.daemon.noted + got.calls) n new.daemon.desk.handles.losses.reported) (sym admitted)
              (subst (λ (rs : List Report). HasBounds (old.daemon.noted + got.calls) (old.daemon.core.hub.admitted + got.calls) rs) (sym reports)
              (bounds_logs old.daemon.noted old.daemon.core.hub.admitted got.calls old.daemon.desk.handles.losses.reported is.bounds)));
          rest = takes.rest;
        }
      where
        same_reports : (claimed : Bool) → TakesClaimIf claimed app takes.takes.moment takes.takes.between (taking_of new) → new.daemon.desk.handles.losses.reported ≡ takes.takes.between.took.reported
        same_reports true claim = ap (λ (t : Seen). t.reported) claim.took
        same_reports false same = ap (λ (s : Side). s.took.reported) same

    pub some_is : IsDaemon told new.daemon
    some_is = taken_daemon told got.calls (bit got.claimed) got.calls old new is some_took

  -- ---- losses

  module _ (count : ℕ) (free : old.daemon.noted < old.daemon.calls) (losses : TakesLosses app count old new) where
    at_most_one : (b : Bool) → ◌≤◌ (cond b 0 1) 1
    at_most_one true = omega arith
    at_most_one false = omega arith

    abbrev frames : ℕ
    frames = length (lost_frames old.daemon.core.ecu losses.reports.apid count)

    pub losses_took : Took (cond (eqb count 0) 0 1) 0 frames old new
    losses_took =
        let reports = losses.reports in
        let take : IsTake old.daemon.desk.apps (cond (eqb count 0) 0 1) 0 frames (taking_of old) (taking_of new) = report_drain old.daemon.desk.apps app count (taking_of old) (taking_of new) within reports in
        let admitted : new.daemon.core.hub.admitted ≡ old.daemon.core.hub.admitted + frames = omega (arith, take.drain.admitted, take.frames_so) in
        let more : new.daemon.desk.handles.losses.reported ≡ old.daemon.desk.handles.losses.reported ++ report app count ∷ [] = ap (λ (t : Seen). t.reported) reports.took in
        let own : reported_of app (old.daemon.desk.handles.losses.reported ++ report app count ∷ []) < 2 ^ 47 = subst (λ (rs : List Report). reported_of app rs < 2 ^ 47) more reports.small in
        let registry : new.daemon.core.registry ≡ old.daemon.core.registry = ap (λ (k : Core). k.registry) reports.tells.rest in
        let claimed : new.daemon.claimed ≡ old.daemon.claimed = ap (λ (d : DaemonState L). d.claimed) losses.rest in
        record {
          take = take;
          greeted = greeted;
          settled = ap (λ (k : Kept). owed_change k) registry ∙ is.linked.settled;
          desk_so = subst (λ (k : Kept). IsDeskOf k (desk_told new.daemon.desk)) (sym registry) (subst (IsDeskOf old.daemon.core.registry) (sym reports.desk) is.heard.desk_so);
          desk = losses.desk;
          noted = losses.noted;
          claimed = omega (arith, claimed);
          within = omega (arith, losses.noted, free, at_most_one (eqb count 0));
          within_claims = omega (arith, claimed, is.room.few_claims);
          few = subst (λ (n : ℕ). IsFew n (took_by new.daemon.desk.handles) (length old.daemon.desk.apps)) (sym losses.noted)
              (few_losses old.daemon.noted (cond (eqb count 0) 0 1) count app (length old.daemon.desk.apps) (took_by old.daemon.desk.handles) (took_by new.daemon.desk.handles) reports.took (one_at_most count) within is.few);
          few_claims = subst (λ (n : ℕ). HasFewClaims n (took_by new.daemon.desk.handles) (length old.daemon.desk.apps)) (sym claimed)
              (claims_still old.daemon.claimed (length old.daemon.desk.apps) (took_by old.daemon.desk.handles) (took_by new.daemon.desk.handles) (λ n. ap (λ (t : Seen). t.taken n) reports.took) is.few_claims);
          bounds = subst (λ (n : ℕ). HasBounds n new.daemon.core.hub.admitted new.daemon.desk.handles.losses.reported) (sym losses.noted)
              (subst (λ (n : ℕ). HasBounds (old.daemon.noted + cond (eqb count 0) 0 1) n new.daemon.desk.handles.losses.reported) (sym admitted)
              (subst (λ (rs : List Report). HasBounds (old.daemon.noted + cond (eqb count 0) 0 1) (old.daemon.core.hub.admitted + frames) rs) (sym more)
              (bounds_report old.daemon.core.ecu reports.apid old.daemon.noted old.daemon.core.hub.admitted app count old.daemon.desk.handles.losses.reported (omega (arith, within, is.apps)) own is.bounds)));
          rest = losses.rest ∙ same_claims claimed;
        }
      where
        same_claims : new.daemon.claimed ≡ old.daemon.claimed → record old.daemon { core = new.daemon.core; desk = new.daemon.desk; journal = new.daemon.journal; noted = new.daemon.noted }
            ≡ record old.daemon { core = new.daemon.core; desk = new.daemon.desk; journal = new.daemon.journal; noted = new.daemon.noted; claimed = new.daemon.claimed }
        same_claims same = λ i. record old.daemon { core = new.daemon.core; desk = new.daemon.desk; journal = new.daemon.journal; noted = new.daemon.noted; claimed = sym same i }

    pub losses_is : IsDaemon told new.daemon
    losses_is = taken_daemon told (cond (eqb count 0) 0 1) 0 frames old new is losses_took
