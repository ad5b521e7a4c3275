-- Taking as its events: one step, and a drain.
use Rattle.std.proofs.Common.{◌≡◌, ℕ, zero, suc, ◌+◌, ◌<◌, ◌≤◌, Bool, true, false, cond, eqb, List, [], ◌∷◌, length, sym, ap, subst, ◌∙◌, count_by, arith}
use Rattle.dl_bytes.specs.declared.conf.AppSpec.{AppSpec}
use Rattle.dl_bytes.specs.declared.moment.Moment.{Moment}
use Rattle.dl_model.specs.declared.registry.LevelChange.{LevelChange}
use Rattle.dl_cells.specs.Views.{bit}
use Rattle.dl_hub.specs.State.{Hub, is_open}
use Rattle.dl_core.specs.Admission.{lost_frames}
use Rattle.dl_core.specs.State.{Core}
use Rattle.dl_turns.specs.Events.{SetsLevels}
use Rattle.dl_turns.specs.State as turns
use Rattle.dl_taking.specs.Drained.{IsDrain, IsTake}
use Rattle.dl_taking.specs.Draining.{DrainsAll, DrainsFirst, TakesOn}
use Rattle.dl_taking.specs.Side.{Side, turned}
use Rattle.dl_taking.specs.Takes.{Reports, TakesClaim, TakesClaimIf, TakesSome, owed_by, owned_claim}
use Rattle.dl_taking.specs.declared.taking.Got.{Got}
use Rattle.dl_taking.proofs.JoinedDrains.{IsCounted, counted_both, counted_none, drain_both, drain_none}
use Rattle.dl_taking.proofs.StepDrains.{claim_drain, logs_drain, losses_drain}

-- ---- one step

levels_hub : (changes : List LevelChange) (old new : turns.Side) → SetsLevels changes old new → new.core.hub ≡ old.core.hub
levels_hub [] old new all = ap (λ (s : turns.Side). s.core.hub) all.0
levels_hub (next ∷ others) old new all = levels_hub others all.0 new all.2 ∙ ap (λ (k : Core). k.hub) all.1.core

-- a claim changes nothing of clients
pub claim_hub : (app : ℕ) (moment : Moment) (old new : Side) → TakesClaim app moment old new → new.part.core.hub ≡ old.part.core.hub
claim_hub app moment old new takes = levels_hub takes.notes.levels.0 takes.notes.between (turned new) takes.notes.levels.1 ∙ ap (λ (k : Core). k.hub) takes.notes.core

-- what a claim comes to, where there was one, with what it leaves of the journal's room
pub record IsBehind (specs : List AppSpec) (claims : ℕ) (old new : Side) : Type 0 where
  pub counted : IsCounted specs 0 claims 0 old new
  pub hub : new.part.core.hub ≡ old.part.core.hub
  pub levels : ℕ
  pub few : levels ≤ claims
  pub spare_so : new.spare + claims + levels ≡ old.spare

pub claim_behind : (specs : List AppSpec) (app : ℕ) (moment : Moment) (claimed : Bool) (old new : Side) → app < length specs → TakesClaimIf claimed app moment old new → IsBehind specs (bit claimed) old new
claim_behind specs app moment true old new within takes = record {
  counted = claim_drain specs app moment old new within takes;
  hub = claim_hub app moment old new takes;
  levels = owed_by (owned_claim app takes.claim) old.part.core.registry;
  few = takes.few;
  spare_so = omega (arith, takes.spare_so);
}
claim_behind specs app moment false old new within same = record {
  counted = subst (λ (s : Side). IsCounted specs 0 0 0 old s) (sym same) (counted_none specs old);
  hub = ap (λ (s : Side). s.part.core.hub) same;
  levels = 0;
  few = omega arith;
  spare_so = let spare : new.spare ≡ old.spare = ap (λ (s : Side). s.spare) same in omega (arith, spare);
}

pub step_drain : (specs : List AppSpec) (app most : ℕ) (got : Got) (old new : Side) → app < length specs → TakesSome app most got old new → IsTake specs got.calls (bit got.claimed) got.calls old new
step_drain specs app most got old new within takes =
    let between = takes.between in
    let logs = logs_drain specs app takes.moment takes.items old between within takes.took takes.logs takes.desk in
    let behind = claim_behind specs app takes.moment got.claimed between new within takes.claim in
    let both = counted_both specs (length takes.items) 0 (length takes.items) 0 (bit got.claimed) 0 old between new logs behind.counted in
    let still : count_by is_open new.part.core.hub.clients ≡ count_by is_open between.part.core.hub.clients = ap (λ (h : Hub). count_by is_open h.clients) behind.hub in
    record {
      drain = both.drain;
      logs_so = omega (arith, both.logs_so, takes.count_is);
      claims_so = omega (arith, both.claims_so);
      frames_so = omega (arith, both.frames_so, takes.count_is);
      levels = behind.levels;
      few = behind.few;
      closed = takes.uses.closed;
      clients = omega (arith, still, takes.uses.clients);
      spare_so = omega (arith, takes.uses.spare_so, behind.spare_so);
    }

pub report_drain : (specs : List AppSpec) (app lost : ℕ) (old new : Side) → app < length specs → (reports : Reports specs app lost old new)
    → IsTake specs (cond (eqb lost 0) 0 1) 0 (length (lost_frames old.part.core.ecu reports.apid lost)) old new
report_drain specs app lost old new within reports =
    let counted = losses_drain specs app lost old new within reports in
    record {
      drain = counted.drain;
      logs_so = counted.logs_so;
      claims_so = counted.claims_so;
      frames_so = counted.frames_so;
      levels = 0;
      few = omega arith;
      closed = reports.uses.closed;
      clients = reports.uses.clients;
      spare_so = omega (arith, reports.uses.spare_so);
    }

-- ---- all of them

on_drain : (specs : List AppSpec) (app count : ℕ) (old new : Side) → app < length specs → TakesOn app count old new → IsDrain specs old new
on_drain specs app zero old new within takes = subst (IsDrain specs old) (sym takes) (drain_none specs old)
on_drain specs app (suc count) old new within takes =
    drain_both specs old takes.0 new (on_drain specs app count old takes.0 within takes.1) (step_drain specs app 64 takes.2.0 takes.0 new within takes.2.1).drain

first_drain : (specs : List AppSpec) (many : ℕ) (old new : Side) → many ≤ length specs → DrainsFirst specs many old new → IsDrain specs old new
first_drain specs zero old new within drains = subst (IsDrain specs old) (sym drains) (drain_none specs old)
first_drain specs (suc app) old new within drains =
    let one = drains.2 in
    let below : app < length specs = omega (arith, within) in
    drain_both specs old drains.0 new (first_drain specs app old drains.0 (omega (arith, within)) drains.1)
    (drain_both specs drains.0 one.emptied new (on_drain specs app one.count drains.0 one.emptied below one.takes) (report_drain specs app one.lost one.emptied new below one.reports).drain)

pub all_drain : (specs : List AppSpec) (old new : Side) → DrainsAll specs old new → IsDrain specs old new
all_drain specs old new drains = first_drain specs (length specs) old new (omega arith) drains
