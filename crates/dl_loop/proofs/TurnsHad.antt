-- What a round took of an application, out of the takes of all.
use Rattle.std.proofs.Common.{◌≡◌, ℕ, zero, suc, ◌+◌, ◌<◌, ◌≤◌, ◌==◌, ◌⊎◌, inl, inr, Bool, true, false, cond, List, [], ◌∷◌, ◌++◌, append-nil, length, length-append, map, refl, sym, ap, subst, ◌∙◌, arith}
use Rattle.std.specs.Prelude.{◌||◌, filter}
use Rattle.std.proofs.lemmas.Bool.{eqb-true}
use Rattle.std.proofs.lemmas.Bool.Decides.{eqb_tells}
use Rattle.std.proofs.lemmas.List.{length-map}
use Rattle.std.proofs.lemmas.List.Elements.{filter-append}
use Rattle.dl_cells.proofs.Bits.{bit_small}
use Rattle.dl_cells.specs.Losses.{report}
use Rattle.dl_cells.specs.declared.loss_keeper.Report.{Report}
use Rattle.dl_outside.specs.Told.{LinkTold, NetTold}
use Rattle.dl_ring.specs.declared.item.RingItem.{RingItem}
use Rattle.dl_ring.specs.declared.item.RingItem.TheVariants.{Log, Register}
use Rattle.dl_cells.specs.Views.{bit}
use Rattle.dl_desk.specs.State.{DeskState}
use Rattle.dl_account.specs.Known.{taken_of}
use Rattle.dl_taking.specs.Resting.{empties_still}
use Rattle.dl_taking.specs.Side.{Side}
use Rattle.dl_taking.specs.Takes.{TakesClaimIf, found_none, gave}
use Rattle.dl_taking.specs.Took.{Took, empties_now, empties_of, took_by, with_items}
use Rattle.dl_taking.specs.declared.taking.Got.{Got}
use Rattle.dl_taking.proofs.Tooks.{items_both, items_none, taken_here}
use Rattle.dl_rounds.specs.declared.accepting.Arrival.{Arrival}
use Rattle.dl_loop.specs.InRound.{FoundEmpty, HasAllCalls, HasAllClaims, HasHadTurn, HasReported, reports_of}
use Rattle.dl_loop.specs.Limits.{claim_limit, take_limit}
use Rattle.dl_loop.specs.RoundSteps.{AcceptsIfMay, IsRound}
use Rattle.dl_loop.specs.Scene.{Scene, scene, taking_of}
use Rattle.dl_loop.specs.State.{DaemonState, SameDesk}
use Rattle.dl_loop.specs.Takes.{TakesLossesIfMay, TakesOn, TakesSomeOf, TakesTurn, TakesTurns, is_over, most_of}
use Rattle.dl_loop.specs.declared.round.Round.{Round}
use Rattle.dl_loop.proofs.DeskRest.{same_apps, same_reported, same_taken}
use Rattle.dl_loop.proofs.TakesTurned.{go_on}
use Rattle.dl_lemmas.proofs.Bools.{either}

-- ---- one application among all

own_number : (app : ℕ) (n : ℕ) → n ≡ app → (n == app) ≡ true
own_number app n same = elim (eqb_tells n app) [
  | inl is ↦ is.0
  | inr apart ↦ absurd (apart.1 same)
]

other_number : (app n : ℕ) → (n ≡ app → ⊥) → (n == app) ≡ false
other_number app n apart = elim (eqb_tells n app) [
  | inl is ↦ absurd (apart is.1)
  | inr is ↦ is.0
]

items_other : (app n : ℕ) (items : List RingItem) (took : Took) → (n ≡ app → ⊥) → (with_items app items took).taken n ≡ took.taken n
items_other app n items took apart = ap (λ (b : Bool). cond b (took.taken n ++ items) (took.taken n)) (other_number app n apart)

now_own : (app : ℕ) (found : Bool) (empties : ℕ → ℕ) → empties_now app found empties app ≡ empties app + bit found
now_own app true empties = ap (λ (b : Bool). cond b (empties app + 1) (empties app)) (own_number app app refl)
now_own app false empties = omega arith

now_other : (app n : ℕ) (found : Bool) (empties : ℕ → ℕ) → (n ≡ app → ⊥) → empties_now app found empties n ≡ empties n
now_other app n true empties apart = ap (λ (b : Bool). cond b (empties n + 1) (empties n)) (other_number app n apart)
now_other app n false empties apart = refl

report_own : (app count : ℕ) (reports : List Report) → filter (λ r. r.app == app) (reports ++ report app count ∷ []) ≡ filter (λ r. r.app == app) reports ++ report app count ∷ []
report_own app count reports =
    filter-append (λ (r : Report). r.app == app) reports (report app count ∷ [])
    ∙ ap (λ (b : Bool). filter (λ (r : Report). r.app == app) reports ++ cond b (report app count ∷ []) []) (own_number app app refl)

report_other : (app n count : ℕ) (reports : List Report) → (n ≡ app → ⊥) → filter (λ r. r.app == n) (reports ++ report app count ∷ []) ≡ filter (λ r. r.app == n) reports
report_other app n count reports apart =
    filter-append (λ (r : Report). r.app == n) reports (report app count ∷ [])
    ∙ ap (λ (b : Bool). filter (λ (r : Report). r.app == n) reports ++ cond b (report app count ∷ []) []) (other_number n app (λ same. apart (sym same)))
    ∙ append-nil (filter (λ (r : Report). r.app == n) reports)

-- ---- takes of one application

-- what was taken at once: calls, and a claim after them, where one came
claim_part : (claimed : Bool) (app : ℕ) (moment : _) (between new : Side) → TakesClaimIf claimed app moment between new
    → (items : List RingItem) × (new.took ≡ with_items app items between.took) × (length items ≡ bit claimed)
claim_part true app moment between new takes = (Register takes.claim ∷ [], takes.took, refl)
claim_part false app moment between new same = ([], ap (λ (s : Side). s.took) same ∙ sym (items_none app between.took), refl)

first_found : (app : ℕ) (first rest : Bool) (was mid now : ℕ → ℕ) → (first ≡ true → rest ≡ false) → mid ≡ empties_now app first was → now ≡ empties_now app rest mid → now ≡ empties_now app (first || rest) was
first_found app true true was mid now apart one two = absurd (let e = apart refl in cc)
first_found app true false was mid now apart one two = two ∙ one
first_found app false rest was mid now apart one two = two ∙ ap (empties_now app rest) one

module _ {L : Type 0} where
  some_items : (app most : ℕ) (got : Got) (old new : Scene L) → TakesSomeOf app most got old new
      → (items : List RingItem) × (took_by new.daemon.desk.handles ≡ with_items app items (took_by old.daemon.desk.handles)) × (length items ≡ gave got)
  some_items app most got old new some =
      let takes = some.takes in
      let claim = claim_part got.claimed app takes.moment takes.between (taking_of new) takes.claim in (
        map Log takes.items ++ claim.0,
        claim.1 ∙ ap (with_items app claim.0) takes.took ∙ items_both app (map Log takes.items) claim.0 (took_by old.daemon.desk.handles),
        omega (arith, length-append (map Log takes.items) claim.0, length-map takes.items Log, takes.count_is, claim.2),
      )

  -- so many gave, and why they ended
  record HaveEnded (app done : ℕ) (empty : Bool) (old new : Scene L) : Type 0 where
    pub items : List RingItem
    pub took : took_by new.daemon.desk.handles ≡ with_items app items (took_by old.daemon.desk.handles)
    pub few : done ≤ take_limit → done + length items ≤ take_limit
    pub found : Bool
    pub empties : empties_of new.daemon.desk.handles ≡ empties_now app found (empties_of old.daemon.desk.handles)
    pub no_more : empty ≡ true → found ≡ false
    pub ended : (done + length items ≡ take_limit) ⊎ ((empty || found) ≡ true) ⊎ HasAllCalls new.daemon ⊎ HasAllClaims new.daemon

  over : (done : ℕ) (empty : Bool) (d : DaemonState L) → is_over done empty d ≡ true → (done ≡ take_limit) ⊎ (empty ≡ true) ⊎ HasAllCalls d ⊎ HasAllClaims d
  over done empty d is = elim (either (empty || done == take_limit || d.noted == d.calls) (d.claimed == claim_limit) is) [
    | inr claims ↦ inr (inr (inr (eqb-true d.claimed claim_limit claims)))
    | inl first ↦ elim (either (empty || done == take_limit) (d.noted == d.calls) first) [
      | inr calls ↦ inr (inr (inl (eqb-true d.noted d.calls calls)))
      | inl second ↦ elim (either empty (done == take_limit) second) [
        | inl none ↦ inr (inl none)
        | inr all ↦ inl (eqb-true done take_limit all)
      ]
    ]
  ]

  or_none : (empty : Bool) → (done : ℕ) (d : DaemonState L) → (done ≡ take_limit) ⊎ (empty ≡ true) ⊎ HasAllCalls d ⊎ HasAllClaims d
      → (done + 0 ≡ take_limit) ⊎ ((empty || false) ≡ true) ⊎ HasAllCalls d ⊎ HasAllClaims d
  or_none empty done d (inl all) = inl (omega (arith, all))
  or_none true done d (inr (inl none)) = inr (inl refl)
  or_none false done d (inr (inl none)) = absurd cc
  or_none empty done d (inr (inr (inl calls))) = inr (inr (inl calls))
  or_none empty done d (inr (inr (inr claims))) = inr (inr (inr claims))

  -- nothing more was taken
  ends_now : (app done : ℕ) (empty : Bool) (old new : Scene L) → is_over done empty old.daemon ≡ true → new ≡ old → HaveEnded app done empty old new
  ends_now app done empty old new is same = subst (HaveEnded app done empty old) (sym same) (record {
    items = [];
    took = sym (items_none app (took_by old.daemon.desk.handles));
    few = λ few. omega (arith, few);
    found = false;
    empties = refl;
    no_more = λ _. refl;
    ended = or_none empty done old.daemon (over done empty old.daemon is);
  })

  then_ended : (done gave more all : ℕ) (empty first rest : Bool) (d : DaemonState L) → all ≡ gave + more → empty ≡ false
      → (done + gave + more ≡ take_limit) ⊎ ((first || rest) ≡ true) ⊎ HasAllCalls d ⊎ HasAllClaims d
      → (done + all ≡ take_limit) ⊎ ((empty || (first || rest)) ≡ true) ⊎ HasAllCalls d ⊎ HasAllClaims d
  then_ended done gave more all empty first rest d long not_empty (inl is) = inl (omega (arith, long, is))
  then_ended done gave more all empty first rest d long not_empty (inr (inl is)) = inr (inl (ap (λ (b : Bool). b || (first || rest)) not_empty ∙ is))
  then_ended done gave more all empty first rest d long not_empty (inr (inr (inl is))) = inr (inr (inl is))
  then_ended done gave more all empty first rest d long not_empty (inr (inr (inr is))) = inr (inr (inr is))

  have_ended : (app done : ℕ) (empty : Bool) (gots : List Got) (old new : Scene L) → TakesOn app done empty gots old new → HaveEnded app done empty old new
  have_ended app done empty [] old new none = ends_now app done empty old new none.0 none.1
  have_ended app done empty (got ∷ gots) old new some =
      let next = some.1 in
      let on = go_on done empty old.daemon some.0 in
      let first = found_none (most_of done old.daemon) got in
      let one = some_items app (most_of done old.daemon) got old next some.2 in
      let rest = have_ended app (done + gave got) first gots next new some.3 in
      let long : length (one.0 ++ rest.items) ≡ gave got + length rest.items = omega (arith, length-append one.0 rest.items, one.2) in
      let most : gave got ≤ most_of done old.daemon = some.2.takes.few in record {
        items = one.0 ++ rest.items;
        took = rest.took ∙ ap (with_items app rest.items) one.1 ∙ items_both app one.0 rest.items (took_by old.daemon.desk.handles);
        few = λ few. (let more = rest.few (omega (arith, few, most)) in omega (arith, more, long));
        found = first || rest.found;
        empties = first_found app first rest.found (empties_of old.daemon.desk.handles) (empties_of next.daemon.desk.handles) (empties_of new.daemon.desk.handles) rest.no_more some.2.empties rest.empties;
        no_more = λ is. absurd (let e = on.more in cc);
        ended = then_ended done (gave got) (length rest.items) (length (one.0 ++ rest.items)) empty first rest.found new.daemon long on.more rest.ended;
      }

  -- where no more may come, nothing more comes
  on_calls : (app done : ℕ) (empty : Bool) (gots : List Got) (old new : Scene L) → TakesOn app done empty gots old new → HasAllCalls old.daemon → HasAllCalls new.daemon
  on_calls app done empty [] old new none all = subst (λ (s : Scene L). HasAllCalls s.daemon) (sym none.1) all
  on_calls app done empty (got ∷ gots) old new some all = absurd ((go_on done empty old.daemon some.0).calls all)

  on_claims : (app done : ℕ) (empty : Bool) (gots : List Got) (old new : Scene L) → TakesOn app done empty gots old new → HasAllClaims old.daemon → HasAllClaims new.daemon
  on_claims app done empty [] old new none all = subst (λ (s : Scene L). HasAllClaims s.daemon) (sym none.1) all
  on_claims app done empty (got ∷ gots) old new some all = absurd ((go_on done empty old.daemon some.0).claims all)

  losses_calls : (app : ℕ) (old new : Scene L) → TakesLossesIfMay app old new → HasAllCalls old.daemon → HasAllCalls new.daemon
  losses_calls app old new (inl some) all = absurd (omega (arith, some.0, all))
  losses_calls app old new (inr none) all = subst (λ (s : Scene L). HasAllCalls s.daemon) (sym none.1) all

  losses_claims : (app : ℕ) (old new : Scene L) → TakesLossesIfMay app old new → HasAllClaims old.daemon → HasAllClaims new.daemon
  losses_claims app old new (inl some) all = ap (λ (d : DaemonState L). d.claimed) some.2.rest ∙ all
  losses_claims app old new (inr none) all = subst (λ (s : Scene L). HasAllClaims s.daemon) (sym none.1) all

  -- ---- what a step leaves of an application as it was

  record Keeps (app : ℕ) (old new : Scene L) : Type 0 where
    pub taken : taken_of new.daemon.desk.handles app ≡ taken_of old.daemon.desk.handles app
    pub empties : empties_of new.daemon.desk.handles app ≡ empties_of old.daemon.desk.handles app
    pub reports : reports_of app new ≡ reports_of app old
    pub calls : HasAllCalls old.daemon → HasAllCalls new.daemon
    pub claims : HasAllClaims old.daemon → HasAllClaims new.daemon

  keeps_same : (app : ℕ) (old new : Scene L) → new.daemon.desk ≡ old.daemon.desk → new.daemon.noted ≡ old.daemon.noted → new.daemon.calls ≡ old.daemon.calls
      → new.daemon.claimed ≡ old.daemon.claimed → Keeps app old new
  keeps_same app old new desk noted calls claimed = record {
    taken = ap (λ (d : DeskState). taken_of d.handles app) desk;
    empties = ap (λ (d : DeskState). empties_of d.handles app) desk;
    reports = ap (λ (d : DeskState). filter (λ (r : Report). r.app == app) d.handles.losses.reported) desk;
    calls = λ all. noted ∙ all ∙ sym calls;
    claims = λ all. claimed ∙ all;
  }

  keeps_desk : (app : ℕ) (old new : Scene L) → SameDesk old.daemon.desk new.daemon.desk → new.daemon.noted ≡ old.daemon.noted → new.daemon.calls ≡ old.daemon.calls
      → new.daemon.claimed ≡ old.daemon.claimed → Keeps app old new
  keeps_desk app old new desk noted calls claimed = record {
    taken = same_taken old.daemon.desk new.daemon.desk desk app;
    empties = ap (λ (f : ℕ → ℕ). f app) (sym (empties_still new.daemon.desk.handles) ∙ ap (λ (d : DeskState). empties_of d.handles) desk ∙ empties_still old.daemon.desk.handles);
    reports = ap (λ (rs : List Report). filter (λ (r : Report). r.app == app) rs) (same_reported old.daemon.desk new.daemon.desk desk);
    calls = λ all. noted ∙ all ∙ sym calls;
    claims = λ all. claimed ∙ all;
  }

  keeps_both : (app : ℕ) (a b c : Scene L) → Keeps app a b → Keeps app b c → Keeps app a c
  keeps_both app a b c one two = record {
    taken = two.taken ∙ one.taken;
    empties = two.empties ∙ one.empties;
    reports = two.reports ∙ one.reports;
    calls = λ all. two.calls (one.calls all);
    claims = λ all. two.claims (one.claims all);
  }

  -- ---- turns

  ended_turn : (app gave : ℕ) (found : Bool) (old between new : Scene L) → (0 + gave ≡ take_limit) ⊎ ((false || found) ≡ true) ⊎ HasAllCalls between.daemon ⊎ HasAllClaims between.daemon
      → empties_of new.daemon.desk.handles app ≡ empties_of old.daemon.desk.handles app + bit found → (HasAllCalls between.daemon → HasAllCalls new.daemon)
      → (HasAllClaims between.daemon → HasAllClaims new.daemon) → (gave ≡ take_limit) ⊎ FoundEmpty app old new ⊎ HasAllCalls new.daemon ⊎ HasAllClaims new.daemon
  ended_turn app gave found old between new (inl is) empties calls claims = inl (omega (arith, is))
  ended_turn app gave true old between new (inr (inl is)) empties calls claims = inr (inl empties)
  ended_turn app gave false old between new (inr (inl is)) empties calls claims = absurd cc
  ended_turn app gave found old between new (inr (inr (inl is))) empties calls claims = inr (inr (inl (calls is)))
  ended_turn app gave found old between new (inr (inr (inr is))) empties calls claims = inr (inr (inr (claims is)))

  -- what the losses leave
  losses_taken : (app : ℕ) (old new : Scene L) → TakesLossesIfMay app old new → (n : ℕ) → taken_of new.daemon.desk.handles n ≡ taken_of old.daemon.desk.handles n
  losses_taken app old new (inl some) n = ap (λ (t : Took). t.taken n) some.2.reports.took
  losses_taken app old new (inr none) n = ap (λ (s : Scene L). taken_of s.daemon.desk.handles n) none.1

  losses_empties : (app : ℕ) (old new : Scene L) → TakesLossesIfMay app old new → empties_of new.daemon.desk.handles ≡ empties_of old.daemon.desk.handles
  losses_empties app old new (inl some) = some.2.empties
  losses_empties app old new (inr none) = ap (λ (s : Scene L). empties_of s.daemon.desk.handles) none.1

  losses_own : (app : ℕ) (old new : Scene L) → TakesLossesIfMay app old new → HasReported app old new ⊎ HasAllCalls new.daemon
  losses_own app old new (inl some) =
      inl (some.1, ap (λ (t : Took). filter (λ (r : Report). r.app == app) t.reported) some.2.reports.took ∙ report_own app some.1 old.daemon.desk.handles.losses.reported)
  losses_own app old new (inr none) = inr (subst (λ (s : Scene L). HasAllCalls s.daemon) (sym none.1) none.0)

  losses_other : (app n : ℕ) (old new : Scene L) → TakesLossesIfMay app old new → (n ≡ app → ⊥) → reports_of n new ≡ reports_of n old
  losses_other app n old new (inl some) apart =
      ap (λ (t : Took). filter (λ (r : Report). r.app == n) t.reported) some.2.reports.took ∙ report_other app n some.1 old.daemon.desk.handles.losses.reported apart
  losses_other app n old new (inr none) apart = ap (reports_of n) none.1

  report_since : (app : ℕ) (old between new : Scene L) → reports_of app between ≡ reports_of app old → HasReported app between new ⊎ HasAllCalls new.daemon → HasReported app old new ⊎ HasAllCalls new.daemon
  report_since app old between new same (inl some) = inl (some.0, some.1 ∙ ap (λ (rs : List Report). rs ++ report app some.0 ∷ []) same)
  report_since app old between new same (inr all) = inr all

  module _ (app : ℕ) (old new : Scene L) (turn : TakesTurn app old new) where
    on : HaveEnded app 0 false old turn.between
    on = have_ended app 0 false turn.calls.0 old turn.between turn.calls.1

    same_reports : (n : ℕ) → reports_of n turn.between ≡ reports_of n old
    same_reports n = ap (λ (t : Took). filter (λ (r : Report). r.app == n) t.reported) on.took

    turn_empties : empties_of new.daemon.desk.handles ≡ empties_now app on.found (empties_of old.daemon.desk.handles)
    turn_empties = losses_empties app turn.between new turn.losses ∙ on.empties

    turn_calls : HasAllCalls turn.between.daemon → HasAllCalls new.daemon
    turn_calls = losses_calls app turn.between new turn.losses

    turn_claims : HasAllClaims turn.between.daemon → HasAllClaims new.daemon
    turn_claims = losses_claims app turn.between new turn.losses

    pub turn_had : HasHadTurn app old new
    turn_had =
        let empties : empties_of new.daemon.desk.handles app ≡ empties_of old.daemon.desk.handles app + bit on.found =
        ap (λ (f : ℕ → ℕ). f app) turn_empties ∙ now_own app on.found (empties_of old.daemon.desk.handles) in record {
          gave = on.items;
          taken = losses_taken app turn.between new turn.losses app ∙ ap (λ (t : Took). t.taken app) on.took ∙ taken_here app on.items (took_by old.daemon.desk.handles);
          few = (let few = on.few (omega arith) in omega (arith, few));
          ended = ended_turn app (length on.items) on.found old turn.between new on.ended empties turn_calls turn_claims;
          once = omega (arith, empties, bit_small on.found);
          losses = report_since app old turn.between new (same_reports app) (losses_own app turn.between new turn.losses);
        }

    -- another application is left as it was
    turn_keeps : (n : ℕ) → (n ≡ app → ⊥) → Keeps n old new
    turn_keeps n apart = record {
      taken = losses_taken app turn.between new turn.losses n ∙ ap (λ (t : Took). t.taken n) on.took ∙ items_other app n on.items (took_by old.daemon.desk.handles) apart;
      empties = ap (λ (f : ℕ → ℕ). f n) turn_empties ∙ now_other app n on.found (empties_of old.daemon.desk.handles) apart;
      reports = losses_other app n turn.between new turn.losses apart ∙ same_reports n;
      calls = λ all. turn_calls (on_calls app 0 false turn.calls.0 old turn.between turn.calls.1 all);
      claims = λ all. turn_claims (on_claims app 0 false turn.calls.0 old turn.between turn.calls.1 all);
    }

  -- ---- a turn with what came before it and after it

  had_before : (app : ℕ) (a b c : Scene L) → Keeps app a b → HasHadTurn app b c → HasHadTurn app a c
  had_before app a b c keeps had = record {
    gave = had.gave;
    taken = had.taken ∙ ap (λ (xs : List RingItem). xs ++ had.gave) keeps.taken;
    few = had.few;
    ended = ends had.ended;
    once = subst (λ (n : ℕ). empties_of c.daemon.desk.handles app ≤ n + 1) keeps.empties had.once;
    losses = report_since app a b c keeps.reports had.losses;
  } where
    ends : (length had.gave ≡ take_limit) ⊎ FoundEmpty app b c ⊎ HasAllCalls c.daemon ⊎ HasAllClaims c.daemon
        → (length had.gave ≡ take_limit) ⊎ FoundEmpty app a c ⊎ HasAllCalls c.daemon ⊎ HasAllClaims c.daemon
    ends (inl all) = inl all
    ends (inr (inl found)) = inr (inl (found ∙ ap (λ (n : ℕ). n + 1) keeps.empties))
    ends (inr (inr rest)) = inr (inr rest)

  had_after : (app : ℕ) (a b c : Scene L) → HasHadTurn app a b → Keeps app b c → HasHadTurn app a c
  had_after app a b c had keeps = record {
    gave = had.gave;
    taken = keeps.taken ∙ had.taken;
    few = had.few;
    ended = ends had.ended;
    once = subst (λ (n : ℕ). n ≤ empties_of a.daemon.desk.handles app + 1) (sym keeps.empties) had.once;
    losses = tells had.losses;
  } where
    ends : (length had.gave ≡ take_limit) ⊎ FoundEmpty app a b ⊎ HasAllCalls b.daemon ⊎ HasAllClaims b.daemon
        → (length had.gave ≡ take_limit) ⊎ FoundEmpty app a c ⊎ HasAllCalls c.daemon ⊎ HasAllClaims c.daemon
    ends (inl all) = inl all
    ends (inr (inl found)) = inr (inl (keeps.empties ∙ found))
    ends (inr (inr (inl calls))) = inr (inr (inl (keeps.calls calls)))
    ends (inr (inr (inr claims))) = inr (inr (inr (keeps.claims claims)))

    tells : HasReported app a b ⊎ HasAllCalls b.daemon → HasReported app a c ⊎ HasAllCalls c.daemon
    tells (inl some) = inl (some.0, keeps.reports ∙ some.1)
    tells (inr all) = inr (keeps.calls all)

  turns_keep : (app first many : ℕ) (old new : Scene L) → app < first → TakesTurns first many old new → Keeps app old new
  turns_keep app first zero old new before same =
      keeps_same app old new (ap (λ (s : Scene L). s.daemon.desk) same) (ap (λ (s : Scene L). s.daemon.noted) same) (ap (λ (s : Scene L). s.daemon.calls) same) (ap (λ (s : Scene L). s.daemon.claimed) same)
  turns_keep app first (suc many) old new before turns =
      keeps_both app old turns.0 new (turn_keeps first old turns.0 turns.1 app (λ same. omega (arith, same, before))) (turns_keep app (first + 1) many turns.0 new (omega (arith, before)) turns.2)

  turns_had : (app first many : ℕ) (old new : Scene L) → first ≤ app → app < first + many → TakesTurns first many old new → HasHadTurn app old new
  turns_had app first zero old new from below same = absurd (omega (arith, from, below))
  turns_had app first (suc many) old new from below turns = elim (eqb_tells app first) [
    | inl same ↦ had_after app old turns.0 new (turn_had app old turns.0 (subst (λ (n : ℕ). TakesTurn n old turns.0) (sym same.1) turns.1))
        (turns_keep app (first + 1) many turns.0 new (omega (arith, same.1)) turns.2)
    | inr apart ↦ had_before app old turns.0 new (turn_keeps first old turns.0 turns.1 app apart.1)
        (turns_had app (first + 1) many turns.0 new (omega (arith, from, apart.1)) (omega (arith, below)) turns.2)
  ]

  -- ---- a round

  accept_keeps : (told : L → LinkTold) (came : Arrival) (net net_now : NetTold L) (old new : Scene L) → AcceptsIfMay told came net net_now old.daemon new.daemon
      → (new.daemon.desk ≡ old.daemon.desk) × (new.daemon.noted ≡ old.daemon.noted) × (new.daemon.calls ≡ old.daemon.calls) × (new.daemon.claimed ≡ old.daemon.claimed)
  accept_keeps told came net net_now old new (inl some) = (let rest = some.2.rest in
      (ap (λ (d : DaemonState L). d.desk) rest, ap (λ (d : DaemonState L). d.noted) rest, ap (λ (d : DaemonState L). d.calls) rest, ap (λ (d : DaemonState L). d.claimed) rest))
  accept_keeps told came net net_now old new (inr none) = (let same = none.2 in
      (ap (λ (d : DaemonState L). d.desk) same, ap (λ (d : DaemonState L). d.noted) same, ap (λ (d : DaemonState L). d.calls) same, ap (λ (d : DaemonState L). d.claimed) same))

  pub round_had : (told : L → LinkTold) (answer : Round) (net net_now : NetTold L) (old new : Scene L) → IsRound told answer net net_now old new
      → (app : ℕ) → app < length old.daemon.desk.apps → HasHadTurn app old new
  round_had told answer net net_now old new round app within =
      let serves = round.serves in
      let served = round.served in
      let accepted = scene serves.accepted old.folder in
      let one = accept_keeps told serves.came net net_now old accepted serves.accepts in
      let hears = serves.hears.1 in
      let pumps = serves.pumps.1 in
      let apps : length serves.heard.daemon.desk.apps ≡ length old.daemon.desk.apps =
      ap (λ xs. length xs) (same_apps serves.accepted.desk serves.heard.daemon.desk hears.desk ∙ ap (λ (d : DeskState). d.apps) one.0) in
      let before = keeps_both app old accepted serves.heard (keeps_same app old accepted one.0 one.1 one.2 one.3)
      (keeps_desk app accepted serves.heard hears.desk (ap (λ (d : DaemonState L). d.noted) hears.rest) (ap (λ (d : DaemonState L). d.calls) hears.rest) (ap (λ (d : DaemonState L). d.claimed) hears.rest)) in
      let sent = keeps_same app serves.taken served (ap (λ (d : DaemonState L). d.desk) pumps.rest) (ap (λ (d : DaemonState L). d.noted) pumps.rest) (ap (λ (d : DaemonState L). d.calls) pumps.rest)
      (ap (λ (d : DaemonState L). d.claimed) pumps.rest) in
      let parted = keeps_same app served new (ap (λ (d : DaemonState L). d.desk) round.parts.rest) (ap (λ (d : DaemonState L). d.noted) round.parts.rest) (ap (λ (d : DaemonState L). d.calls) round.parts.rest)
      (ap (λ (d : DaemonState L). d.claimed) round.parts.rest) in
      had_after app old serves.taken new
      (had_before app old serves.heard serves.taken before (turns_had app 0 (length serves.heard.daemon.desk.apps) serves.heard serves.taken (omega arith) (omega (arith, within, apps)) serves.takes))
      (keeps_both app serves.taken served new sent parted)
