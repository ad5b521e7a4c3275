-- A journal that tells what is taken.
use Rattle.std.proofs.Common.{◌≡◌, ◌≢◌, ◌⊎◌, ℕ, ◌+◌, Bool, cond, true, false, List, [], ◌∷◌, ◌++◌, map, eqb, eq-eqb, ne_eqb, Some, None, inl, inr, refl, sym, ap, ◌∙◌, subst, append-nil, arith}
use Rattle.std.specs.List.{AllByRecursion, cons_option}
use Rattle.std.proofs.lemmas.Bool.Decides.{eqb_tells}
use Rattle.std.proofs.lemmas.List.{map-append}
use Rattle.std.proofs.lemmas.List.Elements.{filter_map-append}
use Rattle.std.proofs.lemmas.List.Sums.{sum_by-append}
use Rattle.dl_bytes.specs.Claim.{Claimed}
use Rattle.dl_bytes.specs.declared.item.Item.{Item}
use Rattle.dl_bytes.specs.declared.moment.Moment.{Moment}
use Rattle.dl_events.specs.declared.event.Event.{Event}
use Rattle.dl_events.specs.declared.event.Event.TheVariants as event
use Rattle.dl_cells.specs.Losses.{report, reported_of}
use Rattle.dl_cells.proofs.LossSums.{reported_else, reported_more}
use Rattle.dl_model.specs.Accounts as accounts
use Rattle.dl_model.specs.Accounts.{TookCall, TookClaim, name_of, order, took_of, takes}
use Rattle.dl_model.specs.Report.{lost_of, reported}
use Rattle.dl_ring.specs.declared.item.RingItem.{RingItem}
use Rattle.dl_ring.specs.declared.item.RingItem.TheVariants.{Log, Register}
use Rattle.dl_account.specs.Known.{told_as}
use Rattle.dl_admission.specs.Telling.{IsTaken, TellOf}
use Rattle.dl_admission.proofs.Told.{calls_tell, losses_tell}
use Rattle.dl_admission.specs.Admission.{AreNoted, call_entry, loss_entries}
use Rattle.dl_taking.specs.Takes.{TellAllTaken, owned, owned_claim}
use Rattle.dl_taking.specs.Took.{Took, with_items, with_losses}

-- events behind others that tell of one application
takes_both : (app : ℕ) (past more : List Event) → takes app (past ++ more) ≡ takes app past ++ takes app more
takes_both app past more = filter_map-append (took_of app) past more

reported_both : (app : ℕ) (past more : List Event) → reported app (past ++ more) ≡ reported app past + reported app more
reported_both app past more = sum_by-append (lost_of app) past more

-- ---- calls and losses

-- a call that was taken, by its name
abbrev call_took : ℕ × ℕ → accounts.Took
call_took name = TookCall name.0 name.1

-- of admissions, what was taken is their calls
calls_taken : (app : ℕ) (events : List Event) → AllByRecursion IsTaken events → takes app events ≡ map call_took (order app events)
calls_taken app [] are = refl
calls_taken app (event.Log other writer call moment ∷ events) are = by (eqb other app) (calls_taken app events are.1) where
  by : (b : Bool) → takes app events ≡ map call_took (order app events)
      → cons_option (cond b (Some (TookCall writer call)) None) (takes app events) ≡ map call_took (cons_option (cond b (Some (writer, call)) None) (order app events))
  by true rest = ap (λ (ts : List accounts.Took). TookCall writer call ∷ ts) rest
  by false rest = rest
calls_taken app (event.Lost other count moment ∷ events) are = calls_taken app events are.1
calls_taken app (event.Close client cause ∷ events) are = calls_taken app events are.1
calls_taken app (event.Claim claim moment ∷ events) are = absurd are.0
calls_taken app (event.User channel msg moment ∷ events) are = absurd are.0
calls_taken app (event.Level slot level ∷ events) are = absurd are.0
calls_taken app (event.Connect client ∷ events) are = absurd are.0
calls_taken app (event.Request client frame answer ∷ events) are = absurd are.0

told_calls : (app : ℕ) (items : List Item) → map (told_as app) (map Log items) ≡ map call_took (map name_of items)
told_calls app [] = refl
told_calls app (item ∷ items) = ap (λ (ts : List accounts.Took). TookCall item.writer item.call ∷ ts) (told_calls app items)

own_app : (app : ℕ) (items : List Item) → AllByRecursion (λ item. item.app ≡ app) (map (owned app) items)
own_app app [] = tt
own_app app (item ∷ items) = (refl, own_app app items)

own_names : (app : ℕ) (items : List Item) → map name_of (map (owned app) items) ≡ map name_of items
own_names app [] = refl
own_names app (item ∷ items) = ap (λ (ns : List (ℕ × ℕ)). name_of item ∷ ns) (own_names app items)

-- ---- what was taken of one ring

-- events that tell just what was taken of an application's ring
pub record TellTaken (app : ℕ) (items : List RingItem) (more : List Event) : Type 0 where
  pub own : takes app more ≡ map (told_as app) items
  pub others : (other : ℕ) → other ≢ app → takes other more ≡ []
  pub losses : (other : ℕ) → reported other more ≡ 0

pub items_told : (app : ℕ) (items : List RingItem) (past more : List Event) (took : Took) → TellTaken app items more → TellAllTaken past took → TellAllTaken (past ++ more) (with_items app items took)
items_told app items past more took tell told = record {
  admitted = λ other. takes_both other past more ∙ by_app other (eqb_tells other app);
  losses = λ other. omega (arith, reported_both other past more, told.losses other, tell.losses other);
} where
  by_app : (other : ℕ) → ((eqb other app ≡ true) × (other ≡ app)) ⊎ ((eqb other app ≡ false) × (other ≢ app))
      → takes other past ++ takes other more ≡ map (told_as other) (cond (eqb other app) (took.taken other ++ items) (took.taken other))
  by_app other (inl same) =
      let its : takes other more ≡ map (told_as other) items = subst (λ (n : ℕ). takes n more ≡ map (told_as n) items) (sym same.1) tell.own in
      ap (λ (ts : List accounts.Took). ts ++ takes other more) (told.admitted other) ∙ ap (λ (ts : List accounts.Took). map (told_as other) (took.taken other) ++ ts) its
      ∙ sym (map-append (told_as other) (took.taken other) items) ∙ ap (λ (b : Bool). map (told_as other) (cond b (took.taken other ++ items) (took.taken other))) (sym same.0)
  by_app other (inr apart) =
      ap (λ (ts : List accounts.Took). ts ++ takes other more) (told.admitted other) ∙ ap (λ (ts : List accounts.Took). map (told_as other) (took.taken other) ++ ts) (tell.others other apart.1)
      ∙ append-nil (map (told_as other) (took.taken other)) ∙ ap (λ (b : Bool). map (told_as other) (cond b (took.taken other ++ items) (took.taken other))) (sym apart.0)

-- the calls of a batch
pub calls_told : (ecu : List ℕ) (moment : Moment) (app : ℕ) (items : List Item) (more : List Event) → AreNoted (map (call_entry ecu moment) (map (owned app) items)) more
    → AllByRecursion IsTaken more × TellTaken app (map Log items) more
calls_told ecu moment app items more noted =
    let tell = calls_tell ecu moment app (map (owned app) items) more (own_app app items) noted in (
      tell.kinds,
      record {
        own = calls_taken app more tell.kinds ∙ ap (map call_took) (tell.admitted ∙ own_names app items) ∙ sym (told_calls app items);
        others = λ other apart. calls_taken other more tell.kinds ∙ ap (map call_took) (tell.no_other_calls other apart);
        losses = λ other. none other (eqb_tells other app) tell;
      },
    ) where
      none : (other : ℕ) → ((eqb other app ≡ true) × (other ≡ app)) ⊎ ((eqb other app ≡ false) × (other ≢ app)) → TellOf app (map name_of (map (owned app) items)) 0 more → reported other more ≡ 0
      none other (inl same) tell = ap (λ (n : ℕ). reported n more) same.1 ∙ tell.losses
      none other (inr apart) tell = tell.no_other_losses other apart.1

-- a claim
pub claim_told : (app : ℕ) (claim : Claimed) (moment : Moment) → TellTaken app (Register claim ∷ []) (event.Claim (owned_claim app claim) moment ∷ [])
claim_told app claim moment = record {
  own = ap (λ (b : Bool). cons_option (cond b (Some (TookClaim (owned_claim app claim))) None) []) (eq-eqb app app refl);
  others = λ other apart. ap (λ (b : Bool). cons_option (cond b (Some (TookClaim (owned_claim app claim))) None) []) (ne_eqb app other (λ same. apart (sym same)));
  losses = λ other. refl;
}

-- a level tells nothing of that
pub level_told : (slot level : ℕ) (past : List Event) (took : Took) → TellAllTaken past took → TellAllTaken (past ++ event.Level slot level ∷ []) took
level_told slot level past took told = record {
  admitted = λ other. takes_both other past (event.Level slot level ∷ []) ∙ append-nil (takes other past) ∙ told.admitted other;
  losses = λ other. let none : reported other (event.Level slot level ∷ []) ≡ 0 = refl in omega (arith, reported_both other past (event.Level slot level ∷ []), none, told.losses other);
}

-- a report of losses
pub losses_told : (ecu : List ℕ) (moment : Moment) (app : ℕ) (apid : List ℕ) (count : ℕ) (more : List Event) → AreNoted (loss_entries ecu moment app apid count) more
    → AllByRecursion IsTaken more × ((past : List Event) (took : Took) → TellAllTaken past took → TellAllTaken (past ++ more) (with_losses app count took))
losses_told ecu moment app apid count more noted =
    let tell = losses_tell ecu moment app apid count more noted in (
      tell.kinds,
      λ past took told. record {
        admitted = λ other.
            takes_both other past more ∙ ap (λ (ts : List accounts.Took). takes other past ++ ts) (calls_taken other more tell.kinds ∙ ap (map call_took) (no_calls other (eqb_tells other app) tell))
            ∙ append-nil (takes other past) ∙ told.admitted other;
        losses = λ other. reported_both other past more ∙ by_app other (eqb_tells other app) tell past took told;
      },
    ) where
      no_calls : (other : ℕ) → ((eqb other app ≡ true) × (other ≡ app)) ⊎ ((eqb other app ≡ false) × (other ≢ app)) → TellOf app [] count more → order other more ≡ []
      no_calls other (inl same) tell = ap (λ (n : ℕ). order n more) same.1 ∙ tell.admitted
      no_calls other (inr apart) tell = tell.no_other_calls other apart.1

      by_app : (other : ℕ) → ((eqb other app ≡ true) × (other ≡ app)) ⊎ ((eqb other app ≡ false) × (other ≢ app)) → TellOf app [] count more → (past : List Event) (took : Took) → TellAllTaken past took
          → reported other past + reported other more ≡ reported_of other (took.reported ++ report app count ∷ [])
      by_app other (inl same) tell past took told =
          let its : reported other more ≡ count = ap (λ (n : ℕ). reported n more) same.1 ∙ tell.losses in
          let more_of : reported_of other (took.reported ++ report app count ∷ []) ≡ reported_of other took.reported + count =
          ap (λ (n : ℕ). reported_of other (took.reported ++ report n count ∷ [])) (sym same.1) ∙ reported_more other count took.reported in
          omega (arith, its, more_of, told.losses other)
      by_app other (inr apart) tell past took told =
          omega (arith, tell.no_other_losses other apart.1, told.losses other, reported_else other app count took.reported (λ (e : app ≡ other). apart.1 (sym e)))
