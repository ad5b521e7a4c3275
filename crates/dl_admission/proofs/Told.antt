-- What the events of an admission tell.
use Rattle.std.proofs.Common.{◌≡◌, ◌≢◌, ◌⊎◌, ◌+◌, ℕ, Bool, true, false, cond, List, [], ◌∷◌, ◌++◌, map, refl, sym, ap, subst, ◌∙◌, eqb, inl, inr, arith}
use Rattle.std.specs.List.{filter_map, AllByRecursion}
use Rattle.std.proofs.lemmas.Bool.Decides.{eqb_tells, nat_tests}
use Rattle.std.proofs.lemmas.List.Elements.{filter_map-append}
use Rattle.std.proofs.lemmas.List.Sums.{sum_by-cons}
use Rattle.dl_bytes.specs.declared.item.Item.{Item}
use Rattle.dl_bytes.specs.declared.moment.Moment.{Moment}
use Rattle.dl_bytes.specs.declared.user.UserMsg.{UserMsg}
use Rattle.dl_events.specs.declared.event.Event.{Event}
use Rattle.dl_events.specs.declared.event.Event.TheVariants as event
use Rattle.dl_model.specs.Backlog.{size_of}
use Rattle.dl_model.specs.Accounts.{logged_of, name_of, order}
use Rattle.dl_model.specs.Report.{lost_of, reported}
use Rattle.dl_core.specs.Admission.{log_event, lost_frames}
use Rattle.dl_admission.specs.Admission.{AreNoted, Entry, call_entry, loss_entries, message_entry}
use Rattle.dl_admission.specs.Slow.{Slow, slow_close}
use Rattle.dl_admission.specs.Telling.{IsTaken, TellOf}
use Rattle.dl_lemmas.proofs.Lists.{all_both}

-- the events of entries
abbrev pub events_of : List Entry → List Event
events_of es = map (λ (e : Entry). e.event) es

-- ---- Closes tell nothing of calls and losses

order_behind : (app need : ℕ) (slows : List Slow) (events : List Event) → order app (map (slow_close need) slows ++ events) ≡ order app events
order_behind app need [] events = refl
order_behind app need (slow ∷ slows) events = order_behind app need slows events

order_one : (app : ℕ) (e : Event) (xs ys : List Event) → order app xs ≡ order app ys → order app (e ∷ xs) ≡ order app (e ∷ ys)
order_one app e xs ys same = filter_map-append (logged_of app) (e ∷ []) xs ∙ ap (λ (ns : List (ℕ × ℕ)). filter_map (logged_of app) (e ∷ []) ++ ns) same ∙ sym (filter_map-append (logged_of app) (e ∷ []) ys)

order_noted : (app : ℕ) (es : List Entry) (noted : List Event) → AreNoted es noted → order app noted ≡ order app (events_of es)
order_noted app [] noted is = ap (order app) is
order_noted app (e ∷ es) noted is =
    ap (order app) is.2 ∙ order_behind app e.need is.0 (e.event ∷ is.1) ∙ order_one app e.event is.1 (events_of es) (order_noted app es is.1 is.5)

reported_behind : (app need : ℕ) (slows : List Slow) (events : List Event) → reported app (map (slow_close need) slows ++ events) ≡ reported app events
reported_behind app need [] events = refl
reported_behind app need (slow ∷ slows) events =
    let none : lost_of app (slow_close need slow) ≡ 0 = refl in
    omega (arith, none, sum_by-cons (lost_of app) (slow_close need slow) (map (slow_close need) slows ++ events), reported_behind app need slows events)

reported_noted : (app : ℕ) (es : List Entry) (noted : List Event) → AreNoted es noted → reported app noted ≡ reported app (events_of es)
reported_noted app [] noted is = ap (reported app) is
reported_noted app (e ∷ es) noted is =
    ap (reported app) is.2 ∙ reported_behind app e.need is.0 (e.event ∷ is.1)
    ∙ sum_by-cons (lost_of app) e.event is.1 ∙ ap (λ (n : ℕ). lost_of app e.event + n) (reported_noted app es is.1 is.5) ∙ sym (sum_by-cons (lost_of app) e.event (events_of es))

-- ---- what holds of the Closes and of the events of entries holds of all that is noted

module _ (P : Event → Type 0) (closes : (need : ℕ) (slow : Slow) → P (slow_close need slow)) where
  all_closes : (need : ℕ) (slows : List Slow) → AllByRecursion P (map (slow_close need) slows)
  all_closes need [] = tt
  all_closes need (slow ∷ slows) = (closes need slow, all_closes need slows)

  pub all_noted : (es : List Entry) (noted : List Event) → AllByRecursion P (events_of es) → AreNoted es noted → AllByRecursion P noted
  all_noted [] noted all is = subst (AllByRecursion P) (sym is) tt
  all_noted (e ∷ es) noted all is =
      subst (AllByRecursion P) (sym is.2)
      (all_both P (map (slow_close e.need) is.0) (e.event ∷ is.1) (all_closes e.need is.0) (all.0, all_noted es is.1 all.1 is.5))

kinds_noted : (es : List Entry) (noted : List Event) → AllByRecursion IsTaken (events_of es) → AreNoted es noted → AllByRecursion IsTaken noted
kinds_noted es noted kinds is = all_noted IsTaken (λ need slow. tt) es noted kinds is

-- ---- log calls

same_app : (app : ℕ) → eqb app app ≡ true
same_app app = grind (arith, nat_tests)

other_app : (app other : ℕ) → other ≢ app → eqb app other ≡ false
other_app app other apart = elim (eqb_tells app other) [
  | inl same ↦ absurd (apart (sym same.1))
  | inr not ↦ not.0
]

calls_of : (ecu : List ℕ) (moment : Moment) (app : ℕ) (items : List Item) → AllByRecursion (λ item. item.app ≡ app) items → order app (events_of (map (call_entry ecu moment) items)) ≡ map name_of items
calls_of ecu moment app [] own = refl
calls_of ecu moment app (item ∷ items) own =
    let its : eqb item.app app ≡ true = ap (λ (n : ℕ). eqb n app) own.0 ∙ same_app app in
    rw its (ap (λ (ns : List (ℕ × ℕ)). name_of item ∷ ns) (calls_of ecu moment app items own.1))

no_calls_of : (ecu : List ℕ) (moment : Moment) (app other : ℕ) (items : List Item) → other ≢ app → AllByRecursion (λ item. item.app ≡ app) items
    → order other (events_of (map (call_entry ecu moment) items)) ≡ []
no_calls_of ecu moment app other [] apart own = refl
no_calls_of ecu moment app other (item ∷ items) apart own =
    let its : eqb item.app other ≡ false = ap (λ (n : ℕ). eqb n other) own.0 ∙ other_app app other apart in
    rw its (no_calls_of ecu moment app other items apart own.1)

no_losses_in : (ecu : List ℕ) (moment : Moment) (app : ℕ) (items : List Item) → reported app (events_of (map (call_entry ecu moment) items)) ≡ 0
no_losses_in ecu moment app [] = refl
no_losses_in ecu moment app (item ∷ items) =
    let none : lost_of app (log_event moment item) ≡ 0 = refl in
    omega (arith, none, sum_by-cons (lost_of app) (log_event moment item) (events_of (map (call_entry ecu moment) items)), no_losses_in ecu moment app items)

calls_taken : (ecu : List ℕ) (moment : Moment) (items : List Item) → AllByRecursion IsTaken (events_of (map (call_entry ecu moment) items))
calls_taken ecu moment [] = tt
calls_taken ecu moment (item ∷ items) = (tt, calls_taken ecu moment items)

pub calls_tell : (ecu : List ℕ) (moment : Moment) (app : ℕ) (items : List Item) (noted : List Event) → AllByRecursion (λ item. item.app ≡ app) items
    → AreNoted (map (call_entry ecu moment) items) noted → TellOf app (map name_of items) 0 noted
calls_tell ecu moment app items noted own is = record {
  admitted = order_noted app (map (call_entry ecu moment) items) noted is ∙ calls_of ecu moment app items own;
  losses = reported_noted app (map (call_entry ecu moment) items) noted is ∙ no_losses_in ecu moment app items;
  no_other_calls = λ other apart. order_noted other (map (call_entry ecu moment) items) noted is ∙ no_calls_of ecu moment app other items apart own;
  no_other_losses = λ other apart. reported_noted other (map (call_entry ecu moment) items) noted is ∙ no_losses_in ecu moment other items;
  kinds = kinds_noted (map (call_entry ecu moment) items) noted (calls_taken ecu moment items) is;
}

-- ---- lost calls

loss_is : (app count : ℕ) (moment : Moment) → reported app (event.Lost app count moment ∷ []) ≡ count
loss_is app count moment =
    let its : lost_of app (event.Lost app count moment) ≡ count = ap (λ (b : Bool). cond b count 0) (same_app app) in
    omega (arith, its, sum_by-cons (lost_of app) (event.Lost app count moment) [])

no_loss_is : (app other count : ℕ) (moment : Moment) → other ≢ app → reported other (event.Lost app count moment ∷ []) ≡ 0
no_loss_is app other count moment apart =
    let none : lost_of other (event.Lost app count moment) ≡ 0 = ap (λ (b : Bool). cond b count 0) (other_app app other apart) in
    omega (arith, none, sum_by-cons (lost_of other) (event.Lost app count moment) [])

pub losses_tell : (ecu : List ℕ) (moment : Moment) (app : ℕ) (apid : List ℕ) (count : ℕ) (noted : List Event) → AreNoted (loss_entries ecu moment app apid count) noted → TellOf app [] count noted
losses_tell ecu moment app apid count noted is = by (eqb_tells count 0) is where
  entry : Entry
  entry = record { event = event.Lost app count moment; need = size_of (lost_frames ecu apid count) }

  by : ((eqb count 0 ≡ true) × (count ≡ 0)) ⊎ ((eqb count 0 ≡ false) × (count ≢ 0)) → AreNoted (cond (eqb count 0) [] (entry ∷ [])) noted → TellOf app [] count noted
  by (inl none) is =
      let nothing : noted ≡ [] = subst (λ (b : Bool). AreNoted (cond b [] (entry ∷ [])) noted) none.0 is in
      record {
        admitted = ap (order app) nothing;
        losses = ap (reported app) nothing ∙ sym none.1;
        no_other_calls = λ other apart. ap (order other) nothing;
        no_other_losses = λ other apart. ap (reported other) nothing;
        kinds = subst (AllByRecursion IsTaken) (sym nothing) tt;
      }
  by (inr some) is =
      let one : AreNoted (entry ∷ []) noted = subst (λ (b : Bool). AreNoted (cond b [] (entry ∷ [])) noted) some.0 is in
      record {
        admitted = order_noted app (entry ∷ []) noted one;
        losses = reported_noted app (entry ∷ []) noted one ∙ loss_is app count moment;
        no_other_calls = λ other apart. order_noted other (entry ∷ []) noted one;
        no_other_losses = λ other apart. reported_noted other (entry ∷ []) noted one ∙ no_loss_is app other count moment apart;
        kinds = kinds_noted (entry ∷ []) noted (tt, tt) one;
      }

-- ---- user messages

module _ (ecu : List ℕ) (moment : Moment) (channel : ℕ) where
  no_calls_told : (msgs : List UserMsg) (app : ℕ) → order app (events_of (map (message_entry ecu moment channel) msgs)) ≡ []
  no_calls_told [] app = refl
  no_calls_told (msg ∷ msgs) app = no_calls_told msgs app

  no_losses_told : (msgs : List UserMsg) (app : ℕ) → reported app (events_of (map (message_entry ecu moment channel) msgs)) ≡ 0
  no_losses_told [] app = refl
  no_losses_told (msg ∷ msgs) app =
      let none : lost_of app (event.User channel msg moment) ≡ 0 = refl in
      omega (arith, none, sum_by-cons (lost_of app) (event.User channel msg moment) (events_of (map (message_entry ecu moment channel) msgs)), no_losses_told msgs app)

  pub messages_tell : (msgs : List UserMsg) (noted : List Event) (app : ℕ) → AreNoted (map (message_entry ecu moment channel) msgs) noted
      → (order app noted ≡ []) × (reported app noted ≡ 0)
  messages_tell msgs noted app is = (
    order_noted app (map (message_entry ecu moment channel) msgs) noted is ∙ no_calls_told msgs app,
    reported_noted app (map (message_entry ecu moment channel) msgs) noted is ∙ no_losses_told msgs app,
  )

  -- what holds of each message's event, and of each Close of a slow client, holds of all that is noted
  pub all_of_messages : (P : Event → Type 0) (msgs : List UserMsg) (noted : List Event) → ((need : ℕ) (slow : Slow) → P (slow_close need slow))
      → ((msg : UserMsg) → P (event.User channel msg moment)) → AreNoted (map (message_entry ecu moment channel) msgs) noted → AllByRecursion P noted
  all_of_messages P msgs noted closes user is = all_noted P closes (map (message_entry ecu moment channel) msgs) noted (each msgs) is where
    each : (msgs : List UserMsg) → AllByRecursion P (events_of (map (message_entry ecu moment channel) msgs))
    each [] = tt
    each (msg ∷ msgs) = (user msg, each msgs)
