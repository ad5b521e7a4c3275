-- The lost calls that an accounted journal tells have their records.
use Rattle.std.proofs.Common.{◌≡◌, ℕ, ◌+◌, ◌<◌, ◌≤◌, Bool, true, false, cond, eqb, List, [], ◌∷◌, length, refl, sym, ap, ◌∙◌, arith}
use Rattle.std.specs.Prelude.{not}
use Rattle.std.specs.List.{filter, flat_map, range_with_len, AllByRecursion}
use Rattle.std.proofs.lemmas.List.Filters.{length-filter_both}
use Rattle.std.proofs.lemmas.List.Sums.{sum_by-cons, sum_by-append}
use Rattle.dl_lemmas.proofs.Lists.{all_map}
use Rattle.dl_bytes.specs.Claim.{Claimed}
use Rattle.dl_events.specs.declared.event.Event.{Event}
use Rattle.dl_events.specs.declared.event.Event.TheVariants as event
use Rattle.dl_events.specs.declared.record.Record.{Record}
use Rattle.dl_events.specs.declared.record.Answer.TheVariants as answer
use Rattle.dl_model.specs.Accounts.{with_answer}
use Rattle.dl_model.specs.Report.{is_answer, lost_of, reported}
use Rattle.dl_model.specs.WholeAccounts.{IsAccounted}
use Rattle.dl_model.proofs.Records.{with_answer-append}
use Rattle.dl_laws.proofs.Partition.{sums_add, split}
use Rattle.dl_report.specs.Losses.{told, told_in}

abbrev app_of : Event → ℕ
app_of (event.Lost app count moment) = app
app_of _ = 0

abbrev all_records : List (List Record) → List Record
all_records records = flat_map (λ (rs : List Record). rs) records

own_losses : (app : ℕ) (events : List Event) → told (filter (λ e. eqb (app_of e) app) events) ≡ reported app events
own_losses app [] = refl
own_losses app (e ∷ events) = by_kind e (own_losses app events) where
  more : (e : Event) → reported app (e ∷ events) ≡ lost_of app e + reported app events
  more e = sum_by-cons (lost_of app) e events

  nothing : (e : Event) → told_in e ≡ 0 → lost_of app e ≡ 0 → told (filter (λ x. eqb (app_of x) app) events) ≡ reported app events →
      told (filter (λ x. eqb (app_of x) app) (e ∷ events)) ≡ reported app (e ∷ events)
  nothing e none here later = by_test (eqb (app_of e) app) where
    by_test : (b : Bool) → told (cond b (e ∷ filter (λ x. eqb (app_of x) app) events) (filter (λ x. eqb (app_of x) app) events)) ≡ reported app (e ∷ events)
    by_test true = omega (arith, sum_by-cons told_in e (filter (λ x. eqb (app_of x) app) events), none, here, later, more e)
    by_test false = omega (arith, here, later, more e)

  by_kind : (e : Event) → told (filter (λ x. eqb (app_of x) app) events) ≡ reported app events → told (filter (λ x. eqb (app_of x) app) (e ∷ events)) ≡ reported app (e ∷ events)
  by_kind (event.Lost other count moment) later = by_test (eqb other app) refl where
    by_test : (b : Bool) → eqb other app ≡ b → told (cond b (event.Lost other count moment ∷ filter (λ x. eqb (app_of x) app) events) (filter (λ x. eqb (app_of x) app) events)) ≡ reported app (event.Lost other count moment ∷ events)
    by_test true is =
        omega (arith, sum_by-cons told_in (event.Lost other count moment) (filter (λ x. eqb (app_of x) app) events), later, more (event.Lost other count moment), ap (λ (b : Bool). cond b count 0) is)
    by_test false is = omega (arith, later, more (event.Lost other count moment), ap (λ (b : Bool). cond b count 0) is)
  by_kind (event.Connect client) later = nothing (event.Connect client) refl refl later
  by_kind (event.Close client why) later = nothing (event.Close client why) refl refl later
  by_kind (event.Request client frame done) later = nothing (event.Request client frame done) refl refl later
  by_kind (event.Claim claim moment) later = nothing (event.Claim claim moment) refl refl later
  by_kind (event.Level slot level) later = nothing (event.Level slot level) refl refl later
  by_kind (event.Log other writer call moment) later = nothing (event.Log other writer call moment) refl refl later
  by_kind (event.User channel msg moment) later = nothing (event.User channel msg moment) refl refl later

-- every number of a list is below some number
below : {X : Type 0} (number : X → ℕ) (xs : List X) → (n : ℕ) × AllByRecursion (λ x. (0 ≤ number x) × (number x < 0 + n)) xs
below number [] = (0, tt)
below {X = X} number (x ∷ xs) =
    let later = below number xs in
    (number x + 1 + later.0, ((omega arith, omega arith), all_map (λ y. (0 ≤ number y) × (number y < 0 + later.0)) (λ y. (0 ≤ number y) × (number y < 0 + (number x + 1 + later.0))) (λ y is. (is.0, omega (arith, is.1))) xs later.1))

few_lost : (records : List Record) → length (with_answer answer.Lost records) ≤ length records
few_lost records = omega (arith, length-filter_both (λ (r : Record). is_answer answer.Lost r.answer) (λ (r : Record). not (is_answer answer.Lost r.answer)) (λ r. refl) records)

pub told_have_records : (first : ℕ) (events : List Event) (pending refusals : ℕ → ℕ) (pushed : List (List Claimed)) (records : List (List Record)) → IsAccounted first events pending refusals pushed records → told events ≤ length (all_records records)
told_have_records first events pending refusals pushed records are =
    let all = all_records records in
    let of_events = below app_of events in
    let of_records = below (λ (r : Record). r.item.app) all in
    let n = of_events.0 + of_records.0 in
    let apps = range_with_len 0 n in
    let events_within = all_map (λ e. (0 ≤ app_of e) × (app_of e < 0 + of_events.0)) (λ e. (0 ≤ app_of e) × (app_of e < 0 + n)) (λ e is. (is.0, omega (arith, is.1))) events of_events.1 in
    let records_within = all_map (λ (r : Record). (0 ≤ r.item.app) × (r.item.app < 0 + of_records.0)) (λ (r : Record). (0 ≤ r.item.app) × (r.item.app < 0 + n)) (λ r is. (is.0, omega (arith, is.1))) all of_records.1 in
    let of_journal = split app_of told refl (sum_by-append told_in) n 0 events events_within in
    let lost = split (λ (r : Record). r.item.app) (λ rs. length (with_answer answer.Lost rs)) refl with_answer-append n 0 all records_within in
    let parts = sums_add (λ app. length (with_answer answer.Lost (filter (λ (r : Record). eqb r.item.app app) all))) (λ app. told (filter (λ e. eqb (app_of e) app) events)) pending
    (λ app. sym (ap (λ (k : ℕ). k + pending app) (own_losses app events) ∙ are.told app)) apps in
    omega (arith, of_journal, lost, parts, few_lost all)
