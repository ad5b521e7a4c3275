-- In an account every call is filtered, admitted or lost, and every lost one is told or pending.
use Rattle.std.proofs.Common.{◌≡◌, ℕ, zero, suc, ◌+◌, ◌-◌, ◌<◌, ◌≤◌, Bool, true, false, cond, eqb, List, [], ◌∷◌, ◌++◌, length, Option, Some, None, refl, sym, ap, subst, ◌∙◌, length-append, arith, inl, inr}
use Rattle.std.specs.Prelude.{map, count_by, slice_get, unwrap_or, ◌⊎◌}
use Rattle.std.specs.List.{filter, cons_option, flat_map, range_with_len, AllByRecursion}
use Rattle.std.proofs.lemmas.Bool.{eq-eqb, ne_eqb, cases_eq, cases_lt}
use Rattle.std.proofs.lemmas.List.{length-map}
use Rattle.std.proofs.lemmas.List.Elements.{filter-append}
use Rattle.std.proofs.lemmas.List.Sums.{sum_by-cons}
use Rattle.std.proofs.lemmas.Option.{slice_get_past}
use Rattle.dl_lemmas.proofs.Lists.{empty_of}
use Rattle.dl_bytes.specs.Claim.{Claimed}
use Rattle.dl_events.specs.declared.event.Event.{Event}
use Rattle.dl_events.specs.declared.event.Event.TheVariants as event
use Rattle.dl_events.specs.declared.record.Record.{Record}
use Rattle.dl_events.specs.declared.record.Answer.{Answer}
use Rattle.dl_events.specs.declared.record.Answer.TheVariants as answer
use Rattle.dl_script_model.specs.Marks.{is_log_of, is_taken_of}
use Rattle.dl_model.specs.Report.{is_answer, records_of_app, answered, reported}
use Rattle.dl_model.specs.Accounts.{order, of_writer, with_answer, claims}
use Rattle.dl_model.specs.WholeAccounts.{records_by, claims_by, IsOwned, IsAccounted}
use Rattle.dl_runs.proofs.AccountRuns.{nr, in_app, all_in, none_in}
use Rattle.dl_laws.proofs.Partition.{sums, sums_same, split, all_owners}

-- ---- each record has one answer

pub three_answers : (rs : List Record) → answered answer.Queued rs + answered answer.Filtered rs + answered answer.Lost rs ≡ length rs
three_answers [] = refl
three_answers (r ∷ rs) = by_answer r.answer (three_answers rs) where
  by_answer : (a : Answer) → answered answer.Queued rs + answered answer.Filtered rs + answered answer.Lost rs ≡ length rs →
      length (cond (is_answer answer.Queued a) (r ∷ with_answer answer.Queued rs) (with_answer answer.Queued rs)) + length (cond (is_answer answer.Filtered a) (r ∷ with_answer answer.Filtered rs) (with_answer answer.Filtered rs))
      + length (cond (is_answer answer.Lost a) (r ∷ with_answer answer.Lost rs) (with_answer answer.Lost rs)) ≡ length (r ∷ rs)
  by_answer answer.Filtered is = omega (arith, is)
  by_answer answer.Queued is = omega (arith, is)
  by_answer answer.Lost is = omega (arith, is)

-- ---- Log events by their writers

pub logs_are : (app : ℕ) (events : List Event) → count_by (is_log_of app) events ≡ length (order app events)
logs_are app [] = refl
logs_are app (event.Log other writer call moment ∷ events) =
    sum_by-cons (λ (e : Event). cond (is_log_of app e) 1 0) (event.Log other writer call moment) events ∙ by_test (eqb other app) (logs_are app events) where
      by_test : (b : Bool) → count_by (is_log_of app) events ≡ length (order app events) →
          cond b 1 0 + count_by (is_log_of app) events ≡ length (cons_option (cond b (Some (writer, call)) None) (order app events))
      by_test true is = omega (arith, is)
      by_test false is = omega (arith, is)
logs_are app (e ∷ events) = sum_by-cons (λ (x : Event). cond (is_log_of app x) 1 0) e events ∙ omega (arith, logs_are app events)

-- what is taken of an application is a call or a claim
pub takes_are : (app : ℕ) (events : List Event) → count_by (is_taken_of app) events ≡ count_by (is_log_of app) events + length (claims app events)
takes_are app [] = refl
takes_are app (event.Log other writer call moment ∷ events) =
    let one = sum_by-cons (λ (e : Event). cond (is_taken_of app e) 1 0) (event.Log other writer call moment) events in
    let logged = sum_by-cons (λ (e : Event). cond (is_log_of app e) 1 0) (event.Log other writer call moment) events in
    omega (arith, one, logged, takes_are app events)
takes_are app (event.Claim claim moment ∷ events) =
    sum_by-cons (λ (e : Event). cond (is_taken_of app e) 1 0) (event.Claim claim moment) events ∙ by_test (eqb claim.app app) (takes_are app events)
    ∙ ap (λ (n : ℕ). n + length (claims app (event.Claim claim moment ∷ events))) (sym (sum_by-cons (λ (e : Event). cond (is_log_of app e) 1 0) (event.Claim claim moment) events)) where
      by_test : (b : Bool) → count_by (is_taken_of app) events ≡ count_by (is_log_of app) events + length (claims app events) →
          cond b 1 0 + count_by (is_taken_of app) events ≡ (0 + count_by (is_log_of app) events) + length (cons_option (cond b (Some claim) None) (claims app events))
      by_test true is = omega (arith, is)
      by_test false is = omega (arith, is)
takes_are app (e ∷ events) =
    let one = sum_by-cons (λ (x : Event). cond (is_taken_of app x) 1 0) e events in
    let logged = sum_by-cons (λ (x : Event). cond (is_log_of app x) 1 0) e events in
    omega (arith, one, logged, takes_are app events)

-- how many queued calls of an application these records have
abbrev queued_in : ℕ → List Record → ℕ
queued_in app rs = answered answer.Queued (in_app app rs)

queued_adds : (app : ℕ) (xs ys : List Record) → queued_in app (xs ++ ys) ≡ queued_in app xs + queued_in app ys
queued_adds app xs ys =
    ap (λ (rs : List Record). answered answer.Queued rs) (filter-append (λ (r : Record). eqb r.item.app app) xs ys)
    ∙ ap length (filter-append (λ (r : Record). is_answer answer.Queued r.answer) (in_app app xs) (in_app app ys))
    ∙ length-append (with_answer answer.Queued (in_app app xs)) (with_answer answer.Queued (in_app app ys))

-- a writer's Log events of an application are its queued records of it
of_one : (first : ℕ) (events : List Event) (writer refusals : ℕ) (pushed : List Claimed) (rs : List Record) → IsOwned first events writer refusals pushed rs → (app : ℕ) → length (filter (of_writer writer) (order app events)) ≡ queued_in app rs
of_one first events writer refusals pushed rs owned app = elim (cases_eq owned.app app) [
  | inl same ↦
      let here : filter (of_writer writer) (order app events) ≡ map nr (with_answer answer.Queued rs) = subst (λ (a : ℕ). filter (of_writer writer) (order a events) ≡ map nr (with_answer answer.Queued rs)) same owned.account.in_order in
      ap length here ∙ length-map (with_answer answer.Queued rs) nr ∙ ap (λ (x : List Record). answered answer.Queued x) (sym (all_in owned.app app rs owned.belongs.own same))
  | inr apart ↦
      ap length (owned.belongs.alone app (λ same. apart (sym same))) ∙ ap (λ (x : List Record). answered answer.Queued x) (sym (none_in owned.app app rs owned.belongs.own apart))
]

-- ---- the records of all writers

abbrev nth : ℕ → List (List Record) → List Record
nth i rss = unwrap_or (slice_get rss i) []

sums_from : (f g : ℕ → ℕ) (n a : ℕ) → ((w : ℕ) → a ≤ w → f w ≡ g w) → sums f (range_with_len a n) ≡ sums g (range_with_len a n)
unfolding sums
sums_from f g zero a same = refl
sums_from f g (suc n) a same = omega (arith, same a (omega arith), sums_from f g n (a + 1) (λ w le. same w (omega arith)))

by_place : (app : ℕ) (rss : List (List Record)) (a : ℕ) → queued_in app (flat_map (λ (rs : List Record). rs) rss) ≡ sums (λ w. queued_in app (nth (w - a) rss)) (range_with_len a (length rss))
unfolding sums
by_place app [] a = refl
by_place app (rs ∷ rss) a =
    let size : length (rs ∷ rss) ≡ suc (length rss) = omega arith in
    let zero_here : a - a ≡ 0 = omega arith in
    let here : queued_in app (nth (a - a) (rs ∷ rss)) ≡ queued_in app rs = ap (λ (i : ℕ). queued_in app (nth i (rs ∷ rss))) zero_here in
    let later = sums_from (λ w. queued_in app (nth (w - a) (rs ∷ rss))) (λ w. queued_in app (nth (w - (a + 1)) rss)) (length rss) (a + 1)
    (λ w le. let next : w - a ≡ suc (w - (a + 1)) = omega (arith, le) in ap (λ (i : ℕ). queued_in app (nth i (rs ∷ rss))) next) in
    let all : sums (λ w. queued_in app (nth (w - a) (rs ∷ rss))) (range_with_len a (length (rs ∷ rss)))
    ≡ queued_in app (nth (a - a) (rs ∷ rss)) + sums (λ w. queued_in app (nth (w - a) (rs ∷ rss))) (range_with_len (a + 1) (length rss)) =
    ap (λ (n : ℕ). sums (λ w. queued_in app (nth (w - a) (rs ∷ rss))) (range_with_len a n)) size in
    omega (arith, queued_adds app rs (flat_map (λ (x : List Record). x) rss), by_place app rss (a + 1), here, later, all)

by_writers : (app : ℕ) (records : List (List Record)) → answered answer.Queued (records_of_app app records) ≡ sums (λ w. queued_in app (records_by w records)) (range_with_len 1 (length records))
by_writers app records =
    by_place app records 1
    ∙ sums_from (λ w. queued_in app (nth (w - 1) records)) (λ w. queued_in app (records_by w records)) (length records) 1
    (λ w le. ap (λ (b : Bool). queued_in app (cond b [] (nth (w - 1) records))) (sym (ne_eqb w 0 (λ same. omega (arith, same, le)))))

-- a number that no writer has has no records
no_writer : (records : List (List Record)) (writer : ℕ) → ((1 ≤ writer) × (writer < 1 + length records)) ⊎ (records_by writer records ≡ [])
no_writer records writer = elim (cases_eq writer 0) [
  | inl same ↦ inr (ap (λ (b : Bool). cond b [] (nth (writer - 1) records)) (eq-eqb writer 0 same))
  | inr apart ↦ elim (cases_lt writer (1 + length records)) [
    | inl lt ↦ inl (omega (arith, apart), lt)
    | inr le ↦ inr (ap (λ (b : Bool). cond b [] (nth (writer - 1) records)) (ne_eqb writer 0 apart) ∙ ap (λ (o : Option (List Record)). unwrap_or o []) (slice_get_past records (writer - 1) (omega (arith, le))))
  ]
]

all_so : {A : Type 0} (P : Type 0) → P → (xs : List A) → AllByRecursion (λ (x : A). P) xs
all_so P p [] = tt
all_so P p (x ∷ xs) = (p, all_so P p xs)

module _ (first : ℕ) (events : List Event) (pending refusals : ℕ → ℕ) (pushed : List (List Claimed)) (records : List (List Record)) (accounted : IsAccounted first events pending refusals pushed records) where
  one_writer : (app writer : ℕ) → length (filter (of_writer writer) (order app events)) ≡ queued_in app (records_by writer records)
  one_writer app writer = of_one first events writer (refusals writer) (claims_by writer pushed) (records_by writer records) (accounted.writers writer) app

  in_range : (app writer : ℕ) → AllByRecursion (λ (x : ℕ × ℕ). (1 ≤ writer) × (writer < 1 + length records)) (filter (of_writer writer) (order app events))
  in_range app writer = elim (no_writer records writer) [
    | inl there ↦ all_so ((1 ≤ writer) × (writer < 1 + length records)) there (filter (of_writer writer) (order app events))
    | inr none ↦
        let empty : filter (of_writer writer) (order app events) ≡ [] = empty_of (filter (of_writer writer) (order app events)) (one_writer app writer ∙ ap (queued_in app) none) in
        subst (AllByRecursion (λ (x : ℕ × ℕ). (1 ≤ writer) × (writer < 1 + length records))) (sym empty) tt
  ]

  pub admitted_are_queued : (app : ℕ) → count_by (is_log_of app) events ≡ answered answer.Queued (records_of_app app records)
  admitted_are_queued app =
      let number = λ (x : ℕ × ℕ). x.0 in
      let parts = split number length refl (λ xs ys. length-append xs ys) (length records) 1 (order app events)
      (all_owners number (λ (w : ℕ) (x : ℕ × ℕ). (1 ≤ w) × (w < 1 + length records)) (order app events) (in_range app)) in
      logs_are app events ∙ sym parts
      ∙ sums_same (λ w. length (filter (λ (x : ℕ × ℕ). eqb x.0 w) (order app events))) (λ w. queued_in app (records_by w records)) (one_writer app) (range_with_len 1 (length records))
      ∙ sym (by_writers app records)

  pub all_calls : (app : ℕ) → length (records_of_app app records) ≡ count_by (is_log_of app) events + answered answer.Filtered (records_of_app app records) + (reported app events + pending app)
  all_calls app = omega (arith, three_answers (records_of_app app records), admitted_are_queued app, accounted.told app)
