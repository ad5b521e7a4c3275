-- What is admitted was logged: a Log event is a queued call of its writer.
use Rattle.std.proofs.Common.{◌≡◌, ℕ, zero, suc, ◌+◌, Bool, true, false, cond, eqb, List, [], ◌∷◌, ◌++◌, length, map, drop, get_or, Some, None, refl, sym, ap, subst, ◌∙◌, length-append, arith, inl, inr}
use Rattle.std.specs.List.{cons_option, filter, find, range_with_len, AllByRecursion}
use Rattle.std.proofs.lemmas.Bool.{cases_eq, eq-eqb, ne_eqb}
use Rattle.std.proofs.lemmas.List.Elements.{filter-append, filter_map-append}
use Rattle.dl_bytes.specs.Claim.{Claimed}
use Rattle.dl_bytes.specs.declared.moment.Moment.{Moment}
use Rattle.dl_events.specs.declared.event.Event.{Event}
use Rattle.dl_events.specs.declared.event.Event.TheVariants.{Log}
use Rattle.dl_events.specs.declared.record.Answer.{Answer}
use Rattle.dl_events.specs.declared.record.Answer.TheVariants as answer
use Rattle.dl_events.specs.declared.record.Record.{Record}
use Rattle.dl_model.specs.Accounts.{logged_of, of_writer, order, with_answer}
use Rattle.dl_model.specs.Report.{is_answer}
use Rattle.dl_model.specs.WholeAccounts.{IsAccounted, IsOwned, records_by, claims_by}
use Rattle.dl_laws.specs.LoggedCalls.{WasLogged}
use Rattle.dl_runs.proofs.AccountRuns.{nr}

-- ---- an entry of a list that was made of another one

record IsAmong {A : Type 0} (xs : List A) (x : A) : Type 0 where
  before : List A
  after : List A
  place : xs ≡ before ++ x ∷ after

-- what was kept is there, and passed
of_filter : {A : Type 0} (p : A → Bool) (xs before after : List A) (x : A) → filter p xs ≡ before ++ x ∷ after → IsAmong xs x × (p x ≡ true)
of_filter p [] [] after x e = absurd cc
of_filter p [] (b ∷ before) after x e = absurd cc
of_filter {A = A} p (y ∷ xs) before after x e = by_test (p y) refl before e (λ front is. of_filter p xs front after x is) where
  later : IsAmong xs x × (p x ≡ true) → IsAmong (y ∷ xs) x × (p x ≡ true)
  later there = (record { before = y ∷ there.0.before; after = there.0.after; place = ap (λ (l : List A). y ∷ l) there.0.place }, there.1)

  by_test : (b : Bool) → p y ≡ b → (before : List A) → cond b (y ∷ filter p xs) (filter p xs) ≡ before ++ x ∷ after → ((front : List A) → filter p xs ≡ front ++ x ∷ after → IsAmong xs x × (p x ≡ true)) → IsAmong (y ∷ xs) x × (p x ≡ true)
  by_test true passes [] is more =
      let same : y ≡ x = cc in
      subst (λ z. IsAmong (y ∷ xs) z × (p z ≡ true)) same (record { before = []; after = xs; place = refl }, passes)
  by_test true passes (b ∷ front) is more = later (more front (ap (drop 1) is))
  by_test false fails front is more = later (more front is)

-- what was made is there
record IsMadeOf {A B : Type 0} (f : A → B) (xs : List A) (y : B) : Type 0 where
  from : A
  there : IsAmong xs from
  is : f from ≡ y

of_map : {A B : Type 0} (f : A → B) (xs : List A) (before after : List B) (y : B) → map f xs ≡ before ++ y ∷ after → IsMadeOf f xs y
of_map f [] [] after y e = absurd cc
of_map f [] (b ∷ before) after y e = absurd cc
of_map f (x ∷ xs) [] after y e =
    let same : f x ≡ y = cc in
    record { from = x; there = record { before = []; after = xs; place = refl }; is = same }
of_map {A = A} f (x ∷ xs) (b ∷ before) after y e =
    let later = of_map f xs before after y (ap (drop 1) e) in
    record { from = later.from; there = record { before = x ∷ later.there.before; after = later.there.after; place = ap (λ (l : List A). x ∷ l) later.there.place }; is = later.is }

all_there : {A : Type 0} (P : A → Type 0) (xs : List A) (x : A) → AllByRecursion P xs → IsAmong xs x → P x
all_there {A = A} P xs x all there = by_front there.before (subst (AllByRecursion P) there.place all) where
  by_front : (front : List A) → AllByRecursion P (front ++ x ∷ there.after) → P x
  by_front [] so = so.0
  by_front (b ∷ front) so = by_front front so.1

-- ---- numbered calls

-- among numbers from one on each has its place
number_at : (a n : ℕ) (before after : List ℕ) (x : ℕ) → before ++ x ∷ after ≡ range_with_len a n → x ≡ a + length before
number_at a zero [] after x e = absurd cc
number_at a zero (b ∷ before) after x e = absurd cc
number_at a (suc n) [] after x e =
    let same : x ≡ a = ap (λ (l : List ℕ). get_or l 0 0) e in
    omega (arith, same)
number_at a (suc n) (b ∷ before) after x e =
    let later = number_at (a + 1) n before after x (ap (drop 1) e) in
    omega (arith, later)

abbrev pub call_number : Record → ℕ
call_number r = r.item.call

map_parts : (before after : List Record) (r : Record) → map call_number (before ++ r ∷ after) ≡ map call_number before ++ r.item.call ∷ map call_number after
map_parts [] after r = refl
map_parts (b ∷ before) after r = ap (λ (l : List ℕ). b.item.call ∷ l) (map_parts before after r)

-- a record is found by its number
pub found_by : (a n : ℕ) (before after : List Record) (r : Record) → map call_number (before ++ r ∷ after) ≡ range_with_len a n → find (λ (x : Record). eqb x.item.call r.item.call) (before ++ r ∷ after) ≡ Some r
found_by a n [] after r e = ap (λ (b : Bool). cond b (Some r) (find (λ (x : Record). eqb x.item.call r.item.call) after)) (eq-eqb r.item.call r.item.call refl)
found_by a zero (b ∷ before) after r e = absurd cc
found_by a (suc n) (b ∷ before) after r e =
    let first : b.item.call ≡ a = ap (λ (l : List ℕ). get_or l 0 0) e in
    let rest : map call_number (before ++ r ∷ after) ≡ range_with_len (a + 1) n = ap (drop 1) e in
    let number = number_at (a + 1) n (map call_number before) (map call_number after) r.item.call (sym (map_parts before after r) ∙ rest) in
    ap (λ (t : Bool). cond t (Some b) (find (λ (x : Record). eqb x.item.call r.item.call) (before ++ r ∷ after))) (ne_eqb b.item.call r.item.call (λ same. omega (arith, same, first, number)))
    ∙ found_by (a + 1) n before after r rest

-- ---- a Log event

is_that : (what given : Answer) → is_answer what given ≡ true → given ≡ what
is_that answer.Filtered answer.Filtered e = refl
is_that answer.Queued answer.Queued e = refl
is_that answer.Lost answer.Lost e = refl
is_that answer.Filtered answer.Queued e = absurd cc
is_that answer.Filtered answer.Lost e = absurd cc
is_that answer.Queued answer.Filtered e = absurd cc
is_that answer.Queued answer.Lost e = absurd cc
is_that answer.Lost answer.Filtered e = absurd cc
is_that answer.Lost answer.Queued e = absurd cc

ordered : (app writer call : ℕ) (moment : Moment) (before after : List Event) → order app (before ++ Log app writer call moment ∷ after) ≡ order app before ++ (writer, call) ∷ order app after
ordered app writer call moment before after =
    filter_map-append (logged_of app) before (Log app writer call moment ∷ after)
    ∙ ap (λ (b : Bool). order app before ++ cons_option (cond b (Some (writer, call)) None) (order app after)) (eq-eqb app app refl)

of_that_writer : (writer call : ℕ) (xs ys : List (ℕ × ℕ)) → filter (of_writer writer) (xs ++ (writer, call) ∷ ys) ≡ filter (of_writer writer) xs ++ (writer, call) ∷ filter (of_writer writer) ys
of_that_writer writer call xs ys =
    filter-append (of_writer writer) xs ((writer, call) ∷ ys)
    ∙ ap (λ (b : Bool). filter (of_writer writer) xs ++ cond b ((writer, call) ∷ filter (of_writer writer) ys) (filter (of_writer writer) ys)) (eq-eqb writer writer refl)

not_none : {A : Type 0} (xs ys : List A) (x : A) → xs ++ x ∷ ys ≡ [] → ⊥
not_none xs ys x e = absurd (omega (arith, ap length e, length-append xs (x ∷ ys)))

module _ (first : ℕ) (events : List Event) (pending refusals : ℕ → ℕ) (pushed : List (List Claimed)) (records : List (List Record)) (accounted : IsAccounted first events pending refusals pushed records)
    (app writer call : ℕ) (moment : Moment) (before after : List Event) (there : events ≡ before ++ Log app writer call moment ∷ after) where
  abbrev owned : IsOwned first events writer (refusals writer) (claims_by writer pushed) (records_by writer records)
  owned = accounted.writers writer

  abbrev rs : List Record
  rs = records_by writer records

  admitted : filter (of_writer writer) (order app events) ≡ filter (of_writer writer) (order app before) ++ (writer, call) ∷ filter (of_writer writer) (order app after)
  admitted = ap (λ (es : List Event). filter (of_writer writer) (order app es)) there ∙ ap (filter (of_writer writer)) (ordered app writer call moment before after) ∙ of_that_writer writer call (order app before) (order app after)

  its_app : app ≡ owned.app
  its_app = elim (cases_eq app owned.app) [
    | inl same ↦ same
    | inr apart ↦ absurd (not_none (filter (of_writer writer) (order app before)) (filter (of_writer writer) (order app after)) (writer, call) (sym admitted ∙ owned.belongs.alone app apart))
  ]

  by_queued : IsMadeOf nr (with_answer answer.Queued rs) (writer, call) → WasLogged records app writer call
  by_queued made =
      let kept = of_filter (λ (r : Record). is_answer answer.Queued r.answer) rs made.there.before made.there.after made.from made.there.place in
      let place = kept.0.place in
      let call_is : made.from.item.call ≡ call = ap (λ (x : ℕ × ℕ). x.1) made.is in
      let numbers : map call_number (kept.0.before ++ made.from ∷ kept.0.after) ≡ range_with_len 1 (length rs) = ap (map call_number) (sym place) ∙ owned.account.numbered in
      let found : find (λ (x : Record). eqb x.item.call made.from.item.call) rs ≡ Some made.from =
      ap (find (λ (x : Record). eqb x.item.call made.from.item.call)) place ∙ found_by 1 (length rs) kept.0.before kept.0.after made.from numbers in
      record {
        record_is = made.from;
        found = subst (λ (n : ℕ). find (λ (x : Record). eqb x.item.call n) rs ≡ Some made.from) call_is found;
        of_app = all_there (λ (r : Record). r.item.app ≡ owned.app) rs made.from owned.belongs.own kept.0 ∙ sym its_app;
        queued = is_that answer.Queued made.from.answer kept.1;
      }

  pub was_logged : WasLogged records app writer call
  was_logged =
      let mine : filter (of_writer writer) (order app events) ≡ map nr (with_answer answer.Queued rs) = subst (λ (a : ℕ). filter (of_writer writer) (order a events) ≡ map nr (with_answer answer.Queued rs)) (sym its_app) owned.account.in_order in
      by_queued (of_map nr (with_answer answer.Queued rs) (filter (of_writer writer) (order app before)) (filter (of_writer writer) (order app after)) (writer, call) (sym mine ∙ admitted))
