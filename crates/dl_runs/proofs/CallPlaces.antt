-- Where the Log events of a writer's calls stand: each queued call has one at most, and they stand in the order of the calls.
use Rattle.std.proofs.Common.{◌≡◌, ℕ, zero, suc, ◌+◌, ◌<◌, ◌≤◌, Bool, true, false, cond, eqb, List, [], ◌∷◌, ◌++◌, length, map, drop, get_or, Option, Some, None, refl, sym, ap, subst, ◌∙◌, arith}
use Rattle.std.specs.Prelude.{count_by, ◌&&◌, ◌||◌}
use Rattle.std.specs.List.{list_any, filter, filter_map, cons_option, range_with_len}
use Rattle.std.proofs.lemmas.Bool.{eq-eqb, ne_eqb, eqb-true, or_parts, or_from}
use Rattle.std.proofs.lemmas.List.{map-append}
use Rattle.std.proofs.lemmas.List.Elements.{filter-append, filter_map-append}
use Rattle.std.proofs.lemmas.List.Folds.{list_any-append}
use Rattle.std.proofs.lemmas.List.Sums.{sum_by-cons}
use Rattle.dl_bytes.specs.Claim.{Claimed}
use Rattle.dl_bytes.specs.declared.moment.Moment.{Moment}
use Rattle.dl_events.specs.declared.event.Event.{Event}
use Rattle.dl_events.specs.declared.event.Event.TheVariants as event
use Rattle.dl_events.specs.declared.record.Record.{Record}
use Rattle.dl_events.specs.declared.record.Answer.TheVariants as answer
use Rattle.dl_model.specs.Accounts.{order, of_writer, with_answer}
use Rattle.dl_model.specs.Report.{is_answer}
use Rattle.dl_model.specs.WholeAccounts.{IsOwned, IsOwnedSoFar}
use Rattle.dl_model.proofs.Lists.{count_by-append}
use Rattle.dl_laws.specs.Fates.{logs}
use Rattle.dl_runs.proofs.AccountRuns.{nr}
use Rattle.dl_runs.proofs.HeardCalls.{NoOthers, fewer, of_its_app}
use Rattle.dl_runs.proofs.LoggedCalls.{call_number}

-- ---- numbers that rise

abbrev pub Rising : ℕ → List ℕ → Type 0
Rising a [] = Unit {0}
Rising a (n ∷ ns) = (a ≤ n) × Rising (n + 1) ns

abbrev pub has : ℕ → List ℕ → Bool
has n ns = list_any (λ m. eqb m n) ns

lower : (a b : ℕ) (ns : List ℕ) → b ≤ a → Rising a ns → Rising b ns
lower a b [] le r = tt
lower a b (n ∷ ns) le r = (omega (arith, le, r.0), r.1)

range_rises : (a n : ℕ) → Rising a (range_with_len a n)
range_rises a zero = tt
range_rises a (suc n) = (omega arith, range_rises (a + 1) n)

none_below : (a n : ℕ) (ns : List ℕ) → n < a → Rising a ns → has n ns ≡ false
none_below a n [] lt r = refl
none_below a n (m ∷ ns) lt r = or_from (eqb m n) (has n ns) (ne_eqb m n (λ same. omega (arith, same, lt, r.0))) (none_below (m + 1) n ns (omega (arith, lt, r.0)) r.1)

-- none before it and none behind it is the same
pub alone : (a n : ℕ) (xs ys : List ℕ) → Rising a (xs ++ n ∷ ys) → (a ≤ n) × (has n xs ≡ false) × (has n ys ≡ false)
alone a n [] ys r = (r.0, refl, none_below (n + 1) n ys (omega arith) r.1)
alone a n (x ∷ xs) ys r =
    let rest = alone (x + 1) n xs ys r.1 in
    (omega (arith, r.0, rest.0), or_from (eqb x n) (has n xs) (ne_eqb x n (λ same. omega (arith, same, rest.0))) rest.1, rest.2)

-- the place of a number that stands once is one
pub one_place : (n : ℕ) (xs ys us vs : List ℕ) → has n xs ≡ false → has n us ≡ false → xs ++ n ∷ ys ≡ us ++ n ∷ vs → xs ≡ us
one_place n [] ys [] vs a b e = refl
one_place n [] ys (u ∷ us) vs a b e =
    let same : n ≡ u = ap (λ (l : List ℕ). get_or l 0 n) e in
    let not : eqb u n ≡ false = (or_parts (eqb u n) (has n us) b).0 in
    let is : eqb u n ≡ true = eq-eqb u n (sym same) in
    absurd cc
one_place n (x ∷ xs) ys [] vs a b e =
    let same : x ≡ n = ap (λ (l : List ℕ). get_or l 0 n) e in
    let not : eqb x n ≡ false = (or_parts (eqb x n) (has n xs) a).0 in
    let is : eqb x n ≡ true = eq-eqb x n same in
    absurd cc
one_place n (x ∷ xs) ys (u ∷ us) vs a b e =
    let same : x ≡ u = ap (λ (l : List ℕ). get_or l 0 n) e in
    ap (λ (m : ℕ). m ∷ xs) same ∙ ap (λ (l : List ℕ). u ∷ l) (one_place n xs ys us vs (or_parts (eqb x n) (has n xs) a).1 (or_parts (eqb u n) (has n us) b).1 (ap (drop 1) e))

-- ---- the numbers of a writer's Log events

abbrev pub number_logged : ℕ → Event → Option ℕ
number_logged writer (event.Log app other number moment) = cond (eqb other writer) (Some number) None
number_logged writer _ = None

abbrev pub numbers_logged : ℕ → List Event → List ℕ
numbers_logged writer events = filter_map (number_logged writer) events

pub logs_number : (writer call : ℕ) (events : List Event) → list_any (logs writer call) events ≡ has call (numbers_logged writer events)
logs_number writer call [] = refl
logs_number writer call (event.Log app other number moment ∷ events) = by_test (eqb other writer) (logs_number writer call events) where
  by_test : (b : Bool) → list_any (logs writer call) events ≡ has call (numbers_logged writer events) →
      ((b && eqb number call) || list_any (logs writer call) events) ≡ has call (cons_option (cond b (Some number) None) (numbers_logged writer events))
  by_test true later = ap (λ (x : Bool). eqb number call || x) later
  by_test false later = later
logs_number writer call (event.Connect client ∷ events) = logs_number writer call events
logs_number writer call (event.Request client frame done ∷ events) = logs_number writer call events
logs_number writer call (event.Close client why ∷ events) = logs_number writer call events
logs_number writer call (event.Claim claim moment ∷ events) = logs_number writer call events
logs_number writer call (event.Level slot level ∷ events) = logs_number writer call events
logs_number writer call (event.Lost app count moment ∷ events) = logs_number writer call events
logs_number writer call (event.User channel msg moment ∷ events) = logs_number writer call events

-- a list in which none passes has a count of 0
none_counted : {A : Type 0} (p : A → Bool) (xs : List A) → list_any p xs ≡ false → count_by p xs ≡ 0
none_counted p [] none = refl
none_counted p (x ∷ xs) none =
    let parts = or_parts (p x) (list_any p xs) none in
    let here : ◌≡◌ {A = ℕ} (cond {A = ℕ} (p x) 1 0) 0 = ap (λ (b : Bool). cond {A = ℕ} b 1 0) parts.0 in
    omega (arith, sum_by-cons (λ y. cond {A = ℕ} (p y) 1 0) x xs, here, none_counted p xs parts.1)

pub counted_none : (writer call : ℕ) (events : List Event) → list_any (logs writer call) events ≡ false → count_by (logs writer call) events ≡ 0
counted_none writer call events none = none_counted (logs writer call) events none

-- a Log event between others, where none of them is of the same call
pub counted_one : (app writer call : ℕ) (moment : Moment) (before after : List Event) → list_any (logs writer call) before ≡ false → list_any (logs writer call) after ≡ false →
    count_by (logs writer call) (before ++ event.Log app writer call moment ∷ after) ≡ 1
counted_one app writer call moment before after first rest =
    let here : logs writer call (event.Log app writer call moment) ≡ true = ap (λ (b : Bool). b && eqb call call) (eq-eqb writer writer refl) ∙ eq-eqb call call refl in
    let one : count_by (logs writer call) (event.Log app writer call moment ∷ after) ≡ 1 + count_by (logs writer call) after =
    sum_by-cons (λ (e : Event). cond (logs writer call e) 1 0) (event.Log app writer call moment) after ∙ ap (λ (b : Bool). cond b 1 0 + count_by (logs writer call) after) here in
    omega (arith, count_by-append (logs writer call) before (event.Log app writer call moment ∷ after), one, none_counted (logs writer call) before first, none_counted (logs writer call) after rest)

pub number_here : (app writer call : ℕ) (moment : Moment) (before after : List Event) → numbers_logged writer (before ++ event.Log app writer call moment ∷ after) ≡ numbers_logged writer before ++ call ∷ numbers_logged writer after
number_here app writer call moment before after =
    filter_map-append (number_logged writer) before (event.Log app writer call moment ∷ after)
    ∙ ap (λ (b : Bool). numbers_logged writer before ++ cons_option (cond b (Some call) None) (numbers_logged writer after)) (eq-eqb writer writer refl)

-- ---- a number that was logged stands at its event

pub record LoggedAt (writer n : ℕ) (events : List Event) (xs ys : List ℕ) : Type 0 where
  pub app : ℕ
  pub moment : Moment
  pub before : List Event
  pub after : List Event
  pub place : events ≡ before ++ event.Log app writer n moment ∷ after
  pub first : numbers_logged writer before ≡ xs
  pub rest : numbers_logged writer after ≡ ys

-- behind an event that is no Log event of the writer
behind_other : (writer n : ℕ) (e : Event) (events : List Event) (xs ys : List ℕ) → number_logged writer e ≡ None → LoggedAt writer n events xs ys → LoggedAt writer n (e ∷ events) xs ys
behind_other writer n e events xs ys none l = record {
  app = l.app;
  moment = l.moment;
  before = e ∷ l.before;
  after = l.after;
  place = ap (λ (es : List Event). e ∷ es) l.place;
  first = ap (λ (o : Option ℕ). cons_option o (numbers_logged writer l.before)) none ∙ l.first;
  rest = l.rest;
}

-- behind one that is
behind_log : (writer n m : ℕ) (e : Event) (events : List Event) (xs ys : List ℕ) → number_logged writer e ≡ Some m → LoggedAt writer n events xs ys → LoggedAt writer n (e ∷ events) (m ∷ xs) ys
behind_log writer n m e events xs ys some l = record {
  app = l.app;
  moment = l.moment;
  before = e ∷ l.before;
  after = l.after;
  place = ap (λ (es : List Event). e ∷ es) l.place;
  first = ap (λ (o : Option ℕ). cons_option o (numbers_logged writer l.before)) some ∙ ap (λ (ns : List ℕ). m ∷ ns) l.first;
  rest = l.rest;
}

log_is : (writer n : ℕ) (e : Event) (events : List Event) (ys : List ℕ) → number_logged writer e ≡ Some n → numbers_logged writer events ≡ ys → LoggedAt writer n (e ∷ events) [] ys
log_is writer n (event.Log app other number moment) events ys is rest = by_test (eqb other writer) refl is where
  by_test : (b : Bool) → eqb other writer ≡ b → ◌≡◌ {A = Option ℕ} (cond b (Some number) None) (Some n) → LoggedAt writer n (event.Log app other number moment ∷ events) [] ys
  by_test true mine some =
      let same : number ≡ n = cc in
      record {
        app = app;
        moment = moment;
        before = [];
        after = events;
        place = ap (λ (w : ℕ). event.Log app w number moment ∷ events) (eqb-true other writer mine) ∙ ap (λ (c : ℕ). event.Log app writer c moment ∷ events) same;
        first = refl;
        rest = rest;
      }
  by_test false other some = absurd cc
log_is writer n _ events ys is rest = absurd cc

pub logged_at : (writer n : ℕ) (events : List Event) (xs ys : List ℕ) → numbers_logged writer events ≡ xs ++ n ∷ ys → LoggedAt writer n events xs ys
logged_at writer n [] [] ys e = absurd cc
logged_at writer n [] (x ∷ xs) ys e = absurd cc
logged_at writer n (e ∷ events) xs ys is = by_number (number_logged writer e) refl xs is (λ front rest. logged_at writer n events front ys rest) where
  by_number : (o : Option ℕ) → number_logged writer e ≡ o → (xs : List ℕ) → cons_option o (numbers_logged writer events) ≡ xs ++ n ∷ ys →
      ((front : List ℕ) → numbers_logged writer events ≡ front ++ n ∷ ys → LoggedAt writer n events front ys) → LoggedAt writer n (e ∷ events) xs ys
  by_number None none xs rest later = behind_other writer n e events xs ys none (later xs rest)
  by_number (Some m) some [] rest later =
      let same : m ≡ n = ap (λ (l : List ℕ). get_or l 0 n) rest in
      log_is writer n e events ys (some ∙ ap Some same) (ap (drop 1) rest)
  by_number (Some m) some (x ∷ xs) rest later =
      let same : m ≡ x = ap (λ (l : List ℕ). get_or l 0 n) rest in
      behind_log writer n x e events xs ys (some ∙ ap Some same) (later xs (ap (drop 1) rest))

-- ---- the numbers that were logged are those of the queued calls

abbrev second_of : ℕ × ℕ → ℕ
second_of p = p.1

logged_order : (writer app : ℕ) (events : List Event) → NoOthers writer app events → numbers_logged writer events ≡ map second_of (filter (of_writer writer) (order app events))
logged_order writer app [] none = refl
logged_order writer app (event.Log that by call moment ∷ events) none = by_writer (eqb by writer) refl (logged_order writer app events (fewer writer app (event.Log that by call moment) events none)) where
  at_app : that ≡ app → (b : Bool) → eqb that app ≡ b → eqb by writer ≡ true → numbers_logged writer events ≡ map second_of (filter (of_writer writer) (order app events)) →
      call ∷ numbers_logged writer events ≡ map second_of (filter (of_writer writer) (cons_option (cond b (Some (by, call)) None) (order app events)))
  at_app same true is mine later =
      ap (λ (ns : List ℕ). call ∷ ns) later
      ∙ ap (λ (b : Bool). map second_of (cond b ((by, call) ∷ filter (of_writer writer) (order app events)) (filter (of_writer writer) (order app events)))) (sym mine)
  at_app same false is mine later = let yes = eq-eqb that app same in absurd cc

  its_app : eqb by writer ≡ true → that ≡ app
  its_app mine = of_its_app writer app that by call (order that events) mine
      (λ apart. ap (λ (b : Bool). filter (of_writer writer) (cons_option (cond b (Some (by, call)) None) (order that events))) (sym (eq-eqb that that refl)) ∙ none that apart)

  elsewhere : (b : Bool) → eqb by writer ≡ false → filter (of_writer writer) (cons_option (cond b (Some (by, call)) None) (order app events)) ≡ filter (of_writer writer) (order app events)
  elsewhere true other = ap (λ (b : Bool). cond b ((by, call) ∷ filter (of_writer writer) (order app events)) (filter (of_writer writer) (order app events))) other
  elsewhere false other = refl

  by_writer : (b : Bool) → eqb by writer ≡ b → numbers_logged writer events ≡ map second_of (filter (of_writer writer) (order app events)) →
      cons_option (cond b (Some call) None) (numbers_logged writer events) ≡ map second_of (filter (of_writer writer) (cons_option (cond (eqb that app) (Some (by, call)) None) (order app events)))
  by_writer true mine later = at_app (its_app mine) (eqb that app) refl mine later
  by_writer false other later = later ∙ ap (map second_of) (sym (elsewhere (eqb that app) other))
logged_order writer app (event.Lost that count moment ∷ events) none = logged_order writer app events (fewer writer app (event.Lost that count moment) events none)
logged_order writer app (event.User channel msg moment ∷ events) none = logged_order writer app events (fewer writer app (event.User channel msg moment) events none)
logged_order writer app (event.Claim claim moment ∷ events) none = logged_order writer app events (fewer writer app (event.Claim claim moment) events none)
logged_order writer app (event.Level slot level ∷ events) none = logged_order writer app events (fewer writer app (event.Level slot level) events none)
logged_order writer app (event.Connect client ∷ events) none = logged_order writer app events (fewer writer app (event.Connect client) events none)
logged_order writer app (event.Request client frame answer ∷ events) none = logged_order writer app events (fewer writer app (event.Request client frame answer) events none)
logged_order writer app (event.Close client cause ∷ events) none = logged_order writer app events (fewer writer app (event.Close client cause) events none)

-- the numbers of the queued ones
abbrev pub queued_numbers : List Record → List ℕ
queued_numbers records = map call_number (with_answer answer.Queued records)

map_second : (rs : List Record) → map second_of (map nr rs) ≡ map call_number rs
map_second [] = refl
map_second (r ∷ rs) = ap (λ (ns : List ℕ). r.item.call ∷ ns) (map_second rs)

pub logged_queued : (first : ℕ) (events : List Event) (writer refusals : ℕ) (pushed : List Claimed) (records : List Record) → IsOwnedSoFar first events writer refusals pushed records →
    (others : List ℕ) × (numbers_logged writer events ++ others ≡ queued_numbers records)
logged_queued first events writer refusals pushed records owned =
    let done = filter (of_writer writer) (order owned.app events) in (
      map second_of owned.account.waiting,
      ap (λ (ns : List ℕ). ns ++ map second_of owned.account.waiting) (logged_order writer owned.app events owned.belongs.alone)
          ∙ sym (map-append second_of done owned.account.waiting) ∙ ap (map second_of) owned.account.in_order ∙ map_second (with_answer answer.Queued records),
    )

-- in a whole account, all of them
pub all_logged : (first : ℕ) (events : List Event) (writer refusals : ℕ) (pushed : List Claimed) (records : List Record) → IsOwned first events writer refusals pushed records → numbers_logged writer events ≡ queued_numbers records
all_logged first events writer refusals pushed records owned =
    logged_order writer owned.app events owned.belongs.alone ∙ ap (map second_of) owned.account.in_order ∙ map_second (with_answer answer.Queued records)

-- they rise
kept_rises : (a : ℕ) (rs : List Record) → Rising a (map call_number rs) → Rising a (queued_numbers rs)
kept_rises a [] r = tt
kept_rises a (x ∷ rs) r = by_test (is_answer answer.Queued x.answer) (kept_rises (x.item.call + 1) rs r.1) where
  by_test : (b : Bool) → Rising (x.item.call + 1) (queued_numbers rs) → Rising a (map call_number (cond b (x ∷ with_answer answer.Queued rs) (with_answer answer.Queued rs)))
  by_test true later = (r.0, later)
  by_test false later = lower (x.item.call + 1) a (queued_numbers rs) (omega (arith, r.0)) later

pub numbers_rise : (first : ℕ) (events : List Event) (writer refusals : ℕ) (pushed : List Claimed) (records : List Record) → IsOwnedSoFar first events writer refusals pushed records → Rising 1 (map call_number records)
numbers_rise first events writer refusals pushed records owned = subst (Rising 1) (sym owned.account.numbered) (range_rises 1 (length records))

pub queued_rise : (first : ℕ) (events : List Event) (writer refusals : ℕ) (pushed : List Claimed) (records : List Record) → IsOwnedSoFar first events writer refusals pushed records → Rising 1 (queued_numbers records)
queued_rise first events writer refusals pushed records owned = kept_rises 1 records (numbers_rise first events writer refusals pushed records owned)

pub queued-append : (xs ys : List Record) → queued_numbers (xs ++ ys) ≡ queued_numbers xs ++ queued_numbers ys
queued-append xs ys =
    ap (map call_number) (filter-append (λ (r : Record). is_answer answer.Queued r.answer) xs ys) ∙ map-append call_number (with_answer answer.Queued xs) (with_answer answer.Queued ys)

pub queued_here : (xs ys : List Record) (r : Record) → r.answer ≡ answer.Queued → queued_numbers (xs ++ r ∷ ys) ≡ queued_numbers xs ++ r.item.call ∷ queued_numbers ys
queued_here xs ys r is =
    queued-append xs (r ∷ ys)
    ∙ ap (λ (b : Bool). queued_numbers xs ++ map call_number (cond b (r ∷ with_answer answer.Queued ys) (with_answer answer.Queued ys))) (ap (is_answer answer.Queued) is)

-- a number that none of them has is none of the queued ones
none_queued : (n : ℕ) (rs : List Record) → has n (map call_number rs) ≡ false → has n (queued_numbers rs) ≡ false
none_queued n [] none = refl
none_queued n (r ∷ rs) none = by_test (is_answer answer.Queued r.answer) (none_queued n rs parts.1) where
  parts : (eqb r.item.call n ≡ false) × (has n (map call_number rs) ≡ false)
  parts = or_parts (eqb r.item.call n) (has n (map call_number rs)) none

  by_test : (b : Bool) → has n (queued_numbers rs) ≡ false → has n (map call_number (cond b (r ∷ with_answer answer.Queued rs) (with_answer answer.Queued rs))) ≡ false
  by_test true later = or_from (eqb r.item.call n) (has n (queued_numbers rs)) parts.0 later
  by_test false later = later

-- a call that isn't queued has no Log event
pub not_logged : (first : ℕ) (events : List Event) (writer refusals : ℕ) (pushed : List Claimed) (earlier later : List Record) (r : Record) → IsOwnedSoFar first events writer refusals pushed (earlier ++ r ∷ later) → is_answer answer.Queued r.answer ≡ false →
    list_any (logs writer r.item.call) events ≡ false
not_logged first events writer refusals pushed earlier later r owned not =
    let n = r.item.call in
    let logged = logged_queued first events writer refusals pushed (earlier ++ r ∷ later) owned in
    let rises : Rising 1 (map call_number earlier ++ n ∷ map call_number later) = subst (Rising 1) (map-append call_number earlier (r ∷ later)) (numbers_rise first events writer refusals pushed (earlier ++ r ∷ later) owned) in
    let once = alone 1 n (map call_number earlier) (map call_number later) rises in
    let same : queued_numbers (earlier ++ r ∷ later) ≡ queued_numbers earlier ++ queued_numbers later =
    queued-append earlier (r ∷ later) ∙ ap (λ (b : Bool). queued_numbers earlier ++ map call_number (cond b (r ∷ with_answer answer.Queued later) (with_answer answer.Queued later))) not in
    let none : has n (queued_numbers earlier ++ queued_numbers later) ≡ false =
    list_any-append (λ m. eqb m n) (queued_numbers earlier) (queued_numbers later)
    ∙ or_from (has n (queued_numbers earlier)) (has n (queued_numbers later)) (none_queued n earlier once.1) (none_queued n later once.2) in
    let all : (has n (numbers_logged writer events) || has n logged.0) ≡ false = sym (list_any-append (λ m. eqb m n) (numbers_logged writer events) logged.0) ∙ ap (has n) (logged.1 ∙ same) ∙ none in
    logs_number writer n events ∙ (or_parts (has n (numbers_logged writer events)) (has n logged.0) all).0
