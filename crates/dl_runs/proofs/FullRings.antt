-- A ring never holds more than it can, and a lost call met a full one.
use Rattle.std.proofs.Common.{◌≡◌, ℕ, ◌+◌, ◌<◌, ◌≤◌, Bool, true, false, cond, eqb, List, [], ◌∷◌, ◌++◌, length, get_or, Option, Some, None, refl, sym, ap, subst, ◌∙◌, append_assoc, length-append, arith, inl, inr}
use Rattle.std.specs.Prelude.{count_by, slice_get, ◌⊎◌}
use Rattle.std.specs.List.{filter_map, cons_option, AllByRecursion}
use Rattle.std.specs.Option.{option_map_or}
use Rattle.std.proofs.lemmas.Bool.{leb-true, leb-false, eqb-true}
use Rattle.std.proofs.lemmas.List.{append-nil}
use Rattle.std.proofs.lemmas.List.Elements.{filter-append, filter_map-append}
use Rattle.std.proofs.lemmas.Option.{slice_get_cases}
use Rattle.dl_lemmas.proofs.Lists.{all_both, all_map, get_more}
use Rattle.dl_events.specs.declared.record.Record.{Record}
use Rattle.dl_events.specs.declared.record.Answer.TheVariants as answer
use Rattle.dl_script_model.specs.declared.line.AppLine.{AppLine}
use Rattle.dl_model.specs.Setting.{Setting}
use Rattle.dl_script_model.specs.Marks.{Call, Mark, Filtered, Passed, Queued, Refused, Counted, Announced, event_of, journal, app_of, apps, record_of, recorded, records_of, OfCall, OfClaim, pushes, pushed_of, taken, is_taken_of, held_by, capacity_of, is_full}
use Rattle.dl_model.specs.Report.{is_answer}
use Rattle.dl_model.specs.Accounts.{with_answer}
use Rattle.dl_model.proofs.Lists.{count_by-append}
use Rattle.dl_runs.specs.RunRecords.{MetFullRing}
use Rattle.dl_runs.proofs.Relations.{AreAll, holds_on}
use Rattle.dl_runs.proofs.WriterRuns.{Open, Shut, ToPush, ToCount, IfOpen, Right, GoesOn, writer_holds}
use Rattle.dl_runs.proofs.OwnApps.{number-within}
use Rattle.dl_runs.proofs.AccountRuns.{in_app}
use Rattle.dl_laws.proofs.Partition.{all_owners}

-- ---- a ring holds no more than it can

abbrev HaveRoom : List Mark → Type 0
HaveRoom done = (app : ℕ) → held_by app done ≤ capacity_of done app

-- an application keeps its capacity; one that isn't there had none
capacity_stays : (lines more : List AppLine) (app : ℕ) → option_map_or (λ (line : AppLine). line.capacity) (slice_get lines app) 0 ≤ option_map_or (λ (line : AppLine). line.capacity) (slice_get (lines ++ more) app) 0
capacity_stays lines more app = by_option (slice_get lines app) refl where
  by_option : (o : Option AppLine) → slice_get lines app ≡ o → option_map_or (λ (line : AppLine). line.capacity) o 0 ≤ option_map_or (λ (line : AppLine). line.capacity) (slice_get (lines ++ more) app) 0
  by_option None is = omega arith
  by_option (Some line) is =
      let same : option_map_or (λ (line : AppLine). line.capacity) (slice_get (lines ++ more) app) 0 ≡ line.capacity = ap (λ (o : Option AppLine). option_map_or (λ (line : AppLine). line.capacity) o 0) (get_more lines more app line is) in
      omega (arith, same)

capacity_more : (done : List Mark) (mark : Mark) (app : ℕ) → capacity_of done app ≤ capacity_of (done ++ mark ∷ []) app
capacity_more done mark app =
    let more : capacity_of (done ++ mark ∷ []) app ≡ option_map_or (λ (line : AppLine). line.capacity) (slice_get (apps done ++ filter_map app_of (mark ∷ [])) app) 0 =
    ap (λ (lines : List AppLine). option_map_or (λ (line : AppLine). line.capacity) (slice_get lines app) 0) (filter_map-append app_of done (mark ∷ [])) in
    omega (arith, more, capacity_stays (apps done) (filter_map app_of (mark ∷ [])) app)

taken_more : (done : List Mark) (mark : Mark) (app : ℕ) → taken app done ≤ taken app (done ++ mark ∷ [])
taken_more done mark app =
    let all = ap (count_by (is_taken_of app)) (filter_map-append event_of done (mark ∷ [])) ∙ count_by-append (is_taken_of app) (journal done) (filter_map event_of (mark ∷ [])) in
    omega (arith, all)

pushes_more : (done : List Mark) (mark : Mark) (app : ℕ) → length (pushes app (done ++ mark ∷ [])) ≡ length (pushes app done) + length (filter_map (pushed_of app) (mark ∷ []))
pushes_more done mark app = ap length (filter_map-append (pushed_of app) done (mark ∷ [])) ∙ length-append (pushes app done) (filter_map (pushed_of app) (mark ∷ []))

room_on : (setting : Setting) (done : List Mark) (mark : Mark) → HaveRoom done → Right setting done mark → HaveRoom (done ++ mark ∷ [])
room_on setting done (Queued c) room right app = by_app (eqb c.item.app app) refl where
  by_app : (b : Bool) → eqb c.item.app app ≡ b → held_by app (done ++ Queued c ∷ []) ≤ capacity_of (done ++ Queued c ∷ []) app
  by_app true is =
      let same = eqb-true c.item.app app is in
      let below : held_by app done < capacity_of done app = subst (λ (a : ℕ). held_by a done < capacity_of done a) same (leb-false (capacity_of done c.item.app) (held_by c.item.app done) right.0.1) in
      let one : length (filter_map (pushed_of app) (Queued c ∷ [])) ≡ 1 = ap (λ (b : Bool). length (cons_option (cond b (Some (OfCall c)) None) [])) is in
      omega (arith, below, one, pushes_more done (Queued c) app, taken_more done (Queued c) app, capacity_more done (Queued c) app)
  by_app false is =
      let none : length (filter_map (pushed_of app) (Queued c ∷ [])) ≡ 0 = ap (λ (b : Bool). length (cons_option (cond b (Some (OfCall c)) None) [])) is in
      omega (arith, room app, none, pushes_more done (Queued c) app, taken_more done (Queued c) app, capacity_more done (Queued c) app)
room_on setting done (Announced c) room right app = by_app (eqb c.app app) refl where
  by_app : (b : Bool) → eqb c.app app ≡ b → held_by app (done ++ Announced c ∷ []) ≤ capacity_of (done ++ Announced c ∷ []) app
  by_app true is =
      let same = eqb-true c.app app is in
      let below : held_by app done < capacity_of done app = subst (λ (a : ℕ). held_by a done < capacity_of done a) same (leb-false (capacity_of done c.app) (held_by c.app done) right.0.1) in
      let one : length (filter_map (pushed_of app) (Announced c ∷ [])) ≡ 1 = ap (λ (b : Bool). length (cons_option (cond b (Some (OfClaim c)) None) [])) is in
      omega (arith, below, one, pushes_more done (Announced c) app, taken_more done (Announced c) app, capacity_more done (Announced c) app)
  by_app false is =
      let none : length (filter_map (pushed_of app) (Announced c ∷ [])) ≡ 0 = ap (λ (b : Bool). length (cons_option (cond b (Some (OfClaim c)) None) [])) is in
      omega (arith, room app, none, pushes_more done (Announced c) app, taken_more done (Announced c) app, capacity_more done (Announced c) app)
room_on setting done mark room right app = omega (arith, room app, pushes_more done mark app, taken_more done mark app, capacity_more done mark app)

pub rooms : (setting : Setting) (marks : List Mark) → AreAll (Right setting) [] marks → (app : ℕ) → held_by app marks ≤ capacity_of marks app
rooms setting marks all = holds_on (Right setting) HaveRoom (room_on setting) [] marks (λ app. omega arith) all

-- ---- a lost call met a full ring

-- the push that refused a call
record IsRefusedIn (done : List Mark) (call : Call) : Type 0 where
  before : List Mark
  after : List Mark
  place : done ≡ before ++ Refused call ∷ after
  full : held_by call.item.app before ≡ capacity_of before call.item.app

abbrev IfCount : Open → (Call → Type 0) → Type 0
IfCount (ToCount c) P = P c
IfCount _ P = Unit {0}

refused_more : (done : List Mark) (mark : Mark) (c : Call) → IsRefusedIn done c → IsRefusedIn (done ++ mark ∷ []) c
refused_more done mark c is = record {
  before = is.before;
  after = is.after ++ mark ∷ [];
  place = ap (λ (ms : List Mark). ms ++ mark ∷ []) is.place ∙ append_assoc is.before (Refused c ∷ is.after) (mark ∷ []);
  full = is.full;
}

met_more : (done : List Mark) (mark : Mark) (rs : List Record) → AllByRecursion (MetFullRing done) rs → AllByRecursion (MetFullRing (done ++ mark ∷ [])) rs
met_more done mark rs = all_map (MetFullRing done) (MetFullRing (done ++ mark ∷ [])) (λ r is. record {
  call = is.call;
  is = is.is;
  before = is.before;
  after = is.after ++ mark ∷ [];
  place = ap (λ (ms : List Mark). ms ++ mark ∷ []) is.place ∙ append_assoc is.before (Refused is.call ∷ is.after) (mark ∷ []);
  full = is.full;
}) rs

-- a record that is not of a lost call adds none
not_lost : (done : List Mark) (rs : List Record) (r : Record) → is_answer answer.Lost r.answer ≡ false → AllByRecursion (MetFullRing done) (with_answer answer.Lost rs) → AllByRecursion (MetFullRing done) (with_answer answer.Lost (rs ++ r ∷ []))
not_lost done rs r e all =
    let same : with_answer answer.Lost (rs ++ r ∷ []) ≡ with_answer answer.Lost rs =
    filter-append (λ (x : Record). is_answer answer.Lost x.answer) rs (r ∷ []) ∙ ap (λ (b : Bool). with_answer answer.Lost rs ++ cond b (r ∷ []) []) e ∙ append-nil (with_answer answer.Lost rs) in
    subst (AllByRecursion (MetFullRing done)) (sym same) all

is_lost : (done : List Mark) (rs : List Record) (c : Call) → MetFullRing done (recorded c answer.Lost) → AllByRecursion (MetFullRing done) (with_answer answer.Lost rs) →
    AllByRecursion (MetFullRing done) (with_answer answer.Lost (rs ++ recorded c answer.Lost ∷ []))
is_lost done rs c met all =
    subst (AllByRecursion (MetFullRing done)) (sym (filter-append (λ (x : Record). is_answer answer.Lost x.answer) rs (recorded c answer.Lost ∷ [])))
    (all_both (MetFullRing done) (with_answer answer.Lost rs) (recorded c answer.Lost ∷ []) all (met, tt))

open_more : (done : List Mark) (mark : Mark) (o : Open) → IfCount o (IsRefusedIn done) → IfCount o (IsRefusedIn (done ++ mark ∷ []))
open_more done mark (ToCount c) is = refused_more done mark c is
open_more done mark _ is = tt

abbrev Meets : List Mark → List Record → Open → Type 0
Meets done rs o = AllByRecursion (MetFullRing done) (with_answer answer.Lost rs) × IfCount o (IsRefusedIn done)

full_is : (setting : Setting) (done : List Mark) (app : ℕ) → AreAll (Right setting) [] done → is_full app done ≡ true → held_by app done ≡ capacity_of done app
full_is setting done app all full = omega (arith, leb-true (capacity_of done app) (held_by app done) full, rooms setting done all app)

meets_go_on : (setting : Setting) (writer : ℕ) → GoesOn setting writer Meets
meets_go_on setting writer = record {
  other = λ done mark rs o is e. (met_more done mark (with_answer answer.Lost rs) is.0, open_more done mark o is.1);
  filtered = λ done c rs is same loaded own never.
      (not_lost (done ++ Filtered c ∷ []) rs (recorded c answer.Filtered) refl (met_more done (Filtered c) (with_answer answer.Lost rs) is.0), tt);
  passed = λ done c rs is same loaded own ever. (met_more done (Passed c) (with_answer answer.Lost rs) is.0, tt);
  queued = λ done c rs is same. (not_lost (done ++ Queued c ∷ []) rs (recorded c answer.Queued) refl (met_more done (Queued c) (with_answer answer.Lost rs) is.0), tt);
  refused = λ done c rs is same full before.
      (met_more done (Refused c) (with_answer answer.Lost rs) is.0, record { before = done; after = []; place = refl; full = full_is setting done c.item.app before full });
  counted = λ done c rs is same.
      let now = refused_more done (Counted c) c is.1 in
      (is_lost (done ++ Counted c ∷ []) rs c (record { call = c; is = refl; before = now.before; after = now.after; place = now.place; full = now.full }) (met_more done (Counted c) (with_answer answer.Lost rs) is.0), tt);
}

pub lost_met : (setting : Setting) (writer : ℕ) (marks : List Mark) → AreAll (Right setting) [] marks → AllByRecursion (MetFullRing marks) (with_answer answer.Lost (records_of writer marks))
lost_met setting writer marks all = (writer_holds setting writer Meets (meets_go_on setting writer) marks (tt, tt) all).0

-- ---- an application that lost a call had its ring's capacity of calls and claims

-- the application was declared, and its ring had taken as many calls and claims as it can hold
abbrev pub HadPushed : List Mark → ℕ → Type 0
HadPushed done app = (app < length (apps done)) × (capacity_of done app ≤ length (pushes app done))

apps_more : (done : List Mark) (mark : Mark) → apps (done ++ mark ∷ []) ≡ apps done ++ filter_map app_of (mark ∷ [])
apps_more done mark = filter_map-append app_of done (mark ∷ [])

declared_more : (done : List Mark) (mark : Mark) (app : ℕ) → app < length (apps done) → app < length (apps (done ++ mark ∷ []))
declared_more done mark app lt = omega (arith, lt, ap length (apps_more done mark), length-append (apps done) (filter_map app_of (mark ∷ [])))

-- an application that is there keeps its capacity
capacity_kept : (lines more : List AppLine) (app : ℕ) → app < length lines →
    option_map_or (λ (line : AppLine). line.capacity) (slice_get (lines ++ more) app) 0 ≡ option_map_or (λ (line : AppLine). line.capacity) (slice_get lines app) 0
capacity_kept lines more app lt = by_cases (slice_get_cases lines app).1 where
  by_cases : ((x : AppLine) × (app < length lines) × (slice_get lines app ≡ Some x) × (get_or lines app x ≡ x)) ⊎ ((length lines ≤ app) × (slice_get lines app ≡ None)) →
      option_map_or (λ (line : AppLine). line.capacity) (slice_get (lines ++ more) app) 0 ≡ option_map_or (λ (line : AppLine). line.capacity) (slice_get lines app) 0
  by_cases (inl found) = ap (λ (o : Option AppLine). option_map_or (λ (line : AppLine). line.capacity) o 0) (get_more lines more app found.0 found.2 ∙ sym found.2)
  by_cases (inr none) = absurd (omega (arith, lt, none.0))

had_more : (done : List Mark) (mark : Mark) (app : ℕ) → HadPushed done app → HadPushed (done ++ mark ∷ []) app
had_more done mark app is =
    let lines = ap (λ (l : List AppLine). option_map_or (λ (line : AppLine). line.capacity) (slice_get l app) 0) (apps_more done mark) in
    let same : capacity_of (done ++ mark ∷ []) app ≡ capacity_of done app = lines ∙ capacity_kept (apps done) (filter_map app_of (mark ∷ [])) app is.0 in
    (declared_more done mark app is.0, omega (arith, is.1, same, pushes_more done mark app))

abbrev Lost : List Mark → List Record → Type 0
Lost done rs = AllByRecursion (λ r. HadPushed done r.item.app) (with_answer answer.Lost rs)

abbrev Had : List Mark → List Record → Open → Type 0
Had done rs o = Lost done rs × IfOpen o (λ c. c.item.app < length (apps done)) × IfCount o (λ c. HadPushed done c.item.app)

lost_later : (done : List Mark) (mark : Mark) (rs : List Record) → Lost done rs → Lost (done ++ mark ∷ []) rs
lost_later done mark rs all = all_map (λ (r : Record). HadPushed done r.item.app) (λ (r : Record). HadPushed (done ++ mark ∷ []) r.item.app) (λ r is. had_more done mark r.item.app is) (with_answer answer.Lost rs) all

lost_same : (done : List Mark) (rs : List Record) (r : Record) → is_answer answer.Lost r.answer ≡ false → Lost done rs → Lost done (rs ++ r ∷ [])
lost_same done rs r e all =
    let same : with_answer answer.Lost (rs ++ r ∷ []) ≡ with_answer answer.Lost rs =
    filter-append (λ (x : Record). is_answer answer.Lost x.answer) rs (r ∷ []) ∙ ap (λ (b : Bool). with_answer answer.Lost rs ++ cond b (r ∷ []) []) e ∙ append-nil (with_answer answer.Lost rs) in
    subst (AllByRecursion (λ r. HadPushed done r.item.app)) (sym same) all

lost_one : (done : List Mark) (rs : List Record) (c : Call) → HadPushed done c.item.app → Lost done rs → Lost done (rs ++ recorded c answer.Lost ∷ [])
lost_one done rs c is all =
    subst (AllByRecursion (λ r. HadPushed done r.item.app)) (sym (filter-append (λ (x : Record). is_answer answer.Lost x.answer) rs (recorded c answer.Lost ∷ [])))
    (all_both (λ r. HadPushed done r.item.app) (with_answer answer.Lost rs) (recorded c answer.Lost ∷ []) all (is, tt))

open_later : (done : List Mark) (mark : Mark) (o : Open) → IfOpen o (λ c. c.item.app < length (apps done)) → IfOpen o (λ c. c.item.app < length (apps (done ++ mark ∷ [])))
open_later done mark Shut is = tt
open_later done mark (ToPush c) is = declared_more done mark c.item.app is
open_later done mark (ToCount c) is = declared_more done mark c.item.app is

count_later : (done : List Mark) (mark : Mark) (o : Open) → IfCount o (λ c. HadPushed done c.item.app) → IfCount o (λ c. HadPushed (done ++ mark ∷ []) c.item.app)
count_later done mark (ToCount c) is = had_more done mark c.item.app is
count_later done mark Shut is = tt
count_later done mark (ToPush c) is = tt

had_goes_on : (setting : Setting) (writer : ℕ) → GoesOn setting writer Had
had_goes_on setting writer = record {
  other = λ done mark rs o is e. (lost_later done mark rs is.0, open_later done mark o is.1, count_later done mark o is.2);
  filtered = λ done c rs is same loaded own never. (lost_same (done ++ Filtered c ∷ []) rs (recorded c answer.Filtered) refl (lost_later done (Filtered c) rs is.0), tt, tt);
  passed = λ done c rs is same loaded own ever. (lost_later done (Passed c) rs is.0, declared_more done (Passed c) c.item.app (number-within done own.apid c.item.app own.number), tt);
  queued = λ done c rs is same. (lost_same (done ++ Queued c ∷ []) rs (recorded c answer.Queued) refl (lost_later done (Queued c) rs is.0), tt, tt);
  refused = λ done c rs is same full before.
      let held = full_is setting done c.item.app before full in
      (lost_later done (Refused c) rs is.0, declared_more done (Refused c) c.item.app is.1, had_more done (Refused c) c.item.app (is.1, omega (arith, held)));
  counted = λ done c rs is same. (lost_one (done ++ Counted c ∷ []) rs c (had_more done (Counted c) c.item.app is.2) (lost_later done (Counted c) rs is.0), tt, tt);
}

lost_had : (setting : Setting) (writer : ℕ) (marks : List Mark) → AreAll (Right setting) [] marks → Lost marks (records_of writer marks)
lost_had setting writer marks all = (writer_holds setting writer Had (had_goes_on setting writer) marks (tt, tt, tt) all).0

-- the same of each record of an application
abbrev IfLost : List Mark → Record → Type 0
IfLost done r = is_answer answer.Lost r.answer ≡ true → HadPushed done r.item.app

unfiltered : (done : List Mark) (rs : List Record) → Lost done rs → AllByRecursion (IfLost done) rs
unfiltered done [] all = tt
unfiltered done (r ∷ rs) all = by_test (is_answer answer.Lost r.answer) refl all (unfiltered done rs) where
  by_test : (b : Bool) → is_answer answer.Lost r.answer ≡ b → AllByRecursion (λ r. HadPushed done r.item.app) (cond b (r ∷ with_answer answer.Lost rs) (with_answer answer.Lost rs)) → (Lost done rs → AllByRecursion (IfLost done) rs) → AllByRecursion (IfLost done) (r ∷ rs)
  by_test true is so later = ((λ e. so.0), later so.1)
  by_test false is so later = ((λ e. absurd cc), later so)

some_lost : (done : List Mark) (app : ℕ) (rs : List Record) → AllByRecursion (IfLost done) rs → 0 < length (with_answer answer.Lost (in_app app rs)) → HadPushed done app
some_lost done app [] all lt = absurd (omega (arith, lt))
some_lost done app (r ∷ rs) all lt = by_app (eqb r.item.app app) refl lt (some_lost done app rs all.1) where
  by_lost : r.item.app ≡ app → (b : Bool) → is_answer answer.Lost r.answer ≡ b → 0 < length (cond b (r ∷ with_answer answer.Lost (in_app app rs)) (with_answer answer.Lost (in_app app rs))) →
      (0 < length (with_answer answer.Lost (in_app app rs)) → HadPushed done app) → HadPushed done app
  by_lost same true is some later = subst (HadPushed done) same (all.0 is)
  by_lost same false is some later = later some

  by_app : (b : Bool) → eqb r.item.app app ≡ b → 0 < length (with_answer answer.Lost (cond b (r ∷ in_app app rs) (in_app app rs))) → (0 < length (with_answer answer.Lost (in_app app rs)) → HadPushed done app) → HadPushed done app
  by_app true is some later = by_lost (eqb-true r.item.app app is) (is_answer answer.Lost r.answer) refl some later
  by_app false is some later = later some

pub had_pushed : (setting : Setting) (marks : List Mark) → AreAll (Right setting) [] marks → (app : ℕ) → 0 < length (with_answer answer.Lost (in_app app (filter_map record_of marks))) → HadPushed marks app
had_pushed setting marks all app some =
    some_lost marks app (filter_map record_of marks)
    (all_owners (λ (r : Record). r.item.writer) (λ (w : ℕ) (r : Record). IfLost marks r) (filter_map record_of marks) (λ w. unfiltered marks (records_of w marks) (lost_had setting w marks all))) some
