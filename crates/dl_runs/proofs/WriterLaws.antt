-- The records of a writer: message counters, versions, loads, losses, and their application.
use Rattle.std.proofs.Common.{◌≡◌, ℕ, ◌+◌, ◌%◌, ◌≤◌, Bool, true, false, cond, List, [], ◌∷◌, ◌++◌, length, Some, refl, sym, ap, ◌∙◌, append_assoc, length-append, arith}
use Rattle.std.specs.Prelude.{count_by}
use Rattle.std.specs.List.{filter, filter_map, AllByRecursion}
use Rattle.std.proofs.lemmas.List.Elements.{filter-append, filter_map-append}
use Rattle.dl_lemmas.proofs.Lists.{all_both, all_map}
use Rattle.dl_events.specs.declared.record.Record.{Record}
use Rattle.dl_events.specs.declared.record.Answer.{Answer}
use Rattle.dl_events.specs.declared.record.Answer.TheVariants as answer
use Rattle.dl_model.specs.Setting.{Setting}
use Rattle.dl_model.specs.History.{level_for}
use Rattle.dl_model.specs.Journal.{slots_of}
use Rattle.dl_script_model.specs.Marks.{Call, Mark, Filtered, Passed, Queued, Refused, Counted, journal, event_of, recorded, records_of, is_step_of, is_passed, is_load, call_of, passed_of}
use Rattle.dl_script_model.specs.Runs.{IsLoaded}
use Rattle.dl_model.specs.Report.{is_answer}
use Rattle.dl_model.specs.Accounts.{AreCounted, IsNoOlder, NeverFall, with_answer}
use Rattle.dl_model.proofs.Lists.{count_by-append}
use Rattle.dl_runs.proofs.Founded.{own_step}
use Rattle.dl_runs.specs.RunRecords.{is_refusal_of, refusals_of, IsLoadedIn, IsSeen}
use Rattle.dl_runs.proofs.Relations.{AreAll}
use Rattle.dl_runs.proofs.WriterRuns.{Open, Shut, ToPush, ToCount, IfOpen, Right, GoesOn, writer_holds}

-- ---- message counters

-- how many of these passed, with so many before them
abbrev tally : ℕ → List Record → ℕ
tally k [] = k
tally k (r ∷ rs) = tally (cond (is_answer answer.Filtered r.answer) k (k + 1)) rs

tally-one : (k : ℕ) (rs : List Record) (r : Record) → tally k (rs ++ r ∷ []) ≡ cond (is_answer answer.Filtered r.answer) (tally k rs) (tally k rs + 1)
tally-one k [] r = refl
tally-one k (x ∷ rs) r = tally-one (cond (is_answer answer.Filtered x.answer) k (k + 1)) rs r

counted-one : (k : ℕ) (rs : List Record) (r : Record) → AreCounted k rs → r.item.mcnt ≡ tally k rs % 256 → AreCounted k (rs ++ r ∷ [])
counted-one k [] r all e = (e, tt)
counted-one k (x ∷ rs) r all e = (all.0, counted-one (cond (is_answer answer.Filtered x.answer) k (k + 1)) rs r all.1 e)

abbrev due : Open → ℕ
due Shut = 0
due (ToPush c) = 1
due (ToCount c) = 1

abbrev Counts : ℕ → List Mark → List Record → Open → Type 0
Counts writer done rs o = AreCounted 0 rs × (passed_of writer done ≡ tally 0 rs + due o) × IfOpen o (λ c. c.item.mcnt ≡ tally 0 rs % 256)

-- what a mark adds to the calls of a writer that passed
passed-one : (writer : ℕ) (done : List Mark) (mark : Mark) (b : Bool) → is_step_of writer mark ≡ b → passed_of writer (done ++ mark ∷ []) ≡ passed_of writer done + count_by is_passed (cond b (mark ∷ []) [])
passed-one writer done mark b e =
    ap (count_by is_passed) (filter-append (is_step_of writer) done (mark ∷ [])) ∙ count_by-append is_passed (filter (is_step_of writer) done) (filter (is_step_of writer) (mark ∷ []))
    ∙ ap (λ (t : Bool). passed_of writer done + count_by is_passed (cond t (mark ∷ []) [])) e

counts_go_on : (setting : Setting) (writer : ℕ) → GoesOn setting writer (Counts writer)
counts_go_on setting writer = record {
  other = λ done mark rs o is e. (is.0, omega (arith, passed-one writer done mark false e, is.1), is.2);
  filtered = λ done c rs is same loaded own no.
      let same_count : passed_of c.item.writer done ≡ passed_of writer done = ap (λ w. passed_of w done) same in
      let none : passed_of writer done ≡ tally 0 rs = omega (arith, is.1) in (
        counted-one 0 rs (recorded c answer.Filtered) is.0 (loaded.counter ∙ ap (λ (n : ℕ). n % 256) (same_count ∙ none)),
        omega (arith, passed-one writer done (Filtered c) true (own_step writer c same), is.1, tally-one 0 rs (recorded c answer.Filtered)),
        tt,
      );
  passed = λ done c rs is same loaded own yes.
      let same_count : passed_of c.item.writer done ≡ passed_of writer done = ap (λ w. passed_of w done) same in
      let none : passed_of writer done ≡ tally 0 rs = omega (arith, is.1) in (
        is.0,
        omega (arith, passed-one writer done (Passed c) true (own_step writer c same), is.1),
        loaded.counter ∙ ap (λ (n : ℕ). n % 256) (same_count ∙ none),
      );
  queued = λ done c rs is same. (
    counted-one 0 rs (recorded c answer.Queued) is.0 is.2,
    omega (arith, passed-one writer done (Queued c) true (own_step writer c same), is.1, tally-one 0 rs (recorded c answer.Queued)),
    tt,
  );
  refused = λ done c rs is same full before. (is.0, omega (arith, passed-one writer done (Refused c) true (own_step writer c same), is.1), is.2);
  counted = λ done c rs is same. (
    counted-one 0 rs (recorded c answer.Lost) is.0 is.2,
    omega (arith, passed-one writer done (Counted c) true (own_step writer c same), is.1, tally-one 0 rs (recorded c answer.Lost)),
    tt,
  );
}

pub counted_records : (setting : Setting) (writer : ℕ) (marks : List Mark) → AreAll (Right setting) [] marks → AreCounted 0 (records_of writer marks)
counted_records setting writer marks all = (writer_holds setting writer (Counts writer) (counts_go_on setting writer) marks (tt, refl, tt) all).0

-- ---- versions never fall

abbrev version_at : Setting → List Mark → ℕ → ℕ
version_at setting done slot = (slots_of setting (journal done) slot).version

version_grows : (setting : Setting) (done : List Mark) (mark : Mark) (slot : ℕ) → version_at setting done slot ≤ version_at setting (done ++ mark ∷ []) slot
version_grows setting done mark slot =
    let levels = filter_map (level_for slot) (journal done) in
    let more = filter_map (level_for slot) (filter_map event_of (mark ∷ [])) in
    let all : filter_map (level_for slot) (journal (done ++ mark ∷ [])) ≡ levels ++ more =
    ap (filter_map (level_for slot)) (filter_map-append event_of done (mark ∷ [])) ∙ filter_map-append (level_for slot) (journal done) (filter_map event_of (mark ∷ [])) in
    omega (arith, ap length all, length-append levels more)

abbrev Within : Setting → List Mark → Record → Type 0
Within setting done r = r.version ≤ version_at setting done r.slot

abbrev OpenWithin : Setting → List Mark → List Record → Call → Type 0
OpenWithin setting done rs c = AllByRecursion (λ r. r.slot ≡ c.slot → r.version ≤ c.version) rs × (c.version ≤ version_at setting done c.slot)

abbrev Rises : Setting → List Mark → List Record → Open → Type 0
Rises setting done rs o = NeverFall rs × AllByRecursion (Within setting done) rs × IfOpen o (OpenWithin setting done rs)

fall-one : (rs : List Record) (r : Record) → NeverFall rs → AllByRecursion (λ e. IsNoOlder e r) rs → NeverFall (rs ++ r ∷ [])
fall-one [] r falls older = (tt, tt)
fall-one (x ∷ rs) r falls older = (all_both (IsNoOlder x) rs (r ∷ []) falls.0 (older.0, tt), fall-one rs r falls.1 older.1)

within_more : (setting : Setting) (done : List Mark) (mark : Mark) (rs : List Record) → AllByRecursion (Within setting done) rs → AllByRecursion (Within setting (done ++ mark ∷ [])) rs
within_more setting done mark rs = all_map (Within setting done) (Within setting (done ++ mark ∷ [])) (λ r le. omega (arith, le, version_grows setting done mark r.slot)) rs

open_more : (setting : Setting) (done : List Mark) (mark : Mark) (rs : List Record) (o : Open) → IfOpen o (OpenWithin setting done rs) → IfOpen o (OpenWithin setting (done ++ mark ∷ []) rs)
open_more setting done mark rs Shut is = tt
open_more setting done mark rs (ToPush c) is = (is.0, omega (arith, is.1, version_grows setting done mark c.slot))
open_more setting done mark rs (ToCount c) is = (is.0, omega (arith, is.1, version_grows setting done mark c.slot))

-- a call that is loaded now is no older than what was loaded before
loaded_now : (setting : Setting) (done : List Mark) (rs : List Record) (c : Call) → AllByRecursion (Within setting done) rs → IsLoaded setting c done → AllByRecursion (λ r. r.slot ≡ c.slot → r.version ≤ c.version) rs
loaded_now setting done rs c all loaded = all_map (Within setting done) (λ r. r.slot ≡ c.slot → r.version ≤ c.version) (λ r le same.
    let now : version_at setting done r.slot ≡ c.version = ap (version_at setting done) same ∙ sym loaded.version in
    omega (arith, le, now)) rs all

-- its record stands behind the others
rises-one : (setting : Setting) (done : List Mark) (mark : Mark) (rs : List Record) (c : Call) (what : Answer) → NeverFall rs → AllByRecursion (Within setting done) rs → OpenWithin setting done rs c →
    Rises setting (done ++ mark ∷ []) (rs ++ recorded c what ∷ []) Shut
rises-one setting done mark rs c what falls all open_ = (
  fall-one rs (recorded c what) falls open_.0,
  all_both (Within setting (done ++ mark ∷ [])) rs (recorded c what ∷ []) (within_more setting done mark rs all) (omega (arith, open_.1, version_grows setting done mark c.slot), tt),
  tt,
)

now_le : (setting : Setting) (done : List Mark) (c : Call) → IsLoaded setting c done → c.version ≤ version_at setting done c.slot
now_le setting done c loaded = omega (arith, loaded.version)

rises_go_on : (setting : Setting) (writer : ℕ) → GoesOn setting writer (Rises setting)
rises_go_on setting writer = record {
  other = λ done mark rs o is e. (is.0, within_more setting done mark rs is.1, open_more setting done mark rs o is.2);
  filtered = λ done c rs is same loaded own no. rises-one setting done (Filtered c) rs c answer.Filtered is.0 is.1 (loaded_now setting done rs c is.1 loaded, now_le setting done c loaded);
  passed = λ done c rs is same loaded own yes.
      (is.0, within_more setting done (Passed c) rs is.1, open_more setting done (Passed c) rs (ToPush c) (loaded_now setting done rs c is.1 loaded, now_le setting done c loaded));
  queued = λ done c rs is same. rises-one setting done (Queued c) rs c answer.Queued is.0 is.1 is.2;
  refused = λ done c rs is same full before. (is.0, within_more setting done (Refused c) rs is.1, open_more setting done (Refused c) rs (ToCount c) is.2);
  counted = λ done c rs is same. rises-one setting done (Counted c) rs c answer.Lost is.0 is.1 is.2;
}

pub never_falling : (setting : Setting) (writer : ℕ) (marks : List Mark) → AreAll (Right setting) [] marks → NeverFall (records_of writer marks)
never_falling setting writer marks all = (writer_holds setting writer (Rises setting) (rises_go_on setting writer) marks (tt, tt, tt) all).0

-- ---- each call has its load

loaded_more : (setting : Setting) (done : List Mark) (mark : Mark) (c : Call) → IsLoadedIn setting done c → IsLoadedIn setting (done ++ mark ∷ []) c
loaded_more setting done mark c is = record {
  before = is.before;
  load = is.load;
  after = is.after ++ mark ∷ [];
  place = ap (λ (ms : List Mark). ms ++ mark ∷ []) is.place ∙ append_assoc is.before (is.load ∷ is.after) (mark ∷ []);
  first_step = is.first_step;
  of_call = is.of_call;
  version = is.version;
  held = is.held;
}

seen_more : (setting : Setting) (done : List Mark) (mark : Mark) (rs : List Record) → AllByRecursion (IsSeen setting done) rs → AllByRecursion (IsSeen setting (done ++ mark ∷ [])) rs
seen_more setting done mark rs =
    all_map (IsSeen setting done) (IsSeen setting (done ++ mark ∷ [])) (λ r is. record { call = is.call; is = is.is; loaded = loaded_more setting done mark is.call is.loaded }) rs

seen-one : (setting : Setting) (done : List Mark) (mark : Mark) (rs : List Record) (c : Call) (what : Answer) → AllByRecursion (IsSeen setting done) rs → IsLoadedIn setting (done ++ mark ∷ []) c →
    AllByRecursion (IsSeen setting (done ++ mark ∷ [])) (rs ++ recorded c what ∷ [])
seen-one setting done mark rs c what all loaded =
    all_both (IsSeen setting (done ++ mark ∷ [])) rs (recorded c what ∷ []) (seen_more setting done mark rs all) (record { call = c; is = refl; loaded = loaded }, tt)

load_here : (setting : Setting) (done : List Mark) (mark : Mark) (c : Call) → is_load mark ≡ true → call_of mark ≡ Some c → IsLoaded setting c done → IsLoadedIn setting (done ++ mark ∷ []) c
load_here setting done mark c load of_call loaded =
    record { before = done; load = mark; after = []; place = refl; first_step = load; of_call = of_call; version = loaded.version; held = loaded.held }

abbrev Sees : Setting → List Mark → List Record → Open → Type 0
Sees setting done rs o = AllByRecursion (IsSeen setting done) rs × IfOpen o (IsLoadedIn setting done)

open_seen : (setting : Setting) (done : List Mark) (mark : Mark) (o : Open) → IfOpen o (IsLoadedIn setting done) → IfOpen o (IsLoadedIn setting (done ++ mark ∷ []))
open_seen setting done mark Shut is = tt
open_seen setting done mark (ToPush c) is = loaded_more setting done mark c is
open_seen setting done mark (ToCount c) is = loaded_more setting done mark c is

sees_go_on : (setting : Setting) (writer : ℕ) → GoesOn setting writer (Sees setting)
sees_go_on setting writer = record {
  other = λ done mark rs o is e. (seen_more setting done mark rs is.0, open_seen setting done mark o is.1);
  filtered = λ done c rs is same loaded own no. (seen-one setting done (Filtered c) rs c answer.Filtered is.0 (load_here setting done (Filtered c) c refl refl loaded), tt);
  passed = λ done c rs is same loaded own yes. (seen_more setting done (Passed c) rs is.0, load_here setting done (Passed c) c refl refl loaded);
  queued = λ done c rs is same. (seen-one setting done (Queued c) rs c answer.Queued is.0 (loaded_more setting done (Queued c) c is.1), tt);
  refused = λ done c rs is same full before. (seen_more setting done (Refused c) rs is.0, loaded_more setting done (Refused c) c is.1);
  counted = λ done c rs is same. (seen-one setting done (Counted c) rs c answer.Lost is.0 (loaded_more setting done (Counted c) c is.1), tt);
}

pub seen_records : (setting : Setting) (writer : ℕ) (marks : List Mark) → AreAll (Right setting) [] marks → AllByRecursion (IsSeen setting marks) (records_of writer marks)
seen_records setting writer marks all = (writer_holds setting writer (Sees setting) (sees_go_on setting writer) marks (tt, tt) all).0

-- ---- a lost call met a full ring

abbrev lost_of : List Record → ℕ
lost_of rs = length (with_answer answer.Lost rs)

lost-one : (rs : List Record) (r : Record) → lost_of (rs ++ r ∷ []) ≡ lost_of rs + cond (is_answer answer.Lost r.answer) 1 0
lost-one rs r =
    ap length (filter-append (λ (x : Record). is_answer answer.Lost x.answer) rs (r ∷ [])) ∙ length-append (with_answer answer.Lost rs) (with_answer answer.Lost (r ∷ []))
    ∙ ap (λ (n : ℕ). lost_of rs + n) (by_test (is_answer answer.Lost r.answer)) where
      by_test : (b : Bool) → length (cond b (r ∷ []) []) ≡ cond b 1 0
      by_test true = refl
      by_test false = refl

abbrev refusal_due : Open → ℕ
refusal_due Shut = 0
refusal_due (ToPush c) = 0
refusal_due (ToCount c) = 1

abbrev Refuses : ℕ → List Mark → List Record → Open → Type 0
Refuses writer done rs o = lost_of rs + refusal_due o ≤ refusals_of done writer

refusals_grow : (writer : ℕ) (done : List Mark) (mark : Mark) → refusals_of (done ++ mark ∷ []) writer ≡ refusals_of done writer + cond (is_refusal_of writer mark) 1 0
refusals_grow writer done mark = omega (arith, count_by-append (is_refusal_of writer) done (mark ∷ []))

refuses_go_on : (setting : Setting) (writer : ℕ) → GoesOn setting writer (Refuses writer)
refuses_go_on setting writer = record {
  other = λ done mark rs o is e. omega (arith, is, refusals_grow writer done mark);
  filtered = λ done c rs is same loaded own no. omega (arith, is, refusals_grow writer done (Filtered c), lost-one rs (recorded c answer.Filtered));
  passed = λ done c rs is same loaded own yes. omega (arith, is, refusals_grow writer done (Passed c));
  queued = λ done c rs is same. omega (arith, is, refusals_grow writer done (Queued c), lost-one rs (recorded c answer.Queued));
  refused = λ done c rs is same full before.
      let one : refusals_of (done ++ Refused c ∷ []) writer ≡ refusals_of done writer + 1 = refusals_grow writer done (Refused c) ∙ ap (λ (b : Bool). refusals_of done writer + cond b 1 0) (own_step writer c same) in
      omega (arith, is, one);
  counted = λ done c rs is same. omega (arith, is, refusals_grow writer done (Counted c), lost-one rs (recorded c answer.Lost));
}

pub lost_refused : (setting : Setting) (writer : ℕ) (marks : List Mark) → AreAll (Right setting) [] marks → lost_of (records_of writer marks) ≤ refusals_of marks writer
lost_refused setting writer marks all =
    let is = writer_holds setting writer (Refuses writer) (refuses_go_on setting writer) marks (omega arith) all in
    omega (arith, is)
