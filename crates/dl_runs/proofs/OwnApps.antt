-- A writer belongs to one application: so do all its calls.
use Rattle.std.proofs.Common.{◌≡◌, ℕ, ◌+◌, ◌-◌, ◌<◌, ◌≤◌, Bool, true, false, cond, eqb, ltb, List, [], ◌∷◌, ◌++◌, length, Some, None, sym, ap, subst, ◌∙◌, arith, inl, inr}
use Rattle.std.specs.Prelude.{slice_get, position, not, ◌⊎◌}
use Rattle.std.specs.List.{filter_map, prefix_len, AllByRecursion}
use Rattle.std.specs.Str.{bytes_eq}
use Rattle.std.proofs.lemmas.Bool.{eq-eqb, ltb-true, ne_eqb, cases_eq}
use Rattle.std.proofs.lemmas.List.Elements.{filter_map-append}
use Rattle.std.proofs.lemmas.Option.{slice_get_within}
use Rattle.dl_lemmas.proofs.Lists.{all_both, all_map, get_more, position-more}
use Rattle.dl_lemmas.proofs.Options.{place_is}
use Rattle.dl_bytes.specs.declared.item.Item.{Item}
use Rattle.dl_events.specs.declared.record.Record.{Record}
use Rattle.dl_events.specs.declared.record.Answer.TheVariants as answer
use Rattle.dl_script_model.specs.declared.line.AppLine.{AppLine}
use Rattle.dl_model.specs.Along.{last_that}
use Rattle.dl_model.specs.Setting.{Setting}
use Rattle.dl_script_model.specs.Marks.{Call, Mark, Filtered, Passed, Queued, Refused, Counted, app_of, apps, writer_of, writers, app_of_writer, number_of, recorded, records_of, is_step_of}
use Rattle.dl_runs.proofs.Relations.{AreAll}
use Rattle.dl_runs.proofs.WriterRuns.{Open, Shut, ToPush, ToCount, open_of, IfOpen, IsOwn, Right, GoesOn, writer_holds}

-- ---- what was declared stays

pub position-within : {A : Type 0} (p : A → Bool) (xs : List A) (n : ℕ) → position p xs ≡ Some n → n < length xs
position-within {A = A} p xs n e =
    let q = λ (x : A). not (p x) in
    let is = place_is (ltb (prefix_len q xs) (length xs)) (prefix_len q xs) n e in
    let lt : prefix_len q xs < length xs = ltb-true (prefix_len q xs) (length xs) is.0 in
    omega (arith, lt, is.1)

pub number-within : (done : List Mark) (apid : List ℕ) (n : ℕ) → number_of apid done ≡ Some n → n < length (apps done)
number-within done apid n e = position-within (λ (app : AppLine). bytes_eq app.apid apid) (apps done) n e

pub number_more : (done : List Mark) (mark : Mark) (apid : List ℕ) (n : ℕ) → number_of apid done ≡ Some n → number_of apid (done ++ mark ∷ []) ≡ Some n
number_more done mark apid n e =
    let p = λ (app : AppLine). bytes_eq app.apid apid in
    ap (position p) (filter_map-append app_of done (mark ∷ [])) ∙ position-more p (apps done) (filter_map app_of (mark ∷ [])) n e

pub writer_more : (done : List Mark) (mark : Mark) (writer : ℕ) (apid : List ℕ) → app_of_writer writer done ≡ Some apid → app_of_writer writer (done ++ mark ∷ []) ≡ Some apid
writer_more done mark writer apid e = by_test (eqb writer 0) e where
  by_test : (b : Bool) → cond b None (slice_get (writers done) (writer - 1)) ≡ Some apid → cond b None (slice_get (writers (done ++ mark ∷ [])) (writer - 1)) ≡ Some apid
  by_test true e = absurd cc
  by_test false e =
      ap (λ (ws : List (List ℕ)). slice_get ws (writer - 1)) (filter_map-append writer_of done (mark ∷ []))
      ∙ get_more (writers done) (filter_map writer_of (mark ∷ [])) (writer - 1) apid e

-- a writer that has an application is one of those that were declared
pub in_range : (marks : List Mark) (writer : ℕ) (apid : List ℕ) → app_of_writer writer marks ≡ Some apid → (1 ≤ writer) × (writer < 1 + length (writers marks))
in_range marks writer apid e = by_zero (cases_eq writer 0) where
  by_zero : (writer ≡ 0) ⊎ (writer ≡ 0 → ⊥) → (1 ≤ writer) × (writer < 1 + length (writers marks))
  by_zero (inl same) =
      let none : app_of_writer writer marks ≡ None = ap (λ (b : Bool). cond b None (slice_get (writers marks) (writer - 1))) (eq-eqb writer 0 same) in
      absurd cc
  by_zero (inr apart) =
      let there : slice_get (writers marks) (writer - 1) ≡ Some apid = sym (ap (λ (b : Bool). cond b None (slice_get (writers marks) (writer - 1))) (ne_eqb writer 0 apart)) ∙ e in
      let lt = slice_get_within (writers marks) (writer - 1) apid there in
      (omega (arith, apart), omega (arith, apart, lt))

-- ---- each call is of its writer's application

-- an item is of this writer, and of the application that the writer belongs to
pub record IsOwnItem (writer : ℕ) (done : List Mark) (item : Item) : Type 0 where
  pub apid : List ℕ
  pub of_writer : app_of_writer writer done ≡ Some apid
  pub number : number_of apid done ≡ Some item.app
  pub writer_is : item.writer ≡ writer

item_more : (writer : ℕ) (done : List Mark) (mark : Mark) (item : Item) → IsOwnItem writer done item → IsOwnItem writer (done ++ mark ∷ []) item
item_more writer done mark item is = record {
  apid = is.apid;
  of_writer = writer_more done mark writer is.apid is.of_writer;
  number = number_more done mark is.apid item.app is.number;
  writer_is = is.writer_is;
}

own_item : (writer : ℕ) (done : List Mark) (mark : Mark) (c : Call) → c.item.writer ≡ writer → IsOwn c done → IsOwnItem writer (done ++ mark ∷ []) c.item
own_item writer done mark c same own =
    item_more writer done mark c.item (record { apid = own.apid; of_writer = subst (λ w. app_of_writer w done ≡ Some own.apid) same own.of_writer; number = own.number; writer_is = same })

abbrev Owns : ℕ → List Mark → List Record → Open → Type 0
Owns writer done rs o = AllByRecursion (λ r. IsOwnItem writer done r.item) rs × IfOpen o (λ c. IsOwnItem writer done c.item)

records_more : (writer : ℕ) (done : List Mark) (mark : Mark) (rs : List Record) → AllByRecursion (λ r. IsOwnItem writer done r.item) rs → AllByRecursion (λ r. IsOwnItem writer (done ++ mark ∷ []) r.item) rs
records_more writer done mark rs = all_map (λ (r : Record). IsOwnItem writer done r.item) (λ (r : Record). IsOwnItem writer (done ++ mark ∷ []) r.item) (λ r is. item_more writer done mark r.item is) rs

record-one : (writer : ℕ) (done : List Mark) (mark : Mark) (rs : List Record) (r : Record) → AllByRecursion (λ r. IsOwnItem writer done r.item) rs → IsOwnItem writer (done ++ mark ∷ []) r.item →
    AllByRecursion (λ r. IsOwnItem writer (done ++ mark ∷ []) r.item) (rs ++ r ∷ [])
record-one writer done mark rs r all one = all_both (λ (r : Record). IsOwnItem writer (done ++ mark ∷ []) r.item) rs (r ∷ []) (records_more writer done mark rs all) (one, tt)

open_own : (writer : ℕ) (done : List Mark) (mark : Mark) (o : Open) → IfOpen o (λ c. IsOwnItem writer done c.item) → IfOpen o (λ c. IsOwnItem writer (done ++ mark ∷ []) c.item)
open_own writer done mark Shut is = tt
open_own writer done mark (ToPush c) is = item_more writer done mark c.item is
open_own writer done mark (ToCount c) is = item_more writer done mark c.item is

owns_go_on : (setting : Setting) (writer : ℕ) → GoesOn setting writer (Owns writer)
owns_go_on setting writer = record {
  other = λ done mark rs o is e. (records_more writer done mark rs is.0, open_own writer done mark o is.1);
  filtered = λ done c rs is same loaded own no. (record-one writer done (Filtered c) rs (recorded c answer.Filtered) is.0 (own_item writer done (Filtered c) c same own), tt);
  passed = λ done c rs is same loaded own yes. (records_more writer done (Passed c) rs is.0, own_item writer done (Passed c) c same own);
  queued = λ done c rs is same. (record-one writer done (Queued c) rs (recorded c answer.Queued) is.0 (item_more writer done (Queued c) c.item is.1), tt);
  refused = λ done c rs is same full before. (records_more writer done (Refused c) rs is.0, item_more writer done (Refused c) c.item is.1);
  counted = λ done c rs is same. (record-one writer done (Counted c) rs (recorded c answer.Lost) is.0 (item_more writer done (Counted c) c.item is.1), tt);
}

pub own_records : (setting : Setting) (writer : ℕ) (marks : List Mark) → AreAll (Right setting) [] marks → AllByRecursion (λ r. IsOwnItem writer marks r.item) (records_of writer marks)
own_records setting writer marks all = (writer_holds setting writer (Owns writer) (owns_go_on setting writer) marks (tt, tt) all).0

-- and so is a call that is open
pub own_open : (setting : Setting) (writer : ℕ) (marks : List Mark) → AreAll (Right setting) [] marks → IfOpen (open_of (last_that (is_step_of writer) marks)) (λ c. IsOwnItem writer marks c.item)
own_open setting writer marks all = (writer_holds setting writer (Owns writer) (owns_go_on setting writer) marks (tt, tt) all).1
