-- The calls of a writer are numbered from 1, and none is missing.
use Rattle.std.proofs.Common.{◌≡◌, ℕ, ◌+◌, Bool, true, false, cond, eqb, List, [], ◌∷◌, ◌++◌, Option, Some, None, refl, sym, ap, subst, ◌∙◌, arith}
use Rattle.std.specs.Prelude.{count_by, map}
use Rattle.std.specs.List.{filter, filter_map, range_with_len}
use Rattle.std.specs.Option.{option_and_then}
use Rattle.std.proofs.lemmas.List.{append-nil, map-append}
use Rattle.std.proofs.lemmas.List.Elements.{filter-append, filter_map-append}
use Rattle.std.proofs.lemmas.Bool.{eqb-true}
use Rattle.dl_lemmas.proofs.Lists.{range-one}
use Rattle.dl_events.specs.declared.record.Record.{Record}
use Rattle.dl_events.specs.declared.record.Answer.TheVariants as answer
use Rattle.dl_model.specs.Along.{last_that}
use Rattle.dl_model.specs.Setting.{Setting}
use Rattle.dl_script_model.specs.Marks.{Call, Mark, Filtered, Passed, Queued, Refused, Counted, record_of, records_of, recorded, is_step_of, is_load, calls_of, passed, refused, to_push, to_count, opened_call}
use Rattle.dl_script_model.specs.Runs.{RestsOn, AreFounded}
use Rattle.dl_model.proofs.Lists.{last_that-one, count_by-append}
use Rattle.dl_runs.proofs.Founded.{passed_is, refused_is, last_step}
use Rattle.dl_runs.proofs.RunLaws.{holds_after}

abbrev open_numbers : Option Mark → List ℕ
open_numbers o = map (λ (c : Call). c.item.call) (opened_call o)

open_none : (o : Option Mark) → option_and_then passed o ≡ None → option_and_then refused o ≡ None → open_numbers o ≡ []
open_none None a b = refl
open_none (Some (Passed c)) a b = absurd cc
open_none (Some (Refused c)) a b = absurd cc
open_none (Some _) a b = refl

open_push : (o : Option Mark) (c : Call) → option_and_then passed o ≡ Some c → open_numbers o ≡ c.item.call ∷ []
open_push o c e =
    let last = last_step passed o c e in
    ap open_numbers (last.1 ∙ ap Some (passed_is last.0 c last.2))

open_count : (o : Option Mark) (c : Call) → option_and_then refused o ≡ Some c → open_numbers o ≡ c.item.call ∷ []
open_count o c e =
    let last = last_step refused o c e in
    ap open_numbers (last.1 ∙ ap Some (refused_is last.0 c last.2))

abbrev numbers : List Record → List ℕ
numbers records = map (λ (r : Record). r.item.call) records

abbrev Numbered : ℕ → List Record → Option Mark → ℕ → Type 0
Numbered writer records last calls = numbers records ++ open_numbers last ≡ range_with_len 1 calls

-- a mark that is no step of the writer's calls
passes_by : (records : List Record) (last : Option Mark) (calls writer : ℕ) → Numbered writer records last calls → Numbered writer (records ++ []) last (calls + 0)
passes_by records last calls writer is =
    let same : calls ≡ calls + 0 = omega arith in
    ap (λ rs. numbers rs ++ open_numbers last) (append-nil records) ∙ is ∙ ap (range_with_len 1) same

-- a call more that is begun: at once a record, or open
begun : (records : List Record) (calls number : ℕ) (last : Option Mark) → open_numbers last ≡ [] → numbers records ++ open_numbers last ≡ range_with_len 1 calls → number ≡ 1 + calls →
    numbers records ++ number ∷ [] ≡ range_with_len 1 (calls + (0 + 1))
begun records calls number last shut is next =
    let all : numbers records ≡ range_with_len 1 calls = sym (append-nil (numbers records)) ∙ ap (λ (xs : List ℕ). numbers records ++ xs) (sym shut) ∙ is in
    let count : calls + 1 ≡ calls + (0 + 1) = omega arith in
    ap (λ (xs : List ℕ). xs ++ number ∷ []) all ∙ ap (λ (x : ℕ). range_with_len 1 calls ++ x ∷ []) next ∙ sym (range-one 1 calls) ∙ ap (range_with_len 1) count

-- a call that was open is a record, or is still open
ended : (records : List Record) (calls number : ℕ) (last : Option Mark) → open_numbers last ≡ number ∷ [] → numbers records ++ open_numbers last ≡ range_with_len 1 calls →
    numbers records ++ number ∷ [] ≡ range_with_len 1 (calls + 0)
ended records calls number last there is =
    let count : calls ≡ calls + 0 = omega arith in
    ap (λ (xs : List ℕ). numbers records ++ xs) (sym there) ∙ is ∙ ap (range_with_len 1) count

as_record : (records : List Record) (r : Record) → numbers (records ++ r ∷ []) ++ [] ≡ numbers records ++ r.item.call ∷ []
as_record records r = append-nil (numbers (records ++ r ∷ [])) ∙ map-append (λ (r : Record). r.item.call) records (r ∷ [])

as_open : (records : List Record) (number : ℕ) → numbers (records ++ []) ++ number ∷ [] ≡ numbers records ++ number ∷ []
as_open records number = ap (λ rs. numbers rs ++ number ∷ []) (append-nil records)

-- what a mark adds to the records of a writer, and to the number of its calls
abbrev records_in : ℕ → Mark → List Record
records_in writer mark = filter (λ (r : Record). eqb r.item.writer writer) (filter_map record_of (mark ∷ []))

abbrev loads_in : ℕ → Mark → ℕ
loads_in writer mark = count_by is_load (filter (is_step_of writer) (mark ∷ []))

numbered_by : (setting : Setting) (writer : ℕ) (done : List Mark) (mark : Mark) → RestsOn setting done mark →
    Numbered writer (records_of writer done) (last_that (is_step_of writer) done) (calls_of writer done) →
    Numbered writer (records_of writer done ++ records_in writer mark) (cond (is_step_of writer mark) (Some mark) (last_that (is_step_of writer) done)) (calls_of writer done + loads_in writer mark)
numbered_by setting writer done (Filtered c) rests is = by_test (eqb c.item.writer writer) refl where
  by_test : (b : Bool) → eqb c.item.writer writer ≡ b →
      Numbered writer (records_of writer done ++ cond b (recorded c answer.Filtered ∷ []) []) (cond b (Some (Filtered c)) (last_that (is_step_of writer) done)) (calls_of writer done + count_by is_load (cond b (Filtered c ∷ []) []))
  by_test true e =
      let same = eqb-true c.item.writer writer e in
      let shut = open_none (last_that (is_step_of writer) done) (subst (λ w. to_push w done ≡ None) same rests.0.none_to_push) (subst (λ w. to_count w done ≡ None) same rests.0.none_to_count) in
      as_record (records_of writer done) (recorded c answer.Filtered)
      ∙ begun (records_of writer done) (calls_of writer done) c.item.call (last_that (is_step_of writer) done) shut is (subst (λ w. c.item.call ≡ 1 + calls_of w done) same rests.0.number)
  by_test false e = passes_by (records_of writer done) (last_that (is_step_of writer) done) (calls_of writer done) writer is
numbered_by setting writer done (Passed c) rests is = by_test (eqb c.item.writer writer) refl where
  by_test : (b : Bool) → eqb c.item.writer writer ≡ b →
      Numbered writer (records_of writer done ++ []) (cond b (Some (Passed c)) (last_that (is_step_of writer) done)) (calls_of writer done + count_by is_load (cond b (Passed c ∷ []) []))
  by_test true e =
      let same = eqb-true c.item.writer writer e in
      let shut = open_none (last_that (is_step_of writer) done) (subst (λ w. to_push w done ≡ None) same rests.0.none_to_push) (subst (λ w. to_count w done ≡ None) same rests.0.none_to_count) in
      as_open (records_of writer done) c.item.call
      ∙ begun (records_of writer done) (calls_of writer done) c.item.call (last_that (is_step_of writer) done) shut is (subst (λ w. c.item.call ≡ 1 + calls_of w done) same rests.0.number)
  by_test false e = passes_by (records_of writer done) (last_that (is_step_of writer) done) (calls_of writer done) writer is
numbered_by setting writer done (Queued c) rests is = by_test (eqb c.item.writer writer) refl where
  by_test : (b : Bool) → eqb c.item.writer writer ≡ b →
      Numbered writer (records_of writer done ++ cond b (recorded c answer.Queued ∷ []) []) (cond b (Some (Queued c)) (last_that (is_step_of writer) done)) (calls_of writer done + count_by is_load (cond b (Queued c ∷ []) []))
  by_test true e =
      let same = eqb-true c.item.writer writer e in
      let there = open_push (last_that (is_step_of writer) done) c (subst (λ w. to_push w done ≡ Some c) same rests.0) in
      as_record (records_of writer done) (recorded c answer.Queued) ∙ ended (records_of writer done) (calls_of writer done) c.item.call (last_that (is_step_of writer) done) there is
  by_test false e = passes_by (records_of writer done) (last_that (is_step_of writer) done) (calls_of writer done) writer is
numbered_by setting writer done (Refused c) rests is = by_test (eqb c.item.writer writer) refl where
  by_test : (b : Bool) → eqb c.item.writer writer ≡ b →
      Numbered writer (records_of writer done ++ []) (cond b (Some (Refused c)) (last_that (is_step_of writer) done)) (calls_of writer done + count_by is_load (cond b (Refused c ∷ []) []))
  by_test true e =
      let same = eqb-true c.item.writer writer e in
      let there = open_push (last_that (is_step_of writer) done) c (subst (λ w. to_push w done ≡ Some c) same rests.0) in
      as_open (records_of writer done) c.item.call ∙ ended (records_of writer done) (calls_of writer done) c.item.call (last_that (is_step_of writer) done) there is
  by_test false e = passes_by (records_of writer done) (last_that (is_step_of writer) done) (calls_of writer done) writer is
numbered_by setting writer done (Counted c) rests is = by_test (eqb c.item.writer writer) refl where
  by_test : (b : Bool) → eqb c.item.writer writer ≡ b →
      Numbered writer (records_of writer done ++ cond b (recorded c answer.Lost ∷ []) []) (cond b (Some (Counted c)) (last_that (is_step_of writer) done)) (calls_of writer done + count_by is_load (cond b (Counted c ∷ []) []))
  by_test true e =
      let same = eqb-true c.item.writer writer e in
      let there = open_count (last_that (is_step_of writer) done) c (subst (λ w. to_count w done ≡ Some c) same rests) in
      as_record (records_of writer done) (recorded c answer.Lost) ∙ ended (records_of writer done) (calls_of writer done) c.item.call (last_that (is_step_of writer) done) there is
  by_test false e = passes_by (records_of writer done) (last_that (is_step_of writer) done) (calls_of writer done) writer is
numbered_by setting writer done _ rests is = passes_by (records_of writer done) (last_that (is_step_of writer) done) (calls_of writer done) writer is

abbrev AllNumbered : List Mark → Type 0
AllNumbered done = (writer : ℕ) → Numbered writer (records_of writer done) (last_that (is_step_of writer) done) (calls_of writer done)

numbered_goes_on : (setting : Setting) (done : List Mark) (mark : Mark) → AllNumbered done → RestsOn setting done mark → AllNumbered (done ++ mark ∷ [])
numbered_goes_on setting done mark all rests writer =
    let p = λ (r : Record). eqb r.item.writer writer in
    let records : records_of writer (done ++ mark ∷ []) ≡ records_of writer done ++ records_in writer mark =
    ap (filter p) (filter_map-append record_of done (mark ∷ [])) ∙ filter-append p (filter_map record_of done) (filter_map record_of (mark ∷ [])) in
    let calls : calls_of writer (done ++ mark ∷ []) ≡ calls_of writer done + loads_in writer mark =
    ap (count_by is_load) (filter-append (is_step_of writer) done (mark ∷ [])) ∙ count_by-append is_load (filter (is_step_of writer) done) (filter (is_step_of writer) (mark ∷ [])) in
    let last = last_that-one (is_step_of writer) done mark in
    ap (λ rs. numbers rs ++ open_numbers (last_that (is_step_of writer) (done ++ mark ∷ []))) records
    ∙ ap (λ o. numbers (records_of writer done ++ records_in writer mark) ++ open_numbers o) last
    ∙ numbered_by setting writer done mark rests (all writer) ∙ ap (range_with_len 1) (sym calls)

pub calls_numbered : (setting : Setting) (marks : List Mark) → AreFounded setting [] marks → (writer : ℕ) →
    map (λ (r : Record). r.item.call) (records_of writer marks) ++ map (λ (c : Call). c.item.call) (opened_call (last_that (is_step_of writer) marks)) ≡ range_with_len 1 (calls_of writer marks)
calls_numbered setting marks founded = holds_after setting AllNumbered (numbered_goes_on setting) [] marks (λ writer. refl) founded
