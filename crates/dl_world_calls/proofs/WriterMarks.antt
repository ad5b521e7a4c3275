-- One writer after one mark more.
use Rattle.std.proofs.Common.{◌≡◌, ℕ, ◌+◌, ◌%◌, Bool, true, false, cond, eqb, List, [], ◌∷◌, ◌++◌, length, length-append, Option, Some, None, refl, ap, subst, ◌∙◌, arith}
use Rattle.std.specs.Prelude.{count_by, reverse}
use Rattle.std.specs.List.{filter, filter_map}
use Rattle.std.specs.Option.{option_and_then}
use Rattle.std.proofs.lemmas.List.{append-nil}
use Rattle.std.proofs.lemmas.List.Elements.{filter-append, filter_map-append}
use Rattle.dl_events.specs.declared.record.Record.{Record}
use Rattle.dl_events.specs.declared.record.Answer.TheVariants as answers
use Rattle.dl_model.specs.Along.{last_that}
use Rattle.dl_script_model.specs.Marks.{Call, Mark, Filtered, Passed, Queued, Refused, Counted, recorded, record_of, records_of, is_step_of, is_load, is_passed, calls_of, passed_of, passed, refused, to_push, to_count}
use Rattle.dl_model.proofs.Lists.{last_that-one, count_by-append, find-passes}
use Rattle.dl_runs.proofs.Founded.{last_step, passed_is, refused_is}
use Rattle.dl_world_calls.specs.State.{Writer}
use Rattle.dl_world_calls.specs.Follows.{IsWriterAfter}

-- ---- words of a writer's marks, with one mark more

count-one : (p : Mark → Bool) (number : ℕ) (done : List Mark) (mark : Mark) →
    count_by p (filter (is_step_of number) (done ++ mark ∷ [])) ≡ count_by p (filter (is_step_of number) done) + count_by p (filter (is_step_of number) (mark ∷ []))
count-one p number done mark = ap (count_by p) (filter-append (is_step_of number) done (mark ∷ [])) ∙ count_by-append p (filter (is_step_of number) done) (filter (is_step_of number) (mark ∷ []))

step-one : (f : Mark → Option Call) (number : ℕ) (done : List Mark) (mark : Mark) →
    option_and_then f (last_that (is_step_of number) (done ++ mark ∷ [])) ≡ option_and_then f (cond (is_step_of number mark) (Some mark) (last_that (is_step_of number) done))
step-one f number done mark = ap (option_and_then f) (last_that-one (is_step_of number) done mark)

records-one : (number : ℕ) (done : List Mark) (mark : Mark) →
    records_of number (done ++ mark ∷ []) ≡ records_of number done ++ filter (λ (r : Record). eqb r.item.writer number) (filter_map record_of (mark ∷ []))
records-one number done mark =
    ap (filter (λ (r : Record). eqb r.item.writer number)) (filter_map-append record_of done (mark ∷ []))
    ∙ filter-append (λ (r : Record). eqb r.item.writer number) (filter_map record_of done) (filter_map record_of (mark ∷ []))

-- ---- a mark that is no step of the writer

no_record : (number : ℕ) (mark : Mark) → is_step_of number mark ≡ false → filter (λ (r : Record). eqb r.item.writer number) (filter_map record_of (mark ∷ [])) ≡ []
no_record number (Filtered c) e = rw e refl
no_record number (Queued c) e = rw e refl
no_record number (Counted c) e = rw e refl
no_record number _ e = refl

pub stays : (done : List Mark) (number : ℕ) (writer : Writer) (mark : Mark) → is_step_of number mark ≡ false → IsWriterAfter done number writer → IsWriterAfter (done ++ mark ∷ []) number writer
stays done number writer mark e is = record {
  begun = count-one is_load number done mark ∙ rw e (omega (arith, is.begun));
  counter =
      let same : passed_of number (done ++ mark ∷ []) ≡ passed_of number done = count-one is_passed number done mark ∙ rw e (omega arith) in
      ap (λ n. n % 256) same ∙ is.counter;
  push_is = step-one passed number done mark ∙ rw e is.push_is;
  count_is = step-one refused number done mark ∙ rw e is.count_is;
  records_are = records-one number done mark ∙ rw (no_record number mark e, append-nil (records_of number done)) is.records_are;
}

-- ---- the steps of its calls

pub filters : (done : List Mark) (number : ℕ) (writer : Writer) (c : Call) → eqb c.item.writer number ≡ true → writer.to_push ≡ None → writer.to_count ≡ None → IsWriterAfter done number writer
    → IsWriterAfter (done ++ Filtered c ∷ []) number (record writer { records = writer.records ++ recorded c answers.Filtered ∷ [] })
filters done number writer c e no_push no_count is = record {
  begun =
      let before : calls_of number done ≡ length writer.records + 0 = is.begun ∙ rw (no_push, no_count) refl in
      count-one is_load number done (Filtered c) ∙ rw (e, no_push, no_count) (omega (arith, before, length-append writer.records (recorded c answers.Filtered ∷ [])));
  counter =
      let same : passed_of number (done ++ Filtered c ∷ []) ≡ passed_of number done = count-one is_passed number done (Filtered c) ∙ rw e (omega arith) in
      ap (λ n. n % 256) same ∙ is.counter;
  push_is = step-one passed number done (Filtered c) ∙ rw (e, no_push) refl;
  count_is = step-one refused number done (Filtered c) ∙ rw (e, no_count) refl;
  records_are = records-one number done (Filtered c) ∙ rw (e, is.records_are) refl;
}

pub passes_on : (done : List Mark) (number : ℕ) (writer : Writer) (c : Call) → eqb c.item.writer number ≡ true → writer.to_push ≡ None → writer.to_count ≡ None → IsWriterAfter done number writer
    → IsWriterAfter (done ++ Passed c ∷ []) number (record writer { passed = (writer.passed + 1) % 256; to_push = Some c; to_count = None })
passes_on done number writer c e no_push no_count is = record {
  begun =
      let before : calls_of number done ≡ length writer.records + 0 = is.begun ∙ rw (no_push, no_count) refl in
      count-one is_load number done (Passed c) ∙ rw e (omega (arith, before));
  counter =
      let more : passed_of number (done ++ Passed c ∷ []) ≡ passed_of number done + 1 = count-one is_passed number done (Passed c) ∙ rw e (omega arith) in
      omega (arith, more, is.counter);
  push_is = step-one passed number done (Passed c) ∙ rw e refl;
  count_is = step-one refused number done (Passed c) ∙ rw e refl;
  records_are = records-one number done (Passed c) ∙ append-nil (records_of number done) ∙ is.records_are;
}

-- the call that is to be pushed, or counted, is one of this writer
pub own_push : (done : List Mark) (number : ℕ) (c : Call) → to_push number done ≡ Some c → eqb c.item.writer number ≡ true
own_push done number c e =
    let last = last_step passed (last_that (is_step_of number) done) c e in
    subst (λ mark. is_step_of number mark ≡ true) (passed_is last.0 c last.2) (find-passes (is_step_of number) (reverse done) last.0 last.1)

pub own_count : (done : List Mark) (number : ℕ) (c : Call) → to_count number done ≡ Some c → eqb c.item.writer number ≡ true
own_count done number c e =
    let last = last_step refused (last_that (is_step_of number) done) c e in
    subst (λ mark. is_step_of number mark ≡ true) (refused_is last.0 c last.2) (find-passes (is_step_of number) (reverse done) last.0 last.1)

-- a call that is to be counted is no longer to be pushed
pub one_stage : (done : List Mark) (number : ℕ) (c : Call) → to_count number done ≡ Some c → to_push number done ≡ None
one_stage done number c e =
    let last = last_step refused (last_that (is_step_of number) done) c e in
    let is : last_that (is_step_of number) done ≡ Some (Refused c) = last.1 ∙ ap Some (refused_is last.0 c last.2) in
    ap (option_and_then passed) is

pub queues : (done : List Mark) (number : ℕ) (writer : Writer) (c : Call) → eqb c.item.writer number ≡ true → writer.to_push ≡ Some c → IsWriterAfter done number writer
    → IsWriterAfter (done ++ Queued c ∷ []) number (record writer { to_push = None; to_count = None; records = writer.records ++ recorded c answers.Queued ∷ [] })
queues done number writer c e push is = record {
  begun =
      let before : calls_of number done ≡ length writer.records + 1 = is.begun ∙ rw push refl in
      count-one is_load number done (Queued c) ∙ rw e (omega (arith, before, length-append writer.records (recorded c answers.Queued ∷ [])));
  counter =
      let same : passed_of number (done ++ Queued c ∷ []) ≡ passed_of number done = count-one is_passed number done (Queued c) ∙ rw e (omega arith) in
      ap (λ n. n % 256) same ∙ is.counter;
  push_is = step-one passed number done (Queued c) ∙ rw e refl;
  count_is = step-one refused number done (Queued c) ∙ rw e refl;
  records_are = records-one number done (Queued c) ∙ rw (e, is.records_are) refl;
}

pub refuses : (done : List Mark) (number : ℕ) (writer : Writer) (c : Call) → eqb c.item.writer number ≡ true → writer.to_push ≡ Some c → IsWriterAfter done number writer
    → IsWriterAfter (done ++ Refused c ∷ []) number (record writer { to_push = None; to_count = Some c })
refuses done number writer c e push is = record {
  begun =
      let before : calls_of number done ≡ length writer.records + 1 = is.begun ∙ rw push refl in
      count-one is_load number done (Refused c) ∙ rw e (omega (arith, before));
  counter =
      let same : passed_of number (done ++ Refused c ∷ []) ≡ passed_of number done = count-one is_passed number done (Refused c) ∙ rw e (omega arith) in
      ap (λ n. n % 256) same ∙ is.counter;
  push_is = step-one passed number done (Refused c) ∙ rw e refl;
  count_is = step-one refused number done (Refused c) ∙ rw e refl;
  records_are = records-one number done (Refused c) ∙ append-nil (records_of number done) ∙ is.records_are;
}

pub counts : (done : List Mark) (number : ℕ) (writer : Writer) (c : Call) → eqb c.item.writer number ≡ true → writer.to_push ≡ None → writer.to_count ≡ Some c → IsWriterAfter done number writer
    → IsWriterAfter (done ++ Counted c ∷ []) number (record writer { to_push = None; to_count = None; records = writer.records ++ recorded c answers.Lost ∷ [] })
counts done number writer c e no_push count is = record {
  begun =
      let before : calls_of number done ≡ length writer.records + 1 = is.begun ∙ rw (no_push, count) refl in
      count-one is_load number done (Counted c) ∙ rw e (omega (arith, before, length-append writer.records (recorded c answers.Lost ∷ [])));
  counter =
      let same : passed_of number (done ++ Counted c ∷ []) ≡ passed_of number done = count-one is_passed number done (Counted c) ∙ rw e (omega arith) in
      ap (λ n. n % 256) same ∙ is.counter;
  push_is = step-one passed number done (Counted c) ∙ rw e refl;
  count_is = step-one refused number done (Counted c) ∙ rw e refl;
  records_are = records-one number done (Counted c) ∙ rw (e, is.records_are) refl;
}
