-- At the end of a run no call is open.
use Rattle.std.proofs.Common.{◌≡◌, ℕ, zero, suc, ◌+◌, ◌<◌, ◌≤◌, Bool, true, false, cond, List, [], ◌∷◌, ◌++◌, length, Option, Some, None, refl, sym, ap, subst, ◌∙◌, append_assoc, arith, inl, inr}
use Rattle.std.specs.Prelude.{map, ◌⊎◌}
use Rattle.std.specs.List.{range_with_len}
use Rattle.std.specs.Option.{option_and_then}
use Rattle.std.proofs.lemmas.Bool.{eq-eqb, ne_eqb, cases_eq}
use Rattle.std.proofs.lemmas.List.{append-nil, length-map}
use Rattle.dl_bytes.specs.declared.outcome.Done.{Done}
use Rattle.dl_events.specs.declared.record.Record.{Record}
use Rattle.dl_script_model.specs.declared.step.Step.{Step}
use Rattle.dl_model.specs.Along.{last_that}
use Rattle.dl_model.specs.Setting.{Setting}
use Rattle.dl_script_model.specs.Marks.{Call, Mark, Passed, Queued, Refused, Counted, Noted, is_step_of, passed, refused, to_push, to_count, is_full, writers, opened_call, calls_of, records_of}
use Rattle.dl_script_model.specs.Steps.{in_sequence, for_some, just, push, count, finish, run}
use Rattle.dl_model.proofs.Lists.{last_that-one}
use Rattle.dl_runs.proofs.Founded.{run_founded, pushes_own, counts_own, pushed}
use Rattle.dl_runs.proofs.RunCalls.{calls_numbered}
use Rattle.dl_runs.proofs.Relations.{AreAll}
use Rattle.dl_runs.proofs.Turns.{drains}
use Rattle.dl_runs.proofs.WriterRuns.{Open, Shut, ToPush, ToCount, open_of, IfOpen, Right}
use Rattle.dl_runs.proofs.OwnApps.{IsOwnItem, own_open, in_range}
use Rattle.dl_runs.proofs.RightRuns.{lines_right}
use Rattle.dl_runs.proofs.AccountRuns.{range_length}
use Rattle.dl_runs.proofs.Drained.{IsNoted, lines, finished, drained, after, whole_is, noted_after, drains_noted}

-- no call of the writer is open
pub record AtRest (writer : ℕ) (done : List Mark) : Type 0 where
  pub to_push_none : to_push writer done ≡ None
  pub to_count_none : to_count writer done ≡ None

-- ---- one writer is finished

step_one : (writer : ℕ) (done : List Mark) (mark : Mark) (b : Bool) → is_step_of writer mark ≡ b → last_that (is_step_of writer) (done ++ mark ∷ []) ≡ cond b (Some mark) (last_that (is_step_of writer) done)
step_one writer done mark b is = last_that-one (is_step_of writer) done mark ∙ ap (λ (t : Bool). cond t (Some mark) (last_that (is_step_of writer) done)) is

counted : (writer : ℕ) (done : List Mark) → to_push writer done ≡ None → AtRest writer (done ++ count writer done)
counted writer done no_push = by_call (to_count writer done) refl where
  by_call : (o : Option Call) → to_count writer done ≡ o → AtRest writer (done ++ for_some o (λ c. just (Counted c)) done)
  by_call None e = record { to_push_none = ap (to_push writer) (append-nil done) ∙ no_push; to_count_none = ap (to_count writer) (append-nil done) ∙ e }
  by_call (Some c) e =
      let last = step_one writer done (Counted c) true (eq-eqb c.item.writer writer (counts_own writer done c e)) in
      record { to_push_none = ap (option_and_then passed) last; to_count_none = ap (option_and_then refused) last }

finish_is : (writer : ℕ) (done : List Mark) → done ++ finish writer done ≡ (done ++ push writer done) ++ count writer (done ++ push writer done)
finish_is writer done =
    let now = done ++ push writer done in
    ap (λ (ms : List Mark). done ++ (push writer done ++ ms)) (append-nil (count writer now)) ∙ sym (append_assoc done (push writer done) (count writer now))

finished_one : (writer : ℕ) (done : List Mark) → AtRest writer (done ++ finish writer done)
finished_one writer done = subst (AtRest writer) (sym (finish_is writer done)) (counted writer (done ++ push writer done) (pushed writer done))

-- ---- and stays so while others are

other_step : (writer : ℕ) (done : List Mark) (mark : Mark) → is_step_of writer mark ≡ false → AtRest writer done → AtRest writer (done ++ mark ∷ [])
other_step writer done mark other is =
    let last = step_one writer done mark false other in
    record { to_push_none = ap (option_and_then passed) last ∙ is.to_push_none; to_count_none = ap (option_and_then refused) last ∙ is.to_count_none }

other_push : (writer other : ℕ) (done : List Mark) → (other ≡ writer → ⊥) → AtRest writer done → AtRest writer (done ++ push other done)
other_push writer other done apart is = by_call (to_push other done) refl where
  by_full : (c : Call) (b : Bool) → c.item.writer ≡ other → AtRest writer (done ++ cond b (Refused c) (Queued c) ∷ [])
  by_full c true own = other_step writer done (Refused c) (ne_eqb c.item.writer writer (λ same. apart (sym own ∙ same))) is
  by_full c false own = other_step writer done (Queued c) (ne_eqb c.item.writer writer (λ same. apart (sym own ∙ same))) is

  by_call : (o : Option Call) → to_push other done ≡ o → AtRest writer (done ++ for_some o (λ c. just (cond (is_full c.item.app done) (Refused c) (Queued c))) done)
  by_call None e = subst (AtRest writer) (sym (append-nil done)) is
  by_call (Some c) e = by_full c (is_full c.item.app done) (pushes_own other done c e)

other_count : (writer other : ℕ) (done : List Mark) → (other ≡ writer → ⊥) → AtRest writer done → AtRest writer (done ++ count other done)
other_count writer other done apart is = by_call (to_count other done) refl where
  by_call : (o : Option Call) → to_count other done ≡ o → AtRest writer (done ++ for_some o (λ c. just (Counted c)) done)
  by_call None e = subst (AtRest writer) (sym (append-nil done)) is
  by_call (Some c) e = other_step writer done (Counted c) (ne_eqb c.item.writer writer (λ same. apart (sym (counts_own other done c e) ∙ same))) is

other_finish : (writer other : ℕ) (done : List Mark) → AtRest writer done → AtRest writer (done ++ finish other done)
other_finish writer other done is = elim (cases_eq other writer) [
  | inl same ↦ subst (λ (w : ℕ). AtRest w (done ++ finish other done)) same (finished_one other done)
  | inr apart ↦ subst (AtRest writer) (sym (finish_is other done)) (other_count writer other (done ++ push other done) apart (other_push writer other done apart is))
]

finish_each : (writer k a : ℕ) (done : List Mark) → (AtRest writer done) ⊎ ((a ≤ writer) × (writer < a + k)) → AtRest writer (done ++ in_sequence (map finish (range_with_len a k)) done)
finish_each writer zero a done (inl is) = subst (AtRest writer) (sym (append-nil done)) is
finish_each writer zero a done (inr range) = absurd (omega (arith, range.0, range.1))
finish_each writer (suc k) a done there =
    let first = finish a done in
    let now = done ++ first in
    let rest = in_sequence (map finish (range_with_len (a + 1) k)) now in
    let same : now ++ rest ≡ done ++ (first ++ rest) = append_assoc done first rest in
    subst (AtRest writer) same (finish_each writer k (a + 1) now (next there)) where
      next : (AtRest writer done) ⊎ ((a ≤ writer) × (writer < a + suc k)) → (AtRest writer (done ++ finish a done)) ⊎ ((a + 1 ≤ writer) × (writer < a + 1 + k))
      next (inl is) = inl (other_finish writer a done is)
      next (inr range) = elim (cases_eq a writer) [
        | inl is ↦ inl (subst (λ (w : ℕ). AtRest w (done ++ finish a done)) is (finished_one a done))
        | inr apart ↦ inr (omega (arith, range.0, apart), omega (arith, range.1))
      ]

-- marks of the daemon alone are no steps of calls
noted_on : (writer : ℕ) (done ms : List Mark) → AreAll IsNoted done ms → AtRest writer done → AtRest writer (done ++ ms)
noted_on writer done [] all is = subst (AtRest writer) (sym (append-nil done)) is
noted_on writer done (Noted e ∷ ms) all is = subst (AtRest writer) (append_assoc done (Noted e ∷ []) ms) (noted_on writer (done ++ Noted e ∷ []) ms all.1 (other_step writer done (Noted e) refl is))
noted_on writer done (mark ∷ ms) all is = absurd all.0

-- ---- whole runs

rest_by : (writer : ℕ) (done : List Mark) (o : Option Mark) → last_that (is_step_of writer) done ≡ o → open_of o ≡ Shut → AtRest writer done
rest_by writer done None last e = record { to_push_none = ap (option_and_then passed) last; to_count_none = ap (option_and_then refused) last }
rest_by writer done (Some (Passed c)) last e = absurd cc
rest_by writer done (Some (Refused c)) last e = absurd cc
rest_by writer done (Some _) last e = record { to_push_none = ap (option_and_then passed) last; to_count_none = ap (option_and_then refused) last }

-- a writer whose call is open was declared
open_or_rest : (setting : Setting) (writer : ℕ) (done : List Mark) → AreAll (Right setting) [] done → (AtRest writer done) ⊎ ((1 ≤ writer) × (writer < 1 + length (writers done)))
open_or_rest setting writer done all = by_open (open_of (last_that (is_step_of writer) done)) refl (own_open setting writer done all) where
  by_open : (o : Open) → open_of (last_that (is_step_of writer) done) ≡ o → IfOpen o (λ c. IsOwnItem writer done c.item) → (AtRest writer done) ⊎ ((1 ≤ writer) × (writer < 1 + length (writers done)))
  by_open Shut e own = inl (rest_by writer done (last_that (is_step_of writer) done) refl e)
  by_open (ToPush c) e own = inr (in_range done writer own.apid own.of_writer)
  by_open (ToCount c) e own = inr (in_range done writer own.apid own.of_writer)

run_rests : (setting : Setting) (answers : List Done) (steps : List Step) (writer : ℕ) → AtRest writer (run setting answers steps)
run_rests setting answers steps writer =
    let begun = lines setting answers steps in
    let one = finish_each writer (length (writers begun)) 1 begun (open_or_rest setting writer begun (lines_right setting answers steps)) in
    let two = noted_on writer (finished setting answers steps) (drains setting (finished setting answers steps)) (drains_noted setting (finished setting answers steps)) one in
    subst (AtRest writer) (sym (whole_is setting answers steps)) (noted_on writer (drained setting answers steps) (after setting answers steps) (noted_after setting answers steps) two)

none_open : (o : Option Mark) → option_and_then passed o ≡ None → option_and_then refused o ≡ None → opened_call o ≡ []
none_open None a b = refl
none_open (Some (Passed c)) a b = absurd cc
none_open (Some (Refused c)) a b = absurd cc
none_open (Some _) a b = refl

pub all_recorded : (setting : Setting) (answers : List Done) (steps : List Step) (writer : ℕ) → length (records_of writer (run setting answers steps)) ≡ calls_of writer (run setting answers steps)
all_recorded setting answers steps writer =
    let marks = run setting answers steps in
    let rest = run_rests setting answers steps writer in
    let numbers = map (λ (r : Record). r.item.call) (records_of writer marks) in
    let none : opened_call (last_that (is_step_of writer) marks) ≡ [] = none_open (last_that (is_step_of writer) marks) rest.to_push_none rest.to_count_none in
    let all : numbers ≡ range_with_len 1 (calls_of writer marks) =
    sym (append-nil numbers) ∙ ap (λ (cs : List Call). numbers ++ map (λ (c : Call). c.item.call) cs) (sym none) ∙ calls_numbered setting marks (run_founded setting answers steps) writer in
    sym (length-map (records_of writer marks) (λ (r : Record). r.item.call)) ∙ ap length all ∙ range_length 1 (calls_of writer marks)
