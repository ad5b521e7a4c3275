-- What goes on with each step of a writer's calls: its records, and the call that is open.
use Rattle.std.proofs.Common.{◌≡◌, ℕ, Bool, true, false, cond, eqb, List, [], ◌∷◌, ◌++◌, Option, Some, None, refl, sym, ap, subst, ◌∙◌}
use Rattle.std.specs.List.{filter, filter_map}
use Rattle.std.specs.Option.{option_and_then}
use Rattle.std.proofs.lemmas.List.{append-nil}
use Rattle.std.proofs.lemmas.List.Elements.{filter-append, filter_map-append}
use Rattle.std.proofs.lemmas.Bool.{eqb-true}
use Rattle.dl_bytes.specs.Level.{passes}
use Rattle.dl_events.specs.declared.record.Record.{Record}
use Rattle.dl_events.specs.declared.record.Answer.TheVariants as answer
use Rattle.dl_model.specs.Along.{last_that}
use Rattle.dl_model.specs.Setting.{Setting}
use Rattle.dl_script_model.specs.Marks.{Call, Mark, Filtered, Passed, Queued, Refused, Counted, record_of, records_of, recorded, is_step_of, passed, refused, to_push, to_count, app_of_writer, number_of, is_full}
use Rattle.dl_script_model.specs.Runs.{IsLoaded, RestsOn}
use Rattle.dl_model.proofs.Lists.{last_that-one}
use Rattle.dl_runs.proofs.Founded.{passed_is, refused_is, last_step}
use Rattle.dl_runs.proofs.Relations.{AreAll, both, holds_on}

-- what is open of a writer: nothing, a call before its push, or one before its count
pub data Open : Type 0 where
  Shut : Open
  ToPush : Call → Open
  ToCount : Call → Open

abbrev pub open_of : Option Mark → Open
open_of (Some (Passed c)) = ToPush c
open_of (Some (Refused c)) = ToCount c
open_of _ = Shut

abbrev pub IfOpen : Open → (Call → Type 0) → Type 0
IfOpen Shut P = Unit {0}
IfOpen (ToPush c) P = P c
IfOpen (ToCount c) P = P c

-- a call is of the application that its writer belongs to
pub record IsOwn (c : Call) (done : List Mark) : Type 0 where
  pub apid : List ℕ
  pub of_writer : app_of_writer c.item.writer done ≡ Some apid
  pub number : number_of apid done ≡ Some c.item.app

abbrev pub LoadsOwn : List Mark → Mark → Type 0
LoadsOwn done (Filtered c) = IsOwn c done
LoadsOwn done (Passed c) = IsOwn c done
LoadsOwn done _ = Unit {0}

abbrev pub Right : Setting → List Mark → Mark → Type 0
Right setting done mark = RestsOn setting done mark × LoadsOwn done mark

pub record GoesOn (setting : Setting) (writer : ℕ) (P : List Mark → List Record → Open → Type 0) : Type 0 where
  pub other : (done : List Mark) (mark : Mark) (rs : List Record) (o : Open) → P done rs o → is_step_of writer mark ≡ false → P (done ++ mark ∷ []) rs o
  pub filtered : (done : List Mark) (c : Call) (rs : List Record) → P done rs Shut → c.item.writer ≡ writer → IsLoaded setting c done → IsOwn c done → passes c.item.severity c.held ≡ false →
      P (done ++ Filtered c ∷ []) (rs ++ recorded c answer.Filtered ∷ []) Shut
  pub passed : (done : List Mark) (c : Call) (rs : List Record) → P done rs Shut → c.item.writer ≡ writer → IsLoaded setting c done → IsOwn c done → passes c.item.severity c.held ≡ true →
      P (done ++ Passed c ∷ []) rs (ToPush c)
  pub queued : (done : List Mark) (c : Call) (rs : List Record) → P done rs (ToPush c) → c.item.writer ≡ writer → P (done ++ Queued c ∷ []) (rs ++ recorded c answer.Queued ∷ []) Shut
  pub refused : (done : List Mark) (c : Call) (rs : List Record) → P done rs (ToPush c) → c.item.writer ≡ writer → is_full c.item.app done ≡ true → AreAll (Right setting) [] done → P (done ++ Refused c ∷ []) rs (ToCount c)
  pub counted : (done : List Mark) (c : Call) (rs : List Record) → P done rs (ToCount c) → c.item.writer ≡ writer → P (done ++ Counted c ∷ []) (rs ++ recorded c answer.Lost ∷ []) Shut

shut : (o : Option Mark) → option_and_then passed o ≡ None → option_and_then refused o ≡ None → open_of o ≡ Shut
shut None a b = refl
shut (Some (Passed c)) a b = absurd cc
shut (Some (Refused c)) a b = absurd cc
shut (Some _) a b = refl

pushes : (o : Option Mark) (c : Call) → option_and_then passed o ≡ Some c → open_of o ≡ ToPush c
pushes o c e = let last = last_step passed o c e in ap open_of (last.1 ∙ ap Some (passed_is last.0 c last.2))

counts : (o : Option Mark) (c : Call) → option_and_then refused o ≡ Some c → open_of o ≡ ToCount c
counts o c e = let last = last_step refused o c e in ap open_of (last.1 ∙ ap Some (refused_is last.0 c last.2))

module _ (setting : Setting) (writer : ℕ) (P : List Mark → List Record → Open → Type 0) (goes_on : GoesOn setting writer P) where
  abbrev last : List Mark → Option Mark
  last done = last_that (is_step_of writer) done

  abbrev records_in : Mark → List Record
  records_in mark = filter (λ (r : Record). eqb r.item.writer writer) (filter_map record_of (mark ∷ []))

  abbrev Holds : List Mark → Type 0
  Holds done = P done (records_of writer done) (open_of (last done))

  passes_by : (done : List Mark) (mark : Mark) → Holds done → is_step_of writer mark ≡ false → P (done ++ mark ∷ []) (records_of writer done ++ []) (open_of (last done))
  passes_by done mark is e = subst (λ rs. P (done ++ mark ∷ []) rs (open_of (last done))) (sym (append-nil (records_of writer done))) (goes_on.other done mark (records_of writer done) (open_of (last done)) is e)

  still : (done : List Mark) (mark : Mark) (o : Open) → P (done ++ mark ∷ []) (records_of writer done) o → P (done ++ mark ∷ []) (records_of writer done ++ []) o
  still done mark o is = subst (λ rs. P (done ++ mark ∷ []) rs o) (sym (append-nil (records_of writer done))) is

  at_load : (done : List Mark) (c : Call) → Holds done → c.item.writer ≡ writer → IsLoaded setting c done → P done (records_of writer done) Shut
  at_load done c is same loaded =
      subst (P done (records_of writer done)) (shut (last done) (subst (λ w. to_push w done ≡ None) same loaded.none_to_push) (subst (λ w. to_count w done ≡ None) same loaded.none_to_count)) is

  at_push : (done : List Mark) (c : Call) → Holds done → c.item.writer ≡ writer → to_push c.item.writer done ≡ Some c → P done (records_of writer done) (ToPush c)
  at_push done c is same e = subst (P done (records_of writer done)) (pushes (last done) c (subst (λ w. to_push w done ≡ Some c) same e)) is

  at_count : (done : List Mark) (c : Call) → Holds done → c.item.writer ≡ writer → to_count c.item.writer done ≡ Some c → P done (records_of writer done) (ToCount c)
  at_count done c is same e = subst (P done (records_of writer done)) (counts (last done) c (subst (λ w. to_count w done ≡ Some c) same e)) is

  step_by : (done : List Mark) (mark : Mark) → AreAll (Right setting) [] done → Right setting done mark → Holds done → P (done ++ mark ∷ []) (records_of writer done ++ records_in mark) (open_of (cond (is_step_of writer mark) (Some mark) (last done)))
  step_by done (Filtered c) all right is = by_test (eqb c.item.writer writer) refl where
    by_test : (b : Bool) → eqb c.item.writer writer ≡ b → P (done ++ Filtered c ∷ []) (records_of writer done ++ cond b (recorded c answer.Filtered ∷ []) []) (open_of (cond b (Some (Filtered c)) (last done)))
    by_test true e =
        let same = eqb-true c.item.writer writer e in
        goes_on.filtered done c (records_of writer done) (at_load done c is same right.0.0) same right.0.0 right.1 right.0.1
    by_test false e = passes_by done (Filtered c) is e
  step_by done (Passed c) all right is = by_test (eqb c.item.writer writer) refl where
    by_test : (b : Bool) → eqb c.item.writer writer ≡ b → P (done ++ Passed c ∷ []) (records_of writer done ++ []) (open_of (cond b (Some (Passed c)) (last done)))
    by_test true e =
        let same = eqb-true c.item.writer writer e in
        still done (Passed c) (ToPush c) (goes_on.passed done c (records_of writer done) (at_load done c is same right.0.0) same right.0.0 right.1 right.0.1)
    by_test false e = passes_by done (Passed c) is e
  step_by done (Queued c) all right is = by_test (eqb c.item.writer writer) refl where
    by_test : (b : Bool) → eqb c.item.writer writer ≡ b → P (done ++ Queued c ∷ []) (records_of writer done ++ cond b (recorded c answer.Queued ∷ []) []) (open_of (cond b (Some (Queued c)) (last done)))
    by_test true e = let same = eqb-true c.item.writer writer e in goes_on.queued done c (records_of writer done) (at_push done c is same right.0.0) same
    by_test false e = passes_by done (Queued c) is e
  step_by done (Refused c) all right is = by_test (eqb c.item.writer writer) refl where
    by_test : (b : Bool) → eqb c.item.writer writer ≡ b → P (done ++ Refused c ∷ []) (records_of writer done ++ []) (open_of (cond b (Some (Refused c)) (last done)))
    by_test true e = let same = eqb-true c.item.writer writer e in still done (Refused c) (ToCount c) (goes_on.refused done c (records_of writer done) (at_push done c is same right.0.0) same right.0.1 all)
    by_test false e = passes_by done (Refused c) is e
  step_by done (Counted c) all right is = by_test (eqb c.item.writer writer) refl where
    by_test : (b : Bool) → eqb c.item.writer writer ≡ b → P (done ++ Counted c ∷ []) (records_of writer done ++ cond b (recorded c answer.Lost ∷ []) []) (open_of (cond b (Some (Counted c)) (last done)))
    by_test true e = let same = eqb-true c.item.writer writer e in goes_on.counted done c (records_of writer done) (at_count done c is same right.0) same
    by_test false e = passes_by done (Counted c) is e
  step_by done mark all right is = passes_by done mark is refl

  abbrev AllHold : List Mark → Type 0
  AllHold done = AreAll (Right setting) [] done × Holds done

  holds_more : (done : List Mark) (mark : Mark) → AllHold done → Right setting done mark → AllHold (done ++ mark ∷ [])
  holds_more done mark is right =
      let p = λ (r : Record). eqb r.item.writer writer in
      let records : records_of writer (done ++ mark ∷ []) ≡ records_of writer done ++ records_in mark =
      ap (filter p) (filter_map-append record_of done (mark ∷ [])) ∙ filter-append p (filter_map record_of done) (filter_map record_of (mark ∷ [])) in (
        both (Right setting) [] done (mark ∷ []) is.0 (right, tt),
        subst (λ rs. P (done ++ mark ∷ []) rs (open_of (last (done ++ mark ∷ [])))) (sym records)
            (subst (λ o. P (done ++ mark ∷ []) (records_of writer done ++ records_in mark) (open_of o)) (sym (last_that-one (is_step_of writer) done mark)) (step_by done mark is.0 right is.1)),
      )

  pub writer_holds : (marks : List Mark) → P [] [] Shut → AreAll (Right setting) [] marks → Holds marks
  writer_holds marks start all = (holds_on (Right setting) AllHold holds_more [] marks (tt, start) all).1
