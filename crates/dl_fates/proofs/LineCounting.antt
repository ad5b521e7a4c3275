-- The line that counts a writer's open call, where its ring refuses it.
use Rattle.std.proofs.Common.{◌≡◌, ℕ, ◌+◌, ◌<◌, Bool, true, false, cond, eqb, List, [], ◌∷◌, ◌++◌, Option, Some, None, refl, sym, ap, subst, ◌∙◌, append_assoc, arith, inl, inr}
use Rattle.std.specs.Prelude.{count_by, find, ◌||◌, ◌⊎◌}
use Rattle.std.specs.List.{list_any}
use Rattle.std.specs.Option.{option_and_then, option_map_or}
use Rattle.std.proofs.lemmas.Bool.{eq-eqb, eqb-true}
use Rattle.std.proofs.lemmas.List.{append-nil}
use Rattle.std.proofs.lemmas.List.Folds.{list_any-append}
use Rattle.std.proofs.Math.Bool.{or-true}
use Rattle.dl_bytes.specs.declared.outcome.Done.{Done}
use Rattle.dl_script_model.specs.declared.line.CallLine.{CallLine}
use Rattle.dl_script_model.specs.declared.line.ClaimLine.{ClaimLine}
use Rattle.dl_script_model.specs.declared.step.Step.{Step}
use Rattle.dl_script_model.specs.declared.step.Step.TheVariants as line
use Rattle.dl_model.specs.Along.{last_that}
use Rattle.dl_model.specs.Setting.{Setting}
use Rattle.dl_script_model.specs.Marks.{Call, Mark, Counted, Passed, Queued, Refused, app_of_writer, is_counted_of, is_full, is_step_of, number_of, passed, pending, refused, to_count, to_push}
use Rattle.dl_script_model.specs.Steps.{Act, act_of, announce, announce_all, begin_call, claim, count, finish, for_some, in_sequence, just, load, on_app, push, take_log, whole_call}
use Rattle.dl_model.proofs.Lists.{last_that-one}
use Rattle.dl_runs.proofs.Founded.{last_step, passed_is, refused_is, step_one}
use Rattle.dl_runs.proofs.Relations.{AreAll, holds_on, second_part}
use Rattle.dl_fates.specs.Lines.{StepAt}
use Rattle.dl_fates.specs.Noted.{has_counted, is_counted_by, is_refused, is_refused_next, lost_behind_count, next_lost}
use Rattle.dl_fates.specs.Told.{counts, finishes, pushes, told_in, told_loaded, told_refused}
use Rattle.dl_fates.proofs.Silent.{NoLoss, NoStep, TakesNone, line_silent, line_still}
use Rattle.dl_fates.proofs.Telling.{declared, pending_more, still, told}
use Rattle.dl_fates.proofs.Walks.{counts_own, pushes_own}

-- ---- a mark among others

record Has (mark : Mark) (marks : List Mark) : Type 0 where
  before : List Mark
  after : List Mark
  there : marks ≡ before ++ mark ∷ after

first : (mark : Mark) (marks after : List Mark) → marks ≡ mark ∷ after → Has mark marks
first mark marks after is = record { before = []; after = after; there = is }

and_more : (mark : Mark) (xs ys : List Mark) → Has mark xs → Has mark (xs ++ ys)
and_more mark xs ys has = record {
  before = has.before;
  after = has.after ++ ys;
  there = ap (λ (l : List Mark). l ++ ys) has.there ∙ append_assoc has.before (mark ∷ has.after) ys;
}

is_there : (test : Mark → Bool) (mark : Mark) (marks : List Mark) → test mark ≡ true → Has mark marks → list_any test marks ≡ true
is_there test mark marks is has =
    ap (list_any test) has.there ∙ list_any-append test has.before (mark ∷ has.after) ∙ ap (λ (b : Bool). list_any test has.before || (b || list_any test has.after)) is ∙ or-true (list_any test has.before)

-- a call that is counted is pending
counted_pending : (c : Call) (done marks : List Mark) → Has (Counted c) marks → AreAll (NoLoss c.item.app) done marks → 0 < pending c.item.app (done ++ marks)
counted_pending c done marks has none =
    let app = c.item.app in
    let all = second_part (NoLoss app) done has.before (Counted c ∷ has.after) (subst (AreAll (NoLoss app) done) has.there none) in
    let before : List Mark = done ++ has.before in
    let one : count_by (is_counted_of app) (Counted c ∷ []) ≡ 1 = ap (λ (b : Bool). 0 + cond {A = ℕ} b 1 0) (eq-eqb app app refl) in
    let some : 0 < pending app (before ++ Counted c ∷ []) = omega (arith, pending_more app before (Counted c) refl, one) in
    let later : 0 < pending app ((before ++ Counted c ∷ []) ++ has.after) = still app (before ++ Counted c ∷ []) has.after some all.1 in
    let same : done ++ marks ≡ (before ++ Counted c ∷ []) ++ has.after =
    ap (λ (l : List Mark). done ++ l) has.there ∙ sym (append_assoc done has.before (Counted c ∷ has.after)) ∙ sym (append_assoc before (Counted c ∷ []) has.after) in
    subst (λ (l : List Mark). 0 < pending app l) (sym same) later

-- ---- marks without a step of a writer

not_counted : (writer : ℕ) (mark : Mark) → is_step_of writer mark ≡ false → is_counted_by writer mark ≡ false
not_counted writer (Counted c) none = none
not_counted writer mark none = refl

none_counted : (writer : ℕ) (done marks : List Mark) → AreAll (NoStep writer) done marks → has_counted writer marks ≡ false
none_counted writer done [] all = refl
none_counted writer done (mark ∷ marks) all = ap (λ (b : Bool). b || has_counted writer marks) (not_counted writer mark all.0) ∙ none_counted writer (done ++ mark ∷ []) marks all.1

none_found : (writer : ℕ) (done marks : List Mark) → AreAll (NoStep writer) done marks → find (is_step_of writer) marks ≡ None
none_found writer done [] all = refl
none_found writer done (mark ∷ marks) all =
    ap (λ (b : Bool). cond b (Some mark) (find (is_step_of writer) marks)) all.0 ∙ none_found writer (done ++ mark ∷ []) marks all.1

last_still : (writer : ℕ) (done : List Mark) (o : Option Mark) (marks : List Mark) → last_that (is_step_of writer) done ≡ o → AreAll (NoStep writer) done marks → last_that (is_step_of writer) (done ++ marks) ≡ o
last_still writer done o marks is all =
    holds_on (NoStep writer) (λ (d : List Mark). last_that (is_step_of writer) d ≡ o)
    (λ d mark before none. last_that-one (is_step_of writer) d mark ∙ ap (λ (b : Bool). cond b (Some mark) (last_that (is_step_of writer) d)) none ∙ before) done marks is all

-- ---- a call that was refused

last_refused : (writer : ℕ) (done : List Mark) (c : Call) → to_count writer done ≡ Some c → last_that (is_step_of writer) done ≡ Some (Refused c)
last_refused writer done c opened =
    let last = last_step refused (last_that (is_step_of writer) done) c opened in
    last.1 ∙ ap Some (refused_is last.0 c last.2)

nothing_to_push : (writer : ℕ) (done : List Mark) (c : Call) → to_count writer done ≡ Some c → push writer done ≡ []
nothing_to_push writer done c opened =
    ap (λ (o : Option Mark). for_some (option_and_then passed o) (λ d. just (cond (is_full d.item.app done) (Refused d) (Queued d))) done) (last_refused writer done c opened)

count_is : (writer : ℕ) (done : List Mark) (c : Call) → to_count writer done ≡ Some c → count writer done ≡ Counted c ∷ []
count_is writer done c opened = ap (λ (o : Option Call). for_some o (λ d. just (Counted d)) done) opened

finish_is : (writer : ℕ) (done : List Mark) (c : Call) → to_count writer done ≡ Some c → finish writer done ≡ Counted c ∷ []
finish_is writer done c opened =
    ap (λ (l : List Mark). l ++ (count writer (done ++ l) ++ [])) (nothing_to_push writer done c opened)
    ∙ ap (λ (d : List Mark). count writer d ++ []) (append-nil done) ∙ ap (λ (l : List Mark). l ++ []) (count_is writer done c opened)

-- what a push makes of a call
pushed : Call → List Mark → Mark
pushed c done = cond (is_full c.item.app done) (Refused c) (Queued c)

push_is : (writer : ℕ) (done : List Mark) (c : Call) → to_push writer done ≡ Some c → push writer done ≡ pushed c done ∷ []
unfolding pushed
push_is writer done c opened = ap (λ (o : Option Call). for_some o (λ d. just (cond (is_full d.item.app done) (Refused d) (Queued d))) done) opened

pushed_own : (writer : ℕ) (done : List Mark) (c : Call) → to_push writer done ≡ Some c → is_step_of writer (pushed c done) ≡ true
unfolding pushed
pushed_own writer done c opened = by_full (is_full c.item.app done) where
  by_full : (b : Bool) → is_step_of writer (cond b (Refused c) (Queued c)) ≡ true
  by_full true = pushes_own writer done c opened
  by_full false = pushes_own writer done c opened

full_is : (done : List Mark) (c : Call) → is_refused (pushed c done) ≡ true → pushed c done ≡ Refused c
unfolding pushed
full_is done c is = by_full (is_full c.item.app done) is where
  by_full : (b : Bool) → is_refused (cond b (Refused c) (Queued c)) ≡ true → cond b (Refused c) (Queued c) ≡ Refused c
  by_full true is = refl
  by_full false is = absurd cc

finish_pushes : (writer : ℕ) (done : List Mark) (c : Call) → to_push writer done ≡ Some c → finish writer done ≡ pushed c done ∷ (count writer (done ++ pushed c done ∷ []) ++ [])
finish_pushes writer done c opened = ap (λ (l : List Mark). l ++ (count writer (done ++ l) ++ [])) (push_is writer done c opened)

-- one that the ring refused is to be counted
to_count_now : (writer : ℕ) (done : List Mark) (c : Call) → to_push writer done ≡ Some c → to_count writer (done ++ Refused c ∷ []) ≡ Some c
to_count_now writer done c opened = ap (option_and_then refused) (step_one writer done (Refused c) (pushes_own writer done c opened))

finish_counts : (writer : ℕ) (done : List Mark) (c : Call) → to_push writer done ≡ Some c → is_refused (pushed c done) ≡ true → Has (Counted c) (finish writer done)
finish_counts writer done c opened full = record {
  before = Refused c ∷ [];
  after = [];
  there = finish_pushes writer done c opened ∙ ap (λ (m : Mark). m ∷ (count writer (done ++ m ∷ []) ++ [])) (full_is done c full)
      ∙ ap (λ (l : List Mark). Refused c ∷ (l ++ [])) (count_is writer (done ++ Refused c ∷ []) c (to_count_now writer done c opened));
}

-- marks that begin with a mark
record Starts (mark : Mark) (marks : List Mark) : Type 0 where
  after : List Mark
  there : marks ≡ mark ∷ after

start_more : (mark : Mark) (xs ys : List Mark) → Starts mark xs → Starts mark (xs ++ ys)
start_more mark xs ys starts = record { after = starts.after ++ ys; there = ap (λ (l : List Mark). l ++ ys) starts.there }

found_first : (writer : ℕ) (mark : Mark) (marks : List Mark) → is_step_of writer mark ≡ true → Starts mark marks → find (is_step_of writer) marks ≡ Some mark
found_first writer mark marks own starts =
    ap (find (is_step_of writer)) starts.there ∙ ap (λ (b : Bool). cond b (Some mark) (find (is_step_of writer) starts.after)) own

last_passed : (writer : ℕ) (done : List Mark) (c : Call) → to_push writer done ≡ Some c → last_that (is_step_of writer) done ≡ Some (Passed c)
last_passed writer done c opened =
    let last = last_step passed (last_that (is_step_of writer) done) c opened in
    last.1 ∙ ap Some (passed_is last.0 c last.2)

-- what holds of marks holds with others behind them
abbrev GoesOn : (List Mark → Type 0) → Type 0
GoesOn P = (xs ys : List Mark) → P xs → P (xs ++ ys)

module _ (setting : Setting) (answers : List Done) (writer : ℕ) (apid : List ℕ) where
  -- what holds of a writer's finish holds of the line that begins its next call
  in_begun : (P : List Mark → Type 0) → GoesOn P → (call : CallLine) (done : List Mark) → P (finish call.writer done) → P (act_of setting answers (line.Load call) done)
  in_begun P more call done holds = more (finish call.writer done) (in_sequence (load setting call ∷ []) (done ++ finish call.writer done)) holds

  in_whole : (P : List Mark → Type 0) → GoesOn P → (call : CallLine) (done : List Mark) → P (finish call.writer done) → P (act_of setting answers (line.Call call) done)
  in_whole P more call done holds =
      more (begin_call setting call done) (in_sequence (finish call.writer ∷ []) (done ++ begin_call setting call done)) (in_begun P more call done holds)

  in_log : (P : List Mark → Type 0) → GoesOn P → (call : CallLine) (done : List Mark) → P (finish call.writer done) → P (act_of setting answers (line.Log call) done)
  in_log P more call done holds =
      let takes : Act = λ d. for_some (app_of_writer call.writer d) (λ id. on_app id (take_log setting)) d in
      more (whole_call setting call done) (in_sequence (takes ∷ []) (done ++ whole_call setting call done)) (in_whole P more call done holds)

  -- and of a line that claims or announces for it
  in_claimed : (P : List Mark → Type 0) → GoesOn P → (asked : ClaimLine) (done : List Mark) → P (finish asked.writer done) → P (act_of setting answers (line.Claim asked) done)
  in_claimed P more asked done holds = more (finish asked.writer done) (in_sequence (claim asked ∷ []) (done ++ finish asked.writer done)) holds

  in_announced : (P : List Mark → Type 0) → GoesOn P → (other : ℕ) (done : List Mark) → P (finish other done) → P (act_of setting answers (line.Announce other) done)
  in_announced P more other done holds = more (finish other done) (in_sequence (announce other ∷ []) (done ++ finish other done)) holds

  in_registered : (P : List Mark → Type 0) → GoesOn P → (asked : ClaimLine) (done : List Mark) → P (finish asked.writer done) → P (act_of setting answers (line.Register asked) done)
  in_registered P more asked done holds = more (finish asked.writer done) (in_sequence (claim asked ∷ announce_all asked.writer ∷ []) (done ++ finish asked.writer done)) holds

  -- a line counts the call that was refused, or moves no call of the writer
  abbrev Counts : Bool → Call → Step → List Mark → Type 0
  Counts test c step done =
      ((test ≡ true) × Has (Counted c) (act_of setting answers step done) × TakesNone step)
      ⊎ ((test ≡ false) × AreAll (NoStep writer) done (act_of setting answers step done))

  is_finished : (other : ℕ) (done : List Mark) (c : Call) → eqb other writer ≡ true → to_count writer done ≡ Some c → Has (Counted c) (finish other done)
  is_finished other done c same opened =
      first (Counted c) (finish other done) [] (finish_is other done c (subst (λ (w : ℕ). to_count w done ≡ Some c) (sym (eqb-true other writer same)) opened))

  refused_line : (step : Step) (done : List Mark) (c : Call) → to_count writer done ≡ Some c → Counts (finishes writer step || counts writer step) c step done
  refused_line (line.Load call) done c opened = by_test (eqb call.writer writer) refl where
    by_test : (b : Bool) → eqb call.writer writer ≡ b → Counts (b || false) c (line.Load call) done
    by_test true same = inl (refl, in_begun (Has (Counted c)) (and_more (Counted c)) call done (is_finished call.writer done c same opened), tt)
    by_test false apart = inr (refl, line_still writer setting answers (line.Load call) apart done)
  refused_line (line.Call call) done c opened = by_test (eqb call.writer writer) refl where
    by_test : (b : Bool) → eqb call.writer writer ≡ b → Counts (b || false) c (line.Call call) done
    by_test true same = inl (refl, in_whole (Has (Counted c)) (and_more (Counted c)) call done (is_finished call.writer done c same opened), tt)
    by_test false apart = inr (refl, line_still writer setting answers (line.Call call) apart done)
  refused_line (line.Log call) done c opened = by_test (eqb call.writer writer) refl where
    by_test : (b : Bool) → eqb call.writer writer ≡ b → Counts (b || false) c (line.Log call) done
    by_test true same = inl (refl, in_log (Has (Counted c)) (and_more (Counted c)) call done (is_finished call.writer done c same opened), tt)
    by_test false apart = inr (refl, line_still writer setting answers (line.Log call) apart done)
  refused_line (line.Claim asked) done c opened = by_test (eqb asked.writer writer) refl where
    by_test : (b : Bool) → eqb asked.writer writer ≡ b → Counts (b || false) c (line.Claim asked) done
    by_test true same = inl (refl, in_claimed (Has (Counted c)) (and_more (Counted c)) asked done (is_finished asked.writer done c same opened), tt)
    by_test false apart = inr (refl, line_still writer setting answers (line.Claim asked) apart done)
  refused_line (line.Announce other) done c opened = by_test (eqb other writer) refl where
    by_test : (b : Bool) → eqb other writer ≡ b → Counts (b || false) c (line.Announce other) done
    by_test true same = inl (refl, in_announced (Has (Counted c)) (and_more (Counted c)) other done (is_finished other done c same opened), tt)
    by_test false apart = inr (refl, line_still writer setting answers (line.Announce other) apart done)
  refused_line (line.Register asked) done c opened = by_test (eqb asked.writer writer) refl where
    by_test : (b : Bool) → eqb asked.writer writer ≡ b → Counts (b || false) c (line.Register asked) done
    by_test true same = inl (refl, in_registered (Has (Counted c)) (and_more (Counted c)) asked done (is_finished asked.writer done c same opened), tt)
    by_test false apart = inr (refl, line_still writer setting answers (line.Register asked) apart done)
  refused_line (line.Count other) done c opened = by_test (eqb other writer) refl where
    by_test : (b : Bool) → eqb other writer ≡ b → Counts b c (line.Count other) done
    by_test true same =
        inl (refl, first (Counted c) (count other done) [] (count_is other done c (subst (λ (w : ℕ). to_count w done ≡ Some c) (sym (eqb-true other writer same)) opened)), tt)
    by_test false apart = inr (refl, line_still writer setting answers (line.Count other) apart done)
  refused_line (line.Push other) done c opened = inr (refl, by_test (eqb other writer) refl) where
    by_test : (b : Bool) → eqb other writer ≡ b → AreAll (NoStep writer) done (push other done)
    by_test true same =
        subst (AreAll (NoStep writer) done) (sym (nothing_to_push other done c (subst (λ (w : ℕ). to_count w done ≡ Some c) (sym (eqb-true other writer same)) opened))) tt
    by_test false apart = line_still writer setting answers (line.Push other) apart done
  refused_line step done c opened = inr (refl, line_still writer setting answers step tt done)

  -- behind a line that counts it
  behind : (step : Step) (steps : List StepAt) (done : List Mark) (c : Call) → eqb c.item.writer writer ≡ true → number_of apid done ≡ Some c.item.app →
      Has (Counted c) (act_of setting answers step done) → TakesNone step →
      told_in apid steps ≡ cond (has_counted writer (act_of setting answers step done)) (next_lost setting answers c.item.app steps (done ++ act_of setting answers step done)) (lost_behind_count setting answers writer c.item.app steps (done ++ act_of setting answers step done))
  behind step steps done c own is has none =
      let app = c.item.app in
      let more = act_of setting answers step done in
      told setting answers app apid steps (done ++ more) (declared app apid done more is) (counted_pending c done more has (line_silent app setting answers step none done))
      ∙ sym (ap (λ (b : Bool). cond b (next_lost setting answers app steps (done ++ more)) (lost_behind_count setting answers writer app steps (done ++ more))) (is_there (is_counted_by writer) (Counted c) more own has))

  pub refused_told : (steps : List StepAt) (done : List Mark) (c : Call) → to_count writer done ≡ Some c → number_of apid done ≡ Some c.item.app →
      told_refused (Some apid) writer steps ≡ lost_behind_count setting answers writer c.item.app steps done
  refused_told [] done c opened is = refl
  refused_told (at ∷ steps) done c opened is = elim (refused_line at.step done c opened) [
    | inl here ↦
        ap (λ (b : Bool). cond b (told_in apid steps) (told_refused (Some apid) writer steps)) here.0
        ∙ behind at.step steps done c (counts_own writer done c opened) is here.1 here.2
    | inr later ↦
        let more = act_of setting answers at.step done in
        let still_opened : to_count writer (done ++ more) ≡ Some c = ap (option_and_then refused) (last_still writer done (Some (Refused c)) more (last_refused writer done c opened) later.1) in
        ap (λ (b : Bool). cond b (told_in apid steps) (told_refused (Some apid) writer steps)) later.0
        ∙ refused_told steps (done ++ more) c still_opened (declared c.item.app apid done more is)
        ∙ sym (ap (λ (b : Bool). cond b (next_lost setting answers c.item.app steps (done ++ more)) (lost_behind_count setting answers writer c.item.app steps (done ++ more))) (none_counted writer done more later.1))
  ]

  -- a line finishes the call that was loaded, or pushes it, or moves no call of the writer
  abbrev Pushes : Bool → Bool → Call → Step → List Mark → Type 0
  Pushes begun test c step done =
      ((begun ≡ true) × Starts (pushed c done) (act_of setting answers step done) × (is_refused (pushed c done) ≡ true → Has (Counted c) (act_of setting answers step done)) × TakesNone step)
      ⊎ ((begun ≡ false) × (((test ≡ true) × (act_of setting answers step done ≡ pushed c done ∷ [])) ⊎ ((test ≡ false) × AreAll (NoStep writer) done (act_of setting answers step done))))

  opened_by : (other : ℕ) (done : List Mark) (c : Call) → eqb other writer ≡ true → to_push writer done ≡ Some c → to_push other done ≡ Some c
  opened_by other done c same opened = subst (λ (w : ℕ). to_push w done ≡ Some c) (sym (eqb-true other writer same)) opened

  finish_starts : (other : ℕ) (done : List Mark) (c : Call) → to_push other done ≡ Some c → Starts (pushed c done) (finish other done)
  finish_starts other done c opened = record { after = count other (done ++ pushed c done ∷ []) ++ []; there = finish_pushes other done c opened }

  loaded_line : (step : Step) (done : List Mark) (c : Call) → to_push writer done ≡ Some c → Pushes (finishes writer step) (pushes writer step) c step done
  loaded_line (line.Load call) done c opened = by_test (eqb call.writer writer) refl where
    by_test : (b : Bool) → eqb call.writer writer ≡ b → Pushes b false c (line.Load call) done
    by_test true same =
        let open_so = opened_by call.writer done c same opened in
        inl (
          refl,
          in_begun (Starts (pushed c done)) (start_more (pushed c done)) call done (finish_starts call.writer done c open_so),
          (λ full. in_begun (Has (Counted c)) (and_more (Counted c)) call done (finish_counts call.writer done c open_so full)),
          tt,
        )
    by_test false apart = inr (refl, inr (refl, line_still writer setting answers (line.Load call) apart done))
  loaded_line (line.Call call) done c opened = by_test (eqb call.writer writer) refl where
    by_test : (b : Bool) → eqb call.writer writer ≡ b → Pushes b false c (line.Call call) done
    by_test true same =
        let open_so = opened_by call.writer done c same opened in
        inl (
          refl,
          in_whole (Starts (pushed c done)) (start_more (pushed c done)) call done (finish_starts call.writer done c open_so),
          (λ full. in_whole (Has (Counted c)) (and_more (Counted c)) call done (finish_counts call.writer done c open_so full)),
          tt,
        )
    by_test false apart = inr (refl, inr (refl, line_still writer setting answers (line.Call call) apart done))
  loaded_line (line.Log call) done c opened = by_test (eqb call.writer writer) refl where
    by_test : (b : Bool) → eqb call.writer writer ≡ b → Pushes b false c (line.Log call) done
    by_test true same =
        let open_so = opened_by call.writer done c same opened in
        inl (
          refl,
          in_log (Starts (pushed c done)) (start_more (pushed c done)) call done (finish_starts call.writer done c open_so),
          (λ full. in_log (Has (Counted c)) (and_more (Counted c)) call done (finish_counts call.writer done c open_so full)),
          tt,
        )
    by_test false apart = inr (refl, inr (refl, line_still writer setting answers (line.Log call) apart done))
  loaded_line (line.Claim asked) done c opened = by_test (eqb asked.writer writer) refl where
    by_test : (b : Bool) → eqb asked.writer writer ≡ b → Pushes b false c (line.Claim asked) done
    by_test true same =
        let open_so = opened_by asked.writer done c same opened in
        inl (
          refl,
          in_claimed (Starts (pushed c done)) (start_more (pushed c done)) asked done (finish_starts asked.writer done c open_so),
          (λ full. in_claimed (Has (Counted c)) (and_more (Counted c)) asked done (finish_counts asked.writer done c open_so full)),
          tt,
        )
    by_test false apart = inr (refl, inr (refl, line_still writer setting answers (line.Claim asked) apart done))
  loaded_line (line.Announce other) done c opened = by_test (eqb other writer) refl where
    by_test : (b : Bool) → eqb other writer ≡ b → Pushes b false c (line.Announce other) done
    by_test true same =
        let open_so = opened_by other done c same opened in
        inl (
          refl,
          in_announced (Starts (pushed c done)) (start_more (pushed c done)) other done (finish_starts other done c open_so),
          (λ full. in_announced (Has (Counted c)) (and_more (Counted c)) other done (finish_counts other done c open_so full)),
          tt,
        )
    by_test false apart = inr (refl, inr (refl, line_still writer setting answers (line.Announce other) apart done))
  loaded_line (line.Register asked) done c opened = by_test (eqb asked.writer writer) refl where
    by_test : (b : Bool) → eqb asked.writer writer ≡ b → Pushes b false c (line.Register asked) done
    by_test true same =
        let open_so = opened_by asked.writer done c same opened in
        inl (
          refl,
          in_registered (Starts (pushed c done)) (start_more (pushed c done)) asked done (finish_starts asked.writer done c open_so),
          (λ full. in_registered (Has (Counted c)) (and_more (Counted c)) asked done (finish_counts asked.writer done c open_so full)),
          tt,
        )
    by_test false apart = inr (refl, inr (refl, line_still writer setting answers (line.Register asked) apart done))
  loaded_line (line.Push other) done c opened = inr (refl, by_test (eqb other writer) refl) where
    by_test : (b : Bool) → eqb other writer ≡ b → ((b ≡ true) × (push other done ≡ pushed c done ∷ [])) ⊎ ((b ≡ false) × AreAll (NoStep writer) done (push other done))
    by_test true same = inl (refl, push_is other done c (opened_by other done c same opened))
    by_test false apart = inr (refl, line_still writer setting answers (line.Push other) apart done)
  loaded_line (line.Count other) done c opened = inr (refl, inr (refl, by_test (eqb other writer) refl)) where
    nothing : to_count writer done ≡ None
    nothing = ap (option_and_then refused) (last_passed writer done c opened)

    by_test : (b : Bool) → eqb other writer ≡ b → AreAll (NoStep writer) done (count other done)
    by_test true same =
        subst (AreAll (NoStep writer) done) (sym (ap (λ (o : Option Call). for_some o (λ d. just (Counted d)) done) (ap (λ (w : ℕ). to_count w done) (eqb-true other writer same) ∙ nothing))) tt
    by_test false apart = line_still writer setting answers (line.Count other) apart done
  loaded_line step done c opened = inr (refl, inr (refl, line_still writer setting answers step tt done))

  pub loaded_told : (steps : List StepAt) (done : List Mark) (c : Call) → to_push writer done ≡ Some c → number_of apid done ≡ Some c.item.app → is_refused_next setting answers writer steps done ≡ true →
      told_loaded (Some apid) writer steps ≡ lost_behind_count setting answers writer c.item.app steps done
  loaded_told [] done c opened is refuses = absurd cc
  loaded_told (at ∷ steps) done c opened is refuses = elim (loaded_line at.step done c opened) [
    | inl begun ↦
        let more = act_of setting answers at.step done in
        let found = found_first writer (pushed c done) more (pushed_own writer done c opened) begun.1 in
        let full : is_refused (pushed c done) ≡ true = sym (ap (λ (o : Option Mark). option_map_or is_refused o (is_refused_next setting answers writer steps (done ++ more))) found) ∙ refuses in
        ap (λ (b : Bool). cond b (told_in apid steps) (cond (pushes writer at.step) (told_refused (Some apid) writer steps) (told_loaded (Some apid) writer steps))) begun.0
        ∙ behind at.step steps done c (pushes_own writer done c opened) is (begun.2 full) begun.3
    | inr on ↦ elim on.1 [
      | inl push_here ↦
          let more = act_of setting answers at.step done in
          let found = found_first writer (pushed c done) more (pushed_own writer done c opened) (record { after = []; there = push_here.1 }) in
          let full : is_refused (pushed c done) ≡ true = sym (ap (λ (o : Option Mark). option_map_or is_refused o (is_refused_next setting answers writer steps (done ++ more))) found) ∙ refuses in
          let marks : more ≡ Refused c ∷ [] = push_here.1 ∙ ap (λ (m : Mark). m ∷ []) (full_is done c full) in
          let to_count_so : to_count writer (done ++ more) ≡ Some c = ap (λ (ms : List Mark). to_count writer (done ++ ms)) marks ∙ to_count_now writer done c opened in
          ap (λ (b : Bool). cond b (told_in apid steps) (cond (pushes writer at.step) (told_refused (Some apid) writer steps) (told_loaded (Some apid) writer steps))) on.0
          ∙ ap (λ (b : Bool). cond b (told_refused (Some apid) writer steps) (told_loaded (Some apid) writer steps)) push_here.0
          ∙ refused_told steps (done ++ more) c to_count_so (declared c.item.app apid done more is)
          ∙ sym (ap (λ (ms : List Mark). cond (has_counted writer ms) (next_lost setting answers c.item.app steps (done ++ more)) (lost_behind_count setting answers writer c.item.app steps (done ++ more))) marks)
      | inr later ↦
          let more = act_of setting answers at.step done in
          let still_opened : to_push writer (done ++ more) ≡ Some c = ap (option_and_then passed) (last_still writer done (Some (Passed c)) more (last_passed writer done c opened) later.1) in
          let refuses_on : is_refused_next setting answers writer steps (done ++ more) ≡ true =
          sym (ap (λ (o : Option Mark). option_map_or is_refused o (is_refused_next setting answers writer steps (done ++ more))) (none_found writer done more later.1)) ∙ refuses in
          ap (λ (b : Bool). cond b (told_in apid steps) (cond (pushes writer at.step) (told_refused (Some apid) writer steps) (told_loaded (Some apid) writer steps))) on.0
          ∙ ap (λ (b : Bool). cond b (told_refused (Some apid) writer steps) (told_loaded (Some apid) writer steps)) later.0
          ∙ loaded_told steps (done ++ more) c still_opened (declared c.item.app apid done more is) refuses_on
          ∙ sym (ap (λ (b : Bool). cond b (next_lost setting answers c.item.app steps (done ++ more)) (lost_behind_count setting answers writer c.item.app steps (done ++ more))) (none_counted writer done more later.1))
    ]
  ]
