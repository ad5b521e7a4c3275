use Rattle.std.proofs.Common.{◌≡◌, ℕ, Bool, true, false, cond, eqb, List, ◌∷◌, Option, Some, None, refl, sym, ap, ◌∙◌}
use Rattle.std.specs.Option.{option_and_then, option_map_or}
use Rattle.std.proofs.lemmas.Bool.{eq-eqb, eqb-true}
use Rattle.std.proofs.lemmas.Result.{on_ok_weaker}
use Rattle.dl_script_model.specs.declared.step.Step.{Step}
use Rattle.dl_script_model.specs.declared.step.Step.TheVariants as line
use Rattle.dl_fates.specs.Lines.{StepAt}
use Rattle.dl_fates.specs.Told.{finishes, owner_of, pushes, told_counted, told_in, told_loaded, told_refused}
use Rattle.dl_fates.proofs.ahead.note_loaded.Goals as goal

-- a step that finishes a call does not push one
not_pushed : (writer other : ℕ) (step : Step) → finishes writer step ≡ true → pushes other step ≡ false
not_pushed writer other (line.Push pushed) is = absurd cc
not_pushed writer other _ is = refl

-- where a call that is counted now is told, by what is kept of its application
told_by : (get : List ℕ → Option ℕ) (steps : List StepAt) → ((apid : List ℕ) → get apid ≡ told_in apid steps) → (owner : Option (List ℕ)) → option_and_then get owner ≡ told_counted owner steps
told_by get steps keeps None = refl
told_by get steps keeps (Some apid) = keeps apid

-- what is kept of a writer, where this step finishes the open call of one
finished : (owners : List (List ℕ)) (writer other number : ℕ) (step : Step) (steps : List StepAt) (told old : Option ℕ) → ((w : ℕ) → finishes w step ≡ eqb writer w)
    → told ≡ told_counted (owner_of owners writer) steps → old ≡ told_loaded (owner_of owners other) other steps
    → cond (eqb writer other) told old ≡ told_loaded (owner_of owners other) other (record { line = number; step = step } ∷ steps)
finished owners writer other number step steps told old finishes_is told_is old_is = by_test (eqb writer other) refl where
  later : Option ℕ
  later = cond (pushes other step) (told_refused (owner_of owners other) other steps) (told_loaded (owner_of owners other) other steps)

  by_test : (b : Bool) → eqb writer other ≡ b → cond b told old ≡ cond (finishes other step) (told_counted (owner_of owners other) steps) later
  by_test true same =
      told_is ∙ ap (λ (w : ℕ). told_counted (owner_of owners w) steps) (eqb-true writer other same)
      ∙ sym (ap (λ (b : Bool). cond b (told_counted (owner_of owners other) steps) later) (finishes_is other ∙ same))
  by_test false apart =
      old_is ∙ sym (ap (λ (b : Bool). cond b (told_refused (owner_of owners other) other steps) (told_loaded (owner_of owners other) other steps)) (not_pushed writer other step (finishes_is writer ∙ eq-eqb writer writer refl)))
      ∙ sym (ap (λ (b : Bool). cond b (told_counted (owner_of owners other) steps) later) (finishes_is other ∙ apart))

pub returns-in-Some : goal.returns-in-Some
returns-in-Some c = λ number steps losses refused loaded. on_ok_weaker c.keep.result (λ keeps other.
    keeps other
    ∙ finished c.args.owners.now c.in-Some.writer other.number number c.args.step.now steps _ _
    (λ w. c.finished_by.ensures w ∙ ap (λ (o : Option ℕ). option_map_or (λ v. eqb v w) o false) c.in-Some.is)
    (c.told_counted.ensures ∙ told_by _ steps losses _ ∙ ap (λ (o : Option (List ℕ)). told_counted o steps) c.owner_of.ensures)
    (loaded other)) c.keep.ensures
