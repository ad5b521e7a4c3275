-- Where losses are pending, the next line that takes them is the next that notes a Lost event, and tells them all.
use Rattle.std.proofs.Common.{◌≡◌, ℕ, ◌+◌, ◌<◌, Bool, true, false, cond, eqb, List, [], ◌∷◌, ◌++◌, Option, Some, refl, sym, ap, ◌∙◌, append_assoc, arith, inl, inr}
use Rattle.std.specs.Prelude.{count_by, map, position, ◌||◌, ◌⊎◌}
use Rattle.std.specs.List.{after_last, filter_map}
use Rattle.std.specs.Str.{bytes_eq}
use Rattle.std.proofs.lemmas.Bool.{eq-eqb, lt-ltb, ne_eqb}
use Rattle.std.proofs.lemmas.List.{append-nil}
use Rattle.std.proofs.lemmas.List.Elements.{filter_map-append}
use Rattle.std.proofs.lemmas.List.Folds.{list_any-append}
use Rattle.std.proofs.lemmas.Slice.Eq.{bytes_eq-Decides}
use Rattle.dl_lemmas.proofs.Lists.{position-more}
use Rattle.dl_bytes.specs.declared.outcome.Done.{Done}
use Rattle.dl_events.specs.declared.event.Event.TheVariants as event
use Rattle.dl_script_model.specs.declared.line.AppLine.{AppLine}
use Rattle.dl_script_model.specs.declared.step.Step.{Step}
use Rattle.dl_script_model.specs.declared.step.Step.TheVariants as line
use Rattle.dl_model.specs.declared.registry.LevelChange.{LevelChange}
use Rattle.dl_model.specs.Setting.{Setting}
use Rattle.dl_script_model.specs.Marks.{Mark, Noted, app_of, apps, is_counted_of, is_later, is_lost_of, journal, moment, number_of, pending}
use Rattle.dl_script_model.specs.Steps.{act_of, changes, for_some, level_noted, note, note_levels, note_levels_now, on_app, take_losses, when}
use Rattle.dl_model.proofs.Lists.{after_last-one, count_by-append}
use Rattle.dl_runs.proofs.Relations.{AreAll, asked_for, holds_on}
use Rattle.dl_runs.proofs.KeptIds.{named_id}
use Rattle.dl_fates.specs.Lines.{StepAt}
use Rattle.dl_fates.specs.Noted.{has_lost, next_lost}
use Rattle.dl_fates.specs.Told.{takes_losses, told_in}
use Rattle.dl_fates.proofs.Silent.{NoLoss, line_silent, losses_silent}

-- ---- marks without a Lost event of an application

none_there : (app : ℕ) (done marks : List Mark) → AreAll (NoLoss app) done marks → has_lost app marks ≡ false
none_there app done [] all = refl
none_there app done (mark ∷ marks) all = ap (λ (b : Bool). b || has_lost app marks) all.0 ∙ none_there app (done ++ mark ∷ []) marks all.1

-- what is pending, with such a mark more
pub pending_more : (app : ℕ) (done : List Mark) (mark : Mark) → NoLoss app done mark → pending app (done ++ mark ∷ []) ≡ pending app done + count_by (is_counted_of app) (mark ∷ [])
pending_more app done mark none =
    ap (count_by (is_counted_of app)) (after_last-one (is_lost_of app) done mark ∙ ap (λ (b : Bool). cond b [] (after_last (is_lost_of app) done ++ mark ∷ [])) none)
    ∙ count_by-append (is_counted_of app) (after_last (is_lost_of app) done) (mark ∷ [])

pub still : (app : ℕ) (done marks : List Mark) → 0 < pending app done → AreAll (NoLoss app) done marks → 0 < pending app (done ++ marks)
still app done marks some all = holds_on (NoLoss app) (λ (d : List Mark). 0 < pending app d) (λ d mark before none. omega (arith, before, pending_more app d mark none)) done marks some all

-- what was declared stays so
pub declared : (app : ℕ) (apid : List ℕ) (done more : List Mark) → number_of apid done ≡ Some app → number_of apid (done ++ more) ≡ Some app
declared app apid done more is =
    let test = λ (a : AppLine). bytes_eq a.apid apid in
    ap (position test) (filter_map-append app_of done more) ∙ position-more test (apps done) (filter_map app_of more) app is

-- Level events tell none
none_by_levels : (app : ℕ) (done : List Mark) (cs : List LevelChange) → pending app done ≡ 0 → pending app (done ++ map level_noted cs) ≡ 0
none_by_levels app done [] none = ap (pending app) (append-nil done) ∙ none
none_by_levels app done (c ∷ cs) none =
    let one : pending app (done ++ level_noted c ∷ []) ≡ 0 = pending_more app done (level_noted c) refl ∙ ap (λ (n : ℕ). n + 0) none in
    ap (pending app) (sym (append_assoc done (level_noted c ∷ []) (map level_noted cs))) ∙ none_by_levels app (done ++ level_noted c ∷ []) cs one

none_now : (app : ℕ) (setting : Setting) (done : List Mark) → pending app done ≡ 0 → pending app (done ++ note_levels_now setting done) ≡ 0
none_now app setting done none = by_test (is_later done) where
  by_test : (b : Bool) → pending app (done ++ cond b [] (note_levels setting done)) ≡ 0
  by_test true = ap (pending app) (append-nil done) ∙ none
  by_test false = none_by_levels app done (changes setting (journal done)) none

-- ---- the line that takes the losses of an application

module _ (setting : Setting) (app : ℕ) (apid : List ℕ) (done : List Mark) (is : number_of apid done ≡ Some app) (some : 0 < pending app done) where
  abbrev levels : List Mark
  levels = note_levels setting done

  abbrev tells : Mark
  tells = Noted (event.Lost app (pending app (done ++ levels)) (moment (done ++ levels)))

  abbrev behind : List Mark
  behind = note_levels_now setting ((done ++ levels) ++ tells ∷ [])

  losses_are : on_app apid (take_losses setting) done ≡ levels ++ tells ∷ (behind ++ [])
  losses_are =
      ap (λ (o : Option ℕ). for_some o (take_losses setting) done) is
      ∙ ap (λ (b : Bool). when b (note setting (λ now. event.Lost app (pending app now) (moment now))) done) (lt-ltb 0 (pending app done) some)

  pub is_told : has_lost app (on_app apid (take_losses setting) done) ≡ true
  is_told =
      ap (has_lost app) losses_are ∙ list_any-append (is_lost_of app) levels (tells ∷ (behind ++ []))
      ∙ ap (λ (b : Bool). has_lost app levels || (b || has_lost app (behind ++ []))) (eq-eqb app app refl) ∙ or_true (has_lost app levels) where
        or_true : (b : Bool) → (b || true) ≡ true
        or_true true = refl
        or_true false = refl

  pub none_left : pending app (done ++ on_app apid (take_losses setting) done) ≡ 0
  none_left =
      let before : List Mark = (done ++ levels) ++ tells ∷ [] in
      let here : pending app before ≡ 0 =
      ap (count_by (is_counted_of app)) (after_last-one (is_lost_of app) (done ++ levels) tells ∙ ap (λ (b : Bool). cond b [] (after_last (is_lost_of app) (done ++ levels) ++ tells ∷ [])) (eq-eqb app app refl)) in
      let all : done ++ on_app apid (take_losses setting) done ≡ before ++ behind =
      ap (λ (ms : List Mark). done ++ ms) (losses_are ∙ ap (λ (ms : List Mark). levels ++ tells ∷ ms) (append-nil behind))
      ∙ sym (append_assoc done levels (tells ∷ behind)) ∙ sym (append_assoc (done ++ levels) (tells ∷ []) behind) in
      ap (pending app) all ∙ none_now app setting before here

-- ---- line by line

module _ (setting : Setting) (answers : List Done) (app : ℕ) (apid : List ℕ) where
  -- a line takes the losses, and tells them; or it tells none of this application
  by_step : (step : Step) (done : List Mark) → number_of apid done ≡ Some app → 0 < pending app done →
      ((takes_losses apid step ≡ true) × (has_lost app (act_of setting answers step done) ≡ true))
      ⊎ ((takes_losses apid step ≡ false) × AreAll (NoLoss app) done (act_of setting answers step done))
  by_step (line.Losses other) done is some = by_test (bytes_eq other apid) refl where
    by_test : (b : Bool) → bytes_eq other apid ≡ b →
        ((b ≡ true) × (has_lost app (on_app other (take_losses setting) done) ≡ true)) ⊎ ((b ≡ false) × AreAll (NoLoss app) done (on_app other (take_losses setting) done))
    by_test true same =
        inl (refl, ap (λ (a : List ℕ). has_lost app (on_app a (take_losses setting) done)) ((bytes_eq-Decides other apid).0 same) ∙ is_told setting app apid done is some)
    by_test false apart =
        let another : (b : ℕ) → number_of other done ≡ Some b → eqb b app ≡ false = λ b found.
        ne_eqb b app (λ same.
        let one : other ≡ apid = sym (named_id done [] other app (found ∙ ap Some same)) ∙ named_id done [] apid app is in
        absurd (cc (apart, (bytes_eq-Decides other apid).1 one))) in
        inr (refl, asked_for (NoLoss app) (number_of other done) (take_losses setting) done (λ b found. losses_silent app setting b (another b found) done))
  by_step step done is some = inr (refl, line_silent app setting answers step tt done)

  pub told : (steps : List StepAt) (done : List Mark) → number_of apid done ≡ Some app → 0 < pending app done → told_in apid steps ≡ next_lost setting answers app steps done
  told [] done is some = refl
  told (at ∷ steps) done is some = elim (by_step at.step done is some) [
    | inl here ↦
        let more = act_of setting answers at.step done in
        ap (λ (b : Bool). cond b (Some at.line) (told_in apid steps)) here.0
        ∙ sym (ap (λ (b : Bool). cond b (Some at.line) (next_lost setting answers app steps (done ++ more))) here.1)
    | inr later ↦
        let more = act_of setting answers at.step done in
        ap (λ (b : Bool). cond b (Some at.line) (told_in apid steps)) later.0
        ∙ told steps (done ++ more) (declared app apid done more is) (still app done more some later.1)
        ∙ sym (ap (λ (b : Bool). cond b (Some at.line) (next_lost setting answers app steps (done ++ more))) (none_there app done more later.1))
  ]
