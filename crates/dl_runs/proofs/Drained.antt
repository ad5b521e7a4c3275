-- At the end of a run every ring is empty, and no loss is pending.
use Rattle.std.proofs.Common.{◌≡◌, ℕ, zero, suc, ◌+◌, ◌<◌, ◌≤◌, Bool, true, false, cond, eqb, ltb, List, [], ◌∷◌, ◌++◌, length, get_or, Option, Some, None, refl, sym, ap, subst, ◌∙◌, append_assoc, arith, inl, inr}
use Rattle.std.specs.Prelude.{map, count_by, replicate, slice_get, ◌⊎◌}
use Rattle.std.specs.List.{after_last, range_with_len}
use Rattle.std.proofs.lemmas.Bool.{eq-eqb, ne_eqb, ltb-false, cases_eq}
use Rattle.std.proofs.lemmas.List.{append-nil}
use Rattle.std.proofs.lemmas.List.Elements.{filter_map-append}
use Rattle.std.proofs.lemmas.Option.{slice_get_within, slice_get_cases}
use Rattle.dl_bytes.specs.declared.outcome.Done.{Done}
use Rattle.dl_events.specs.declared.event.Event.{Event}
use Rattle.dl_events.specs.declared.event.Event.TheVariants as event
use Rattle.dl_events.specs.declared.event.Why.{Why}
use Rattle.dl_events.specs.declared.event.Why.TheVariants as why
use Rattle.dl_script_model.specs.declared.step.Step.{Step}
use Rattle.dl_model.specs.declared.registry.LevelChange.{LevelChange}
use Rattle.dl_model.specs.Setting.{Setting}
use Rattle.dl_model.specs.Journal.{is_connect}
use Rattle.dl_script_model.specs.Marks.{Mark, Noted, journal, event_of, app_of, apps, Pushed, OfCall, OfClaim, pushes, pushed_of, taken, is_taken_of, held_by, pending, is_lost_of, is_counted_of, is_later, moment}
use Rattle.dl_script_model.specs.Runs.{RestsOn, AreFounded}
use Rattle.dl_script_model.specs.Steps.{Act, in_sequence, for_some, when, changes, level_noted, note_levels, note_levels_now, note, event_taken, take_log, take_losses, is_open, close, drain, act_of, run}
use Rattle.dl_script_model.proofs.Marks.{in_sequence-one}
use Rattle.dl_model.proofs.Lists.{after_last-one, count_by-append}
use Rattle.dl_runs.proofs.Founded.{IsOf, pushed-own, run_founded}
use Rattle.dl_runs.proofs.RunLaws.{admitted_in_order}
use Rattle.dl_runs.proofs.Relations.{AreAll, Keeps, as_all, both, first_part, second_part, holds_on, turns, each, repeated, asked_for, where_so}
use Rattle.dl_runs.proofs.Turns.{ready, finishes, drains, stops, before_stop}
use Rattle.dl_runs.proofs.WellFormed.{run_is}
use Rattle.dl_runs.proofs.CutInTwo.{note_parts}

-- ---- words that Level events leave as they were

module _ {A : Type 0} (W : List Mark → A) (still : (done : List Mark) (c : LevelChange) → W (done ++ level_noted c ∷ []) ≡ W done) where
  word_levels : (done : List Mark) (cs : List LevelChange) → W (done ++ map level_noted cs) ≡ W done
  word_levels done [] = ap W (append-nil done)
  word_levels done (c ∷ cs) = ap W (sym (append_assoc done (level_noted c ∷ []) (map level_noted cs))) ∙ word_levels (done ++ level_noted c ∷ []) cs ∙ still done c

  word_now : (setting : Setting) (done : List Mark) → W (done ++ note_levels_now setting done) ≡ W done
  word_now setting done = by_test (is_later done) where
    by_test : (b : Bool) → W (done ++ cond b [] (note_levels setting done)) ≡ W done
    by_test true = ap W (append-nil done)
    by_test false = word_levels done (changes setting (journal done))

  word_ready : (setting : Setting) (done : List Mark) → W (ready setting done) ≡ W done
  word_ready setting done = word_levels done (changes setting (journal done))

  pub word_note : (setting : Setting) (make : List Mark → Event) (done : List Mark) → W (done ++ note setting make done) ≡ W (ready setting done ++ Noted (make (ready setting done)) ∷ [])
  word_note setting make done = ap W (note_parts setting make done) ∙ word_now setting (ready setting done ++ Noted (make (ready setting done)) ∷ [])

-- ---- what a noted event changes

pushes_noted : (app : ℕ) (done : List Mark) (e : Event) → pushes app (done ++ Noted e ∷ []) ≡ pushes app done
pushes_noted app done e = filter_map-append (pushed_of app) done (Noted e ∷ []) ∙ append-nil (pushes app done)

taken_noted : (app : ℕ) (done : List Mark) (e : Event) → taken app (done ++ Noted e ∷ []) ≡ taken app done + cond (is_taken_of app e) 1 0
taken_noted app done e =
    let all = ap (count_by (is_taken_of app)) (filter_map-append event_of done (Noted e ∷ [])) ∙ count_by-append (is_taken_of app) (journal done) (e ∷ []) in
    omega (arith, all)

pending_noted : (app : ℕ) (done : List Mark) (e : Event) → pending app (done ++ Noted e ∷ []) ≡ cond (is_lost_of app (Noted e)) 0 (pending app done)
pending_noted app done e = ap (count_by (is_counted_of app)) (after_last-one (is_lost_of app) done (Noted e)) ∙ by_test (is_lost_of app (Noted e)) where
  by_test : (b : Bool) → count_by (is_counted_of app) (cond b [] (after_last (is_lost_of app) done ++ Noted e ∷ [])) ≡ cond b 0 (pending app done)
  by_test true = refl
  by_test false =
      let more = count_by-append (is_counted_of app) (after_last (is_lost_of app) done) (Noted e ∷ []) in
      omega (arith, more)

taken_level : (app : ℕ) (done : List Mark) (c : LevelChange) → taken app (done ++ level_noted c ∷ []) ≡ taken app done
taken_level app done c = omega (arith, taken_noted app done (event.Level c.slot c.level))

pending_level : (app : ℕ) (done : List Mark) (c : LevelChange) → pending app (done ++ level_noted c ∷ []) ≡ pending app done
pending_level app done c = pending_noted app done (event.Level c.slot c.level)

pushes_level : (app : ℕ) (done : List Mark) (c : LevelChange) → pushes app (done ++ level_noted c ∷ []) ≡ pushes app done
pushes_level app done c = pushes_noted app done (event.Level c.slot c.level)

-- ---- an application that is drained stays so

pub record Emptied (app : ℕ) (done : List Mark) : Type 0 where
  pub all_taken : taken app done ≡ length (pushes app done)
  pub none_pending : pending app done ≡ 0

-- marks of the daemon alone
abbrev pub IsNoted : List Mark → Mark → Type 0
IsNoted done (Noted e) = Unit {0}
IsNoted done _ = ⊥

abbrev Told : Setting → List Mark → Mark → Type 0
Told setting done mark = RestsOn setting done mark × IsNoted done mark

-- nothing further is taken
none_taken : (setting : Setting) (app : ℕ) (done : List Mark) (e : Event) → taken app done ≡ length (pushes app done) → RestsOn setting done (Noted e) → ◌≡◌ {A = ℕ} (cond (is_taken_of app e) 1 0) 0
none_taken setting app done (event.Log other writer call moment) all rests = by_app (cases_eq other app) where
  by_app : (other ≡ app) ⊎ (other ≡ app → ⊥) → ◌≡◌ {A = ℕ} (cond (eqb other app) 1 0) 0
  by_app (inl same) =
      let there : slice_get (pushes app done) (taken app done) ≡ Some (OfCall rests.call) = subst (λ (a : ℕ). slice_get (pushes a done) (taken a done) ≡ Some (OfCall rests.call)) same rests.first in
      let within = slice_get_within (pushes app done) (taken app done) (OfCall rests.call) there in
      absurd (omega (arith, within, all))
  by_app (inr apart) = ap (λ (b : Bool). cond b 1 0) (ne_eqb other app apart)
none_taken setting app done (event.Claim claim moment) all rests = by_app (cases_eq claim.app app) where
  by_app : (claim.app ≡ app) ⊎ (claim.app ≡ app → ⊥) → ◌≡◌ {A = ℕ} (cond (eqb claim.app app) 1 0) 0
  by_app (inl same) =
      let there : slice_get (pushes app done) (taken app done) ≡ Some (OfClaim claim) = subst (λ (a : ℕ). slice_get (pushes a done) (taken a done) ≡ Some (OfClaim claim)) same rests in
      let within = slice_get_within (pushes app done) (taken app done) (OfClaim claim) there in
      absurd (omega (arith, within, all))
  by_app (inr apart) = ap (λ (b : Bool). cond b 1 0) (ne_eqb claim.app app apart)
none_taken setting app done _ all rests = refl

none_due : (b : Bool) (n : ℕ) → n ≡ 0 → cond b 0 n ≡ 0
none_due true n e = refl
none_due false n e = e

still_empty : (setting : Setting) (app : ℕ) (done : List Mark) (mark : Mark) → Emptied app done → Told setting done mark → Emptied app (done ++ mark ∷ [])
still_empty setting app done (Noted e) is told = record {
  all_taken =
      let none = none_taken setting app done e is.all_taken told.0 in
      omega (arith, taken_noted app done e, none, is.all_taken, ap length (pushes_noted app done e));
  none_pending = pending_noted app done e ∙ none_due (is_lost_of app (Noted e)) (pending app done) is.none_pending;
}
still_empty setting app done mark is told = absurd told.1

stays_empty : (setting : Setting) (app : ℕ) (done ms : List Mark) → Emptied app done → AreAll (Told setting) done ms → Emptied app (done ++ ms)
stays_empty setting app done ms is all = holds_on (Told setting) (Emptied app) (still_empty setting app) done ms is all

-- ---- what is done at the end are marks of the daemon alone

levels_noted : (done : List Mark) (cs : List LevelChange) → AreAll IsNoted done (map level_noted cs)
levels_noted done [] = tt
levels_noted done (c ∷ cs) = (tt, levels_noted (done ++ level_noted c ∷ []) cs)

hand_out_noted : (setting : Setting) → Keeps IsNoted (note_levels setting)
hand_out_noted setting done = levels_noted done (changes setting (journal done))

hand_out_now_noted : (setting : Setting) → Keeps IsNoted (note_levels_now setting)
hand_out_now_noted setting done = by_test (is_later done) where
  by_test : (b : Bool) → AreAll IsNoted done (cond b [] (note_levels setting done))
  by_test true = tt
  by_test false = hand_out_noted setting done

note_noted : (setting : Setting) (make : List Mark → Event) → Keeps IsNoted (note setting make)
note_noted setting make = turns IsNoted (note_levels setting ∷ (λ done. Noted (make done) ∷ []) ∷ note_levels_now setting ∷ []) (hand_out_noted setting, ((λ done. (tt, tt)), (hand_out_now_noted setting, tt)))

take_log_noted : (setting : Setting) (app : ℕ) → Keeps IsNoted (take_log setting app)
take_log_noted setting app done =
    asked_for IsNoted (slice_get (pushes app done) (taken app done)) (λ what. note setting (event_taken app what)) done (λ what e. note_noted setting (event_taken app what) done)

take_losses_noted : (setting : Setting) (app : ℕ) → Keeps IsNoted (take_losses setting app)
take_losses_noted setting app done =
    where_so IsNoted (ltb 0 (pending app done)) (note setting (λ now. event.Lost app (pending app now) (moment now))) done (λ _. note_noted setting (λ now. event.Lost app (pending app now) (moment now)) done)

close_noted : (setting : Setting) (client : ℕ) (cause : Why) → Keeps IsNoted (close setting client cause)
close_noted setting client cause done = where_so IsNoted (is_open client done) (note setting (λ _. event.Close client cause)) done (λ _. note_noted setting (λ _. event.Close client cause) done)

drain_noted : (setting : Setting) (app : ℕ) → Keeps IsNoted (drain setting app)
drain_noted setting app =
    turns IsNoted ((λ done. in_sequence (replicate (held_by app done) (take_log setting app)) done) ∷ take_losses setting app ∷ []) (
      (λ done. turns IsNoted (replicate (held_by app done) (take_log setting app)) (repeated IsNoted (held_by app done) (take_log setting app) (take_log_noted setting app)) done),
      (take_losses_noted setting app, tt),
    )

pub drains_noted : (setting : Setting) → Keeps IsNoted (drains setting)
drains_noted setting done = turns IsNoted (map (drain setting) (range_with_len 0 (length (apps done)))) (each IsNoted (drain setting) (drain_noted setting) (range_with_len 0 (length (apps done)))) done

stops_noted : (setting : Setting) → Keeps IsNoted (stops setting)
stops_noted setting done =
    let stop = λ (client : ℕ). close setting client why.Stopped in
    turns IsNoted (map stop (range_with_len 1 (count_by is_connect (journal done)))) (each IsNoted stop (λ client. close_noted setting client why.Stopped) (range_with_len 1 (count_by is_connect (journal done)))) done

-- ---- one application is drained

-- the event of what is taken is one of a take
own_take : (app : ℕ) (what : Pushed) (now : List Mark) → IsOf app what → ◌≡◌ {A = ℕ} (cond (is_taken_of app (event_taken app what now)) 1 0) 1
own_take app (OfCall c) now own = ap (λ (b : Bool). cond b 1 0) (eq-eqb app app refl)
own_take app (OfClaim c) now own = ap (λ (b : Bool). cond b 1 0) (eq-eqb c.app app own)

-- a call or a claim that waits is taken
take_one : (setting : Setting) (app : ℕ) (done : List Mark) → taken app done < length (pushes app done) →
    (taken app (done ++ take_log setting app done) ≡ taken app done + 1) × (pushes app (done ++ take_log setting app done) ≡ pushes app done)
take_one setting app done lt = by_cases (slice_get_cases (pushes app done) (taken app done)).1 where
  by_push : (what : Pushed) → slice_get (pushes app done) (taken app done) ≡ Some what → (taken app (done ++ take_log setting app done) ≡ taken app done + 1) × (pushes app (done ++ take_log setting app done) ≡ pushes app done)
  by_push what e =
      let make = event_taken app what in
      let marks : take_log setting app done ≡ note setting make done = ap (λ (o : Option Pushed). for_some o (λ what. note setting (event_taken app what)) done) e in
      let now = ready setting done in
      let own = own_take app what now (pushed-own app done (taken app done) what e) in
      let took : taken app (done ++ note setting make done) ≡ taken app now + cond (is_taken_of app (make now)) 1 0 = word_note (taken app) (taken_level app) setting make done ∙ taken_noted app now (make now) in
      let took_ready : taken app now ≡ taken app done = word_ready (taken app) (taken_level app) setting done in (
        ap (λ (ms : List Mark). taken app (done ++ ms)) marks ∙ omega (arith, took, took_ready, own),
        ap (λ (ms : List Mark). pushes app (done ++ ms)) marks ∙ word_note (pushes app) (pushes_level app) setting make done ∙ pushes_noted app now (make now)
            ∙ word_ready (pushes app) (pushes_level app) setting done,
      )

  by_cases : ((x : Pushed) × (taken app done < length (pushes app done)) × (slice_get (pushes app done) (taken app done) ≡ Some x) × (get_or (pushes app done) (taken app done) x ≡ x)) ⊎ ((length (pushes app done) ≤ taken app done) × (slice_get (pushes app done) (taken app done) ≡ None)) →
      (taken app (done ++ take_log setting app done) ≡ taken app done + 1) × (pushes app (done ++ take_log setting app done) ≡ pushes app done)
  by_cases (inl found) = by_push found.0 found.2
  by_cases (inr none) = absurd (omega (arith, lt, none.0))

take_all : (setting : Setting) (app k : ℕ) (done : List Mark) → taken app done + k ≡ length (pushes app done) →
    taken app (done ++ in_sequence (replicate k (take_log setting app)) done) ≡ length (pushes app (done ++ in_sequence (replicate k (take_log setting app)) done))
take_all setting app zero done e =
    ap (taken app) (append-nil done) ∙ omega (arith, e) ∙ ap (λ (ms : List Mark). length (pushes app ms)) (sym (append-nil done))
take_all setting app (suc k) done e =
    let one = take_one setting app done (omega (arith, e)) in
    let now = done ++ take_log setting app done in
    let rest = in_sequence (replicate k (take_log setting app)) now in
    let later = take_all setting app k now (omega (arith, one.0, ap length one.1, e)) in
    let same : now ++ rest ≡ done ++ (take_log setting app done ++ rest) = append_assoc done (take_log setting app done) rest in
    subst (λ (ms : List Mark). taken app ms ≡ length (pushes app ms)) same later

-- losses that are pending are told
tell_losses : (setting : Setting) (app : ℕ) (done : List Mark) → taken app done ≡ length (pushes app done) → Emptied app (done ++ take_losses setting app done)
tell_losses setting app done all = by_test (ltb 0 (pending app done)) refl where
  by_test : (b : Bool) → ltb 0 (pending app done) ≡ b → Emptied app (done ++ when b (note setting (λ now. event.Lost app (pending app now) (moment now))) done)
  by_test true e =
      let make = λ (now : List Mark). event.Lost app (pending app now) (moment now) in
      let now = ready setting done in
      let took = word_note (taken app) (taken_level app) setting make done ∙ taken_noted app now (make now) in
      let took_ready : taken app now ≡ taken app done = word_ready (taken app) (taken_level app) setting done in
      let same : pushes app (done ++ note setting make done) ≡ pushes app done = word_note (pushes app) (pushes_level app) setting make done ∙ pushes_noted app now (make now) ∙ word_ready (pushes app) (pushes_level app) setting done in
      record {
        all_taken = omega (arith, took, took_ready, all, ap length same);
        none_pending = word_note (pending app) (pending_level app) setting make done ∙ pending_noted app now (make now) ∙ ap (λ (b : Bool). cond b 0 (pending app now)) (eq-eqb app app refl);
      }
  by_test false e =
      let none = ltb-false 0 (pending app done) e in
      subst (Emptied app) (sym (append-nil done)) (record { all_taken = all; none_pending = omega (arith, none) })

drain_empties : (setting : Setting) (app : ℕ) (done : List Mark) → taken app done ≤ length (pushes app done) → Emptied app (done ++ drain setting app done)
drain_empties setting app done le =
    let takes = in_sequence (replicate (held_by app done) (take_log setting app)) done in
    let now = done ++ takes in
    let all = take_all setting app (held_by app done) done (omega (arith, le)) in
    let same : now ++ take_losses setting app now ≡ done ++ drain setting app done =
    append_assoc done takes (take_losses setting app now) ∙ ap (λ (ms : List Mark). done ++ (takes ++ ms)) (sym (append-nil (take_losses setting app now))) in
    subst (Emptied app) same (tell_losses setting app now all)

-- ---- all of them, one after the other

drain_each : (setting : Setting) (k a : ℕ) (done : List Mark) → AreFounded setting [] done → AreAll (Told setting) done (in_sequence (map (drain setting) (range_with_len a k)) done) →
    ((before ms : List Mark) → AreFounded setting [] before → AreAll (Told setting) before ms → AreFounded setting [] (before ++ ms)) →
    (app : ℕ) → a ≤ app → app < a + k → Emptied app (done ++ in_sequence (map (drain setting) (range_with_len a k)) done)
drain_each setting zero a done founded all grows app le lt = absurd (omega arith)
drain_each setting (suc k) a done founded all grows app le lt =
    let first = drain setting a done in
    let now = done ++ first in
    let rest = in_sequence (map (drain setting) (range_with_len (a + 1) k)) now in
    let one = first_part (Told setting) done first rest all in
    let others = second_part (Told setting) done first rest all in
    let same : now ++ rest ≡ done ++ (first ++ rest) = append_assoc done first rest in
    subst (Emptied app) same (elim (cases_eq app a) [
      | inl is ↦ subst (λ (x : ℕ). Emptied x (now ++ rest)) (sym is) (stays_empty setting a now rest (drain_empties setting a done (admitted_in_order setting done founded a).1) others)
      | inr apart ↦ drain_each setting k (a + 1) now (grows done first founded one) others grows app (omega (arith, le, apart)) (omega (arith, lt))
    ])

-- ---- whole runs

told_by : (setting : Setting) (before ms : List Mark) → AreAll (RestsOn setting) before ms → AreAll IsNoted before ms → AreAll (Told setting) before ms
told_by setting before [] rests noted = tt
told_by setting before (mark ∷ ms) rests noted = ((rests.0, noted.0), told_by setting (before ++ mark ∷ []) ms rests.1 noted.1)

as_founded : (setting : Setting) (before ms : List Mark) → AreAll (RestsOn setting) before ms → AreFounded setting before ms
as_founded setting before [] all = tt
as_founded setting before (mark ∷ ms) all = (all.0, as_founded setting (before ++ mark ∷ []) ms all.1)

told_rests : (setting : Setting) (before ms : List Mark) → AreAll (Told setting) before ms → AreAll (RestsOn setting) before ms
told_rests setting before [] all = tt
told_rests setting before (mark ∷ ms) all = (all.0.0, told_rests setting (before ++ mark ∷ []) ms all.1)

founded_on : (setting : Setting) (before ms : List Mark) → AreFounded setting [] before → AreAll (Told setting) before ms → AreFounded setting [] (before ++ ms)
founded_on setting before ms founded all = as_founded setting [] (before ++ ms) (both (RestsOn setting) [] before ms (as_all setting [] before founded) (told_rests setting before ms all))

-- no application is declared at the end
apps_noted : (done ms : List Mark) → AreAll IsNoted done ms → apps (done ++ ms) ≡ apps done
apps_noted done [] all = ap apps (append-nil done)
apps_noted done (Noted e ∷ ms) all =
    ap apps (sym (append_assoc done (Noted e ∷ []) ms)) ∙ apps_noted (done ++ Noted e ∷ []) ms all.1 ∙ filter_map-append app_of done (Noted e ∷ []) ∙ append-nil (apps done)
apps_noted done (mark ∷ ms) all = absurd all.0

module _ (setting : Setting) (answers : List Done) (steps : List Step) where
  abbrev pub lines : List Mark
  lines = in_sequence (map (act_of setting answers) steps) []

  abbrev pub finished : List Mark
  finished = lines ++ finishes lines

  abbrev pub drained : List Mark
  drained = finished ++ drains setting finished

  abbrev pub levelled : List Mark
  levelled = drained ++ note_levels setting drained

  abbrev pub after : List Mark
  after = note_levels setting drained ++ stops setting levelled

  pub whole_is : run setting answers steps ≡ drained ++ after
  whole_is =
      let begin_end : List Act = finishes ∷ drains setting ∷ note_levels setting ∷ [] in
      let before_is : before_stop setting answers steps [] ≡ levelled =
      in_sequence-one (map (act_of setting answers) steps) (in_sequence begin_end) []
      ∙ ap (λ (ms : List Mark). lines ++ (finishes lines ++ (drains setting finished ++ ms)))
      (append-nil (note_levels setting (finished ++ drains setting finished)))
      ∙ sym (append_assoc lines (finishes lines) (drains setting finished ++ note_levels setting drained))
      ∙ sym (append_assoc finished (drains setting finished) (note_levels setting drained)) in
      run_is setting answers steps ∙ ap (λ (ms : List Mark). ms ++ stops setting ms) before_is ∙ append_assoc drained (note_levels setting drained) (stops setting levelled)

  rests_whole : AreAll (RestsOn setting) [] (drained ++ after)
  rests_whole = subst (AreAll (RestsOn setting) []) whole_is (as_all setting [] (run setting answers steps) (run_founded setting answers steps))

  rests_drained : AreAll (RestsOn setting) [] drained
  rests_drained = first_part (RestsOn setting) [] drained after rests_whole

  rests_finished : AreAll (RestsOn setting) [] finished
  rests_finished = first_part (RestsOn setting) [] finished (drains setting finished) rests_drained

  told_drains : AreAll (Told setting) finished (drains setting finished)
  told_drains = told_by setting finished (drains setting finished) (second_part (RestsOn setting) [] finished (drains setting finished) rests_drained) (drains_noted setting finished)

  pub noted_after : AreAll IsNoted drained after
  noted_after = both IsNoted drained (note_levels setting drained) (stops setting levelled) (hand_out_noted setting drained) (stops_noted setting levelled)

  told_after : AreAll (Told setting) drained after
  told_after = told_by setting drained after (second_part (RestsOn setting) [] drained after rests_whole) noted_after

  apps_are : apps (run setting answers steps) ≡ apps finished
  apps_are = ap apps whole_is ∙ apps_noted drained after noted_after ∙ apps_noted finished (drains setting finished) (drains_noted setting finished)

  pub run_empties : (app : ℕ) → app < length (apps (run setting answers steps)) → Emptied app (run setting answers steps)
  run_empties app lt =
      let count : length (apps (run setting answers steps)) ≡ length (apps finished) = ap length apps_are in
      let there = drain_each setting (length (apps finished)) 0 finished (as_founded setting [] finished rests_finished) told_drains (founded_on setting) app (omega arith) (omega (arith, lt, count)) in
      subst (Emptied app) (sym whole_is) (stays_empty setting app drained after there told_after)
