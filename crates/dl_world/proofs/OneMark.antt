-- One mark more that is no event: what is asked of the marks then.
use Rattle.std.proofs.Common.{◌≡◌, ℕ, ◌%◌, ◌<◌, ◌≤◌, Bool, true, false, List, [], ◌∷◌, ◌++◌, length, Option, refl, sym, ap, ◌∙◌}
use Rattle.std.specs.Prelude.{unwrap_or}
use Rattle.std.specs.List.{filter_map}
use Rattle.std.proofs.lemmas.List.{append-nil}
use Rattle.std.proofs.lemmas.List.Elements.{filter_map-append}
use Rattle.std.proofs.Math.Bridge.{le_prop}
use Rattle.dl_bytes.specs.declared.moment.Moment.{Moment}
use Rattle.dl_script_model.specs.declared.line.AppLine.{AppLine}
use Rattle.dl_model.specs.Along.{last_that}
use Rattle.dl_script_model.specs.Marks.{Mark, Clocked, LevelsWait, app_of, apps, clocked, waits_of, moment_at, moment, is_later}
use Rattle.dl_model.proofs.Lists.{last_that-one}
use Rattle.dl_world_calls.specs.Follows as calls
use Rattle.dl_world_calls.specs.Follows.{is_no_call}
use Rattle.dl_world_calls.specs.Injections.{AreAfter, is_no_injection}
use Rattle.dl_world_calls.proofs.Changing.{no-call-stays}
use Rattle.dl_world_calls.proofs.InjectionCounts.{no-injection-stays}
use Rattle.dl_script_model.specs.Steps.{just}
use Rattle.dl_core.specs.Follows.{Run}
use Rattle.dl_world.specs.Follows.{IsAfter, Doing}
use Rattle.dl_world.specs.declared.world.World.{World}
use Rattle.dl_world.proofs.Deeds.{quiet_does}
use Rattle.dl_world.proofs.Quiet.{moment_same, later_same}

-- a moment of these numbers, whatever shows that its micros are below a million
abbrev pub moment_of : (secs micros : ℕ) → micros < 1000000 → Moment
moment_of secs micros below = record { secs = secs; micros = micros; ticks = 0; within_second = below }

pub moments_same : (secs micros : ℕ) (one other : micros < 1000000) → moment_of secs micros one ≡ moment_of secs micros other
moments_same secs micros one other = ap (moment_of secs micros) (le_prop one other)

-- ---- the clock

pub clock_says : (done : List Mark) (now : Moment) → moment (done ++ Clocked now ∷ []) ≡ now
clock_says done now =
    ap (λ (ms : List Moment). unwrap_or (last_that (λ _. true) ms) (moment_at 0 0)) (filter_map-append clocked done (Clocked now ∷ []))
    ∙ ap (λ (o : Option Moment). unwrap_or o (moment_at 0 0)) (last_that-one (λ (m : Moment). true) (filter_map clocked done) now)

-- ---- whether Level events wait

pub later_says : (done : List Mark) (later : Bool) → is_later (done ++ LevelsWait later ∷ []) ≡ later
later_says done later =
    ap (λ (xs : List Bool). unwrap_or (last_that (λ _. true) xs) false) (filter_map-append waits_of done (LevelsWait later ∷ []))
    ∙ ap (λ (o : Option Bool). unwrap_or o false) (last_that-one (λ (b : Bool). true) (filter_map waits_of done) later)

-- ---- applications

pub apps_stay : (done more : List Mark) → apps more ≡ [] → apps (done ++ more) ≡ apps done
apps_stay done more none = filter_map-append app_of done more ∙ ap (λ (xs : List AppLine). apps done ++ xs) none ∙ append-nil (apps done)

-- ---- what turns

-- the parts that a mark doesn't concern stay
module _ (run : Run) (done : List Mark) (mark : Mark) (old new : World) (after : IsAfter run done old) where
  pub few_stay : apps (mark ∷ []) ≡ [] → length (apps (done ++ mark ∷ [])) ≤ 16
  few_stay none = rw (apps_stay done (mark ∷ []) none) after.so_far.few_so

  pub calls_stay : is_no_call mark ≡ true → new.calls ≡ old.calls → calls.IsAfter (done ++ mark ∷ []) new.calls
  calls_stay no_call same = rw same (no-call-stays done mark old.calls no_call after.so_far.calls_so)

  pub injections_stay : is_no_injection mark ≡ true → new.injections ≡ old.injections → AreAfter (done ++ mark ∷ []) new.injections
  injections_stay no_injection same = rw same (no-injection-stays done mark old.injections no_injection after.so_far.injections_so)

  pub moment_stays : filter_map clocked (mark ∷ []) ≡ [] → new.moment ≡ old.moment → new.moment ≡ moment (done ++ mark ∷ [])
  moment_stays none same = same ∙ after.so_far.moment_so ∙ sym (moment_same done (mark ∷ []) none)

  pub later_stays_so : filter_map waits_of (mark ∷ []) ≡ [] → new.later ≡ old.later → new.later ≡ is_later (done ++ mark ∷ [])
  later_stays_so none same = same ∙ after.so_far.later_so ∙ sym (later_same done (mark ∷ []) none)

-- ---- the clock is set, and Level events are to wait or not

pub sets_clock : (old : World) (secs micros : ℕ) (below : micros % 1000000 < 1000000)
    → Doing (λ setting. just (Clocked (moment_at secs micros))) old (record old { moment = moment_of secs (micros % 1000000) below })
sets_clock old secs micros below =
    let mark = Clocked (moment_at secs micros) in
    let now = moment_of secs (micros % 1000000) below in
    let new : World = record old { moment = now } in
    quiet_does (λ setting. just mark) old new (record { core_is = refl; journal_is = refl; clients_are = refl; channels_are = refl })
    (λ run done after. record { quiet = record { no_events = refl; no_answers = refl }; unfed = λ number. refl; unheard = λ channel. refl })
    (λ run done after. record {
      calls_now = calls_stay run done mark old new after refl refl;
      few_now = few_stay run done mark old new after refl;
      injections_now = injections_stay run done mark old new after refl refl;
      moment_now = moments_same secs (micros % 1000000) below _ ∙ sym (clock_says done (moment_at secs micros));
      later_now = later_stays_so run done mark old new after refl refl;
    })

pub sets_levels : (old : World) (later : Bool) → Doing (λ setting. just (LevelsWait later)) old (record old { later = later })
sets_levels old later =
    let mark = LevelsWait later in
    let new : World = record old { later = later } in
    quiet_does (λ setting. just mark) old new (record { core_is = refl; journal_is = refl; clients_are = refl; channels_are = refl })
    (λ run done after. record { quiet = record { no_events = refl; no_answers = refl }; unfed = λ number. refl; unheard = λ channel. refl })
    (λ run done after. record {
      calls_now = calls_stay run done mark old new after refl refl;
      few_now = few_stay run done mark old new after refl;
      injections_now = injections_stay run done mark old new after refl refl;
      moment_now = moment_stays run done mark old new after refl refl;
      later_now = sym (later_says done later);
    })
