-- What a script declares: its mark, and the message by which it registers.
use Rattle.std.proofs.Common.{◌≡◌, ℕ, ◌+◌, ◌<◌, ◌≤◌, true, List, [], ◌∷◌, ◌++◌, length, refl, sym, ap, subst, ◌∙◌, length-append, arith}
use Rattle.std.specs.List.{filter_map}
use Rattle.std.proofs.lemmas.List.{length-map}
use Rattle.std.proofs.lemmas.List.Elements.{filter_map-append}
use Rattle.dl_bytes.specs.declared.outcome.Done.{Done}
use Rattle.dl_script_model.specs.declared.line.AppLine.{AppLine}
use Rattle.dl_script_model.specs.declared.line.ContextLine.{ContextLine}
use Rattle.dl_model.specs.Setting.{Setting}
use Rattle.dl_script_model.specs.Marks.{Mark, HasApp, HasContext, HasWriter, app_of, apps, clocked, waits_of}
use Rattle.dl_script_model.specs.Steps.{Act, just, in_sequence}
use Rattle.dl_world_calls.specs.Follows as calls
use Rattle.dl_world_calls.specs.Follows.{line_of}
use Rattle.dl_world_calls.specs.State.{Calls}
use Rattle.dl_world_calls.specs.Injections.{is_no_injection}
use Rattle.dl_outside.specs.Told.{FolderTold}
use Rattle.dl_world.specs.Follows.{Deed, Does, Doing}
use Rattle.dl_world.specs.declared.world.World.{World}
use Rattle.dl_world.proofs.Composing.{does_both, two_turns}
use Rattle.dl_world.proofs.Deeds.{LeavesAlone, quiet_does}
use Rattle.dl_world.proofs.OneMark.{apps_stay, injections_stay, moment_stays, later_stays_so}

-- ---- a mark of the log calls alone

pub record IsOfCalls (mark : Mark) : Type 0 where
  pub alone : LeavesAlone (mark ∷ [])
  pub no_injection : is_no_injection mark ≡ true
  pub unclocked : filter_map clocked (mark ∷ []) ≡ []
  pub no_levels : filter_map waits_of (mark ∷ []) ≡ []

-- after which there are at most 16 applications
abbrev pub KeepsFew : Mark → Calls → Type 0
KeepsFew mark old = (done : List Mark) → calls.IsAfter done old → length (apps done) ≤ 16 → length (apps (done ++ mark ∷ [])) ≤ 16

pub does_mark : (mark : Mark) (old : World) (now : Calls) → IsOfCalls mark → KeepsFew mark old.calls → calls.Does (just mark) old.calls now
    → Doing (λ setting. just mark) old (record old { calls = now })
does_mark mark old now of_calls few does =
    let new : World = record old { calls = now } in
    quiet_does (λ setting. just mark) old new (record { core_is = refl; journal_is = refl; clients_are = refl; channels_are = refl })
    (λ run done after. of_calls.alone)
    (λ run done after. record {
      calls_now = does done after.so_far.calls_so;
      few_now = few done after.so_far.calls_so after.so_far.few_so;
      injections_now = injections_stay run done mark old new after of_calls.no_injection refl;
      moment_now = moment_stays run done mark old new after of_calls.unclocked refl;
      later_now = later_stays_so run done mark old new after of_calls.no_levels refl;
    })

-- ---- the marks of declarations

app_alone : (app : AppLine) → IsOfCalls (HasApp app)
app_alone app = record { alone = record { quiet = record { no_events = refl; no_answers = refl }; unfed = λ number. refl; unheard = λ channel. refl }; no_injection = refl; unclocked = refl; no_levels = refl }

pub declares_app : (app : AppLine) (old : World) (now : Calls) → length old.calls.apps < 16 → calls.Does (just (HasApp app)) old.calls now
    → Doing (λ setting. just (HasApp app)) old (record old { calls = now })
declares_app app old now few does = does_mark (HasApp app) old now (app_alone app) keeps does where
  keeps : KeepsFew (HasApp app) old.calls
  keeps done is below =
      let lines : length (apps done) ≡ length old.calls.apps = sym (ap length is.apps_are) ∙ length-map old.calls.apps line_of in
      let one : length (apps (done ++ HasApp app ∷ [])) ≡ length (apps done) + 1 = ap length (filter_map-append app_of done (HasApp app ∷ [])) ∙ length-append (apps done) (app ∷ []) in
      omega (arith, few, lines, one)

pub declares_context : (context : ContextLine) (old : World) (now : Calls) → calls.Does (just (HasContext context)) old.calls now
    → Doing (λ setting. just (HasContext context)) old (record old { calls = now })
declares_context context old now does =
    let mark = HasContext context in
    does_mark mark old now
    (record { alone = record { quiet = record { no_events = refl; no_answers = refl }; unfed = λ number. refl; unheard = λ channel. refl }; no_injection = refl; unclocked = refl; no_levels = refl })
    (λ done is below. rw (apps_stay done (mark ∷ []) refl) below) does

pub declares_writer : (apid : List ℕ) (old : World) (now : Calls) → calls.Does (just (HasWriter apid)) old.calls now
    → Doing (λ setting. just (HasWriter apid)) old (record old { calls = now })
declares_writer apid old now does =
    let mark = HasWriter apid in
    does_mark mark old now
    (record { alone = record { quiet = record { no_events = refl; no_answers = refl }; unfed = λ number. refl; unheard = λ channel. refl }; no_injection = refl; unclocked = refl; no_levels = refl })
    (λ done is below. rw (apps_stay done (mark ∷ []) refl) below) does

-- ---- two acts in turn, where a folder is handed on

pub does_two : (first second : Setting → List Done → Act) (old mid new : World) (told told_mid told_now : FolderTold) → Does first old mid told told_mid → Does second mid new told_mid told_now
    → Does (λ setting answers. in_sequence (first setting answers ∷ second setting answers ∷ [])) old new told told_now
does_two first second old mid new told told_mid told_now one two =
    subst (λ (deed : Deed). Does deed old new told told_now) (λ i setting answers done. sym (two_turns (first setting answers) (second setting answers) done) i)
    (does_both first second old mid new told told_mid told_now one two)
