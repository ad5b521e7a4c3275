-- Calls that come before the daemon takes the claim of their place are filtered.
use Rattle.std.proofs.Common.{◌≡◌, ℕ, true, false, eqb, List, [], ◌∷◌, ◌++◌, refl, sym, ap, subst, ◌∙◌, inl, inr}
use Rattle.std.specs.Prelude.{not}
use Rattle.std.specs.List.{AllByRecursion, filter_map}
use Rattle.std.proofs.lemmas.List.Elements.{filter_map-append}
use Rattle.dl_lemmas.proofs.Lists.{all_map}
use Rattle.dl_bytes.specs.Level.{passes}
use Rattle.dl_bytes.specs.declared.level.Severity.{Severity}
use Rattle.dl_bytes.specs.declared.level.Severity.TheVariants as severity
use Rattle.dl_events.specs.declared.event.Event.{Event}
use Rattle.dl_events.specs.declared.event.Event.TheVariants as event
use Rattle.dl_events.specs.declared.record.Answer.{Answer}
use Rattle.dl_events.specs.declared.record.Answer.TheVariants as answer
use Rattle.dl_events.specs.declared.record.Record.{Record}
use Rattle.dl_model.specs.declared.registry.Slot.{Slot}
use Rattle.dl_model.specs.Accounts.{IsExact}
use Rattle.dl_model.specs.Journal.{slots_of}
use Rattle.dl_script_model.specs.Marks.{Mark, Noted, event_of, journal, record_of, records_of}
use Rattle.dl_model.specs.Registry.{slot_of}
use Rattle.dl_model.specs.Report.{is_answer}
use Rattle.dl_script_model.specs.Runs.{AreFounded}
use Rattle.dl_model.specs.Setting.{Setting}
use Rattle.dl_runs.proofs.RunLaws.{calls_exact}
use Rattle.dl_runs.specs.WaitingClaims.{ComesEarly, IsFilteredFirst}
use Rattle.dl_laws.proofs.Alls.{all_filter}
use Rattle.dl_runs.proofs.FreePlaces.{AreOwed, IsOwed, first_owed, unused}
use Rattle.dl_runs.proofs.Relations.{AreAll}
use Rattle.dl_runs.proofs.WellFormed.{Stands, plain}

-- ---- the Level events of a run are owed

event_owed : (setting : Setting) (done : List Mark) (e : Event) → Stands setting done (Noted e) → IsOwed setting (journal done) e
event_owed setting done (event.Level slot level) (inl is) = is.0.0
event_owed setting done (event.Level slot level) (inr is) = is.0
event_owed setting done _ stands = tt

pub stand_and_owe : (setting : Setting) (before marks : List Mark) → AreAll (Stands setting) before marks → AreOwed setting (journal before) (journal marks)
stand_and_owe setting before [] all = tt
stand_and_owe setting before (Noted e ∷ marks) all = (
  event_owed setting before e all.0,
  subst (λ b. AreOwed setting b (journal marks)) (filter_map-append event_of before (Noted e ∷ [])) (stand_and_owe setting (before ++ Noted e ∷ []) marks all.1),
)
stand_and_owe setting before (mark ∷ marks) all =
    subst (λ b. AreOwed setting b (journal marks)) (plain before mark refl) (stand_and_owe setting (before ++ mark ∷ []) marks all.1)

-- ---- level 0 lets no call through

none_pass : (s : Severity) → passes s 0 ≡ false
none_pass severity.Fatal = refl
none_pass severity.Error = refl
none_pass severity.Warn = refl
none_pass severity.Info = refl
none_pass severity.Debug = refl
none_pass severity.Verbose = refl

answer_is : (what : Answer) → is_answer answer.Filtered what ≡ true → what ≡ answer.Filtered
answer_is answer.Filtered is = refl
answer_is answer.Queued is = absurd cc
answer_is answer.Lost is = absurd cc

early : (setting : Setting) (marks : List Mark) → AreAll (Stands setting) [] marks → (r : Record) → IsExact setting.first (journal marks) r → ComesEarly setting marks r → IsFilteredFirst setting r
early setting marks stand r exact comes = record {
  filtered = answer_is r.answer (exact.filtered ∙ ap (λ (level : ℕ). not (passes r.item.severity level)) level_is ∙ ap not (none_pass r.item.severity));
  version = ap (λ (x : Record). x.version) comes.seen.is ∙ comes.seen.loaded.version ∙ ap (λ (s : Slot). s.version) slot_is;
  held = level_is;
}
  where
    journal_is : journal marks ≡ journal comes.seen.loaded.before ++ journal (comes.seen.loaded.load ∷ comes.seen.loaded.after)
    journal_is = ap journal comes.seen.loaded.place ∙ filter_map-append event_of comes.seen.loaded.before (comes.seen.loaded.load ∷ comes.seen.loaded.after)

    owed_so : AreOwed setting [] (journal comes.seen.loaded.before)
    owed_so = first_owed setting [] (journal comes.seen.loaded.before) (journal (comes.seen.loaded.load ∷ comes.seen.loaded.after))
        (subst (AreOwed setting []) journal_is (stand_and_owe setting [] marks stand))

    place_is : comes.seen.call.slot ≡ slot_of comes.app comes.place
    place_is = sym (ap (λ (x : Record). x.slot) comes.seen.is) ∙ comes.slot

    slot_is : slots_of setting (journal comes.seen.loaded.before) comes.seen.call.slot ≡ record { version = setting.first; level = 0 }
    slot_is = ap (slots_of setting (journal comes.seen.loaded.before)) place_is
        ∙ (unused setting comes.app comes.place comes.below (journal comes.seen.loaded.before) owed_so comes.untaken comes.free).slot

    level_is : r.held ≡ 0
    level_is = ap (λ (x : Record). x.held) comes.seen.is ∙ comes.seen.loaded.held ∙ ap (λ (s : Slot). s.level) slot_is

pub early_filtered : (setting : Setting) (marks : List Mark) → AreFounded setting [] marks → AreAll (Stands setting) [] marks → (writer : ℕ)
    → AllByRecursion (λ (r : Record). ComesEarly setting marks r → IsFilteredFirst setting r) (records_of writer marks)
early_filtered setting marks founded stand writer =
    all_map (IsExact setting.first (journal marks)) (λ (r : Record). ComesEarly setting marks r → IsFilteredFirst setting r) (early setting marks stand) (records_of writer marks)
    (all_filter (IsExact setting.first (journal marks)) (λ (r : Record). eqb r.item.writer writer) (filter_map record_of marks) (calls_exact setting marks founded))
