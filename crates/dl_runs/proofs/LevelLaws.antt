-- What an exact record says of its level, and how long a history is.
use Rattle.std.proofs.Common.{◌≡◌, ℕ, ◌+◌, ◌<◌, ◌≤◌, Bool, true, false, cond, eqb, List, [], ◌∷◌, length, Some, None, refl, sym, ap, ◌∙◌, arith}
use Rattle.std.specs.Prelude.{count_by, not}
use Rattle.std.specs.List.{filter_map, cons_option}
use Rattle.std.proofs.lemmas.Bool.{leb-true, leb-false, not-true, not-false}
use Rattle.std.proofs.lemmas.List.Sums.{sum_by-cons}
use Rattle.dl_bytes.specs.Level.{severity_number, passes}
use Rattle.dl_events.specs.declared.event.Event.{Event}
use Rattle.dl_events.specs.declared.event.Event.TheVariants as event
use Rattle.dl_events.specs.declared.record.Record.{Record}
use Rattle.dl_events.specs.declared.record.Answer.TheVariants as answer
use Rattle.dl_model.specs.Accounts.{IsExact}
use Rattle.dl_model.specs.History.{level_for, history}
use Rattle.dl_model.specs.Report.{is_answer}
use Rattle.dl_runs.specs.RunRecords.{is_level_of}

pub filtered_above : (first : ℕ) (events : List Event) (r : Record) → IsExact first events r → r.answer ≡ answer.Filtered → r.held < severity_number r.item.severity
filtered_above first events r exact is =
    let here : not (passes r.item.severity r.held) ≡ true = sym exact.filtered ∙ ap (is_answer answer.Filtered) is in
    leb-false (severity_number r.item.severity) r.held (not-true (passes r.item.severity r.held) here)

passing : (first : ℕ) (events : List Event) (r : Record) → IsExact first events r → is_answer answer.Filtered r.answer ≡ false → severity_number r.item.severity ≤ r.held
passing first events r exact is = leb-true (severity_number r.item.severity) r.held (not-false (passes r.item.severity r.held) (sym exact.filtered ∙ is))

pub queued_within : (first : ℕ) (events : List Event) (r : Record) → IsExact first events r → r.answer ≡ answer.Queued → severity_number r.item.severity ≤ r.held
queued_within first events r exact is = passing first events r exact (ap (is_answer answer.Filtered) is)

pub lost_within : (first : ℕ) (events : List Event) (r : Record) → IsExact first events r → r.answer ≡ answer.Lost → severity_number r.item.severity ≤ r.held
lost_within first events r exact is = passing first events r exact (ap (is_answer answer.Filtered) is)

levels_of : (events : List Event) (slot : ℕ) → length (filter_map (level_for slot) events) ≡ count_by (is_level_of slot) events
levels_of [] slot = refl
levels_of (event.Level other level ∷ events) slot = by_test (eqb other slot) (levels_of events slot) ∙ sym (sum_by-cons (λ (e : Event). cond (is_level_of slot e) 1 0) (event.Level other level) events) where
  by_test : (b : Bool) → length (filter_map (level_for slot) events) ≡ count_by (is_level_of slot) events →
      length (cons_option (cond b (Some level) None) (filter_map (level_for slot) events)) ≡ cond b 1 0 + count_by (is_level_of slot) events
  by_test true is = omega (arith, is)
  by_test false is = omega (arith, is)
levels_of (e ∷ events) slot = omega (arith, levels_of events slot) ∙ sym (sum_by-cons (λ (x : Event). cond (is_level_of slot x) 1 0) e events)

pub entries : (events : List Event) (slot : ℕ) → length (history events slot) ≡ 1 + count_by (is_level_of slot) events
entries events slot = omega (arith, levels_of events slot)
