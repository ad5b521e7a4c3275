-- The lines of applications by their counts.
use Rattle.std.proofs.Common.{◌≡◌, ℕ, ◌+◌, ◌<◌, cond, List, [], ◌∷◌, ◌++◌, length, drop, get_or, codes, suc, refl, sym, ap, ◌∙◌, append_assoc, drop-cons, add-one, arith}
use Rattle.std.specs.Fmt.{decimal}
use Rattle.std.specs.List.{flat_map}
use Rattle.std.proofs.lemmas.Option.{slice_get-get_or}
use Rattle.dl_bytes.specs.declared.conf.AppSpec.{AppSpec}
use Rattle.dl_text.specs.IdText.{id_text}
use Rattle.dl_events.specs.declared.event.Event.{Event}
use Rattle.dl_events.specs.declared.record.Record.{Record}
use Rattle.dl_events.specs.declared.record.Answer.{Answer}
use Rattle.dl_events.specs.declared.record.Answer.TheVariants as answer
use Rattle.dl_model.specs.Report.{answered, is_answer, records_of_app, reported, text_line, app_line, app_lines}
use Rattle.dl_report.specs.declared.count.AppCounts.{AppCounts}
use Rattle.dl_report.specs.Counts.{Each, IsCount}
use Rattle.dl_report.specs.Line.{counted_line}
use Rattle.dl_report.proofs.Counting.{answered_first}

-- each call has one of the three answers
one_answer : (a : Answer) (q f l : ℕ) → suc (q + f + l) ≡ cond (is_answer answer.Queued a) 1 0 + q + (cond (is_answer answer.Filtered a) 1 0 + f) + (cond (is_answer answer.Lost a) 1 0 + l)
one_answer answer.Queued q f l = omega arith
one_answer answer.Filtered q f l = omega arith
one_answer answer.Lost q f l = omega arith

all_answers : (rs : List Record) → answered answer.Queued rs + answered answer.Filtered rs + answered answer.Lost rs ≡ length rs
all_answers [] = refl
all_answers (r ∷ rs) =
    let q = answered_first answer.Queued r rs in let f = answered_first answer.Filtered r rs in let l = answered_first answer.Lost r rs in
    rw (q, f, l) (sym (one_answer r.answer (answered answer.Queued rs) (answered answer.Filtered rs) (answered answer.Lost rs)) ∙ ap suc (all_answers rs))

line_of_counts : (records : List (List Record)) (events : List Event) (app : ℕ) (apid : List ℕ) (counts : AppCounts)
    → IsCount (flat_map (λ (rs : List Record). rs) records) events app counts
    → counted_line apid counts ≡ app_line apid (records_of_app app records) (reported app events)
line_of_counts records events app apid counts is =
    ap (counted_line apid) is
    ∙ ap (λ (calls : ℕ). text_line (
    codes "app" ∷ id_text apid ∷ codes "calls" ∷ decimal calls ∷ codes "queued" ∷ decimal (answered answer.Queued (records_of_app app records))
    ∷ codes "filtered" ∷ decimal (answered answer.Filtered (records_of_app app records)) ∷ codes "lost" ∷ decimal (answered answer.Lost (records_of_app app records))
    ∷ codes "reported" ∷ decimal (reported app events) ∷ [])) (all_answers (records_of_app app records))

-- with one line more, the lines that are left are those of the applications that are left
pub apps_go_on : (records : List (List Record)) (events : List Event) (specs : List AppSpec) (table : List AppCounts) (n : ℕ) (spec : AppSpec) (d : AppCounts) (all mid new : List ℕ)
    → n < length specs → length table ≡ length specs → spec ≡ get_or specs n spec → Each (IsCount (flat_map (λ (rs : List Record). rs) records) events) table
    → mid ++ app_lines records events n (drop n specs) ≡ all → new ≡ mid ++ counted_line spec.apid (get_or table n d)
    → new ++ app_lines records events (n + 1) (drop (n + 1) specs) ≡ all
apps_go_on records events specs table n spec d all mid new within long is counted so_far new_is =
    let count : IsCount (flat_map (λ (rs : List Record). rs) records) events n (get_or table n d) = counted n (get_or table n d) (slice_get-get_or table n d (omega arith)) in
    let rest : drop n specs ≡ spec ∷ drop (n + 1) specs = rw add-one (drop-cons specs n spec within ∙ ap (λ x. x ∷ drop (suc n) specs) (sym is)) in
    let own = app_line spec.apid (records_of_app n records) (reported n events) in
    ap (λ t. t ++ app_lines records events (n + 1) (drop (n + 1) specs)) (new_is ∙ ap (λ t. mid ++ t) (line_of_counts records events n spec.apid (get_or table n d) count))
    ∙ append_assoc mid own (app_lines records events (n + 1) (drop (n + 1) specs))
    ∙ ap (λ (left : List AppSpec). mid ++ app_lines records events n left) (sym rest) ∙ so_far
