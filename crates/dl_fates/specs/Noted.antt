-- Which line of a step script notes the next Lost event of an application, after the marks before it.
use Rattle.std.specs.Prelude.{ℕ, ◌==◌, Bool, true, false, List, [], ◌∷◌, ◌++◌, Option, Some, None, find, if◌then◌else◌}
use Rattle.std.specs.List.{list_any}
use Rattle.std.specs.Option.{option_map_or}
use Rattle.dl_bytes.specs.declared.outcome.Done.{Done}
use Rattle.dl_model.specs.Setting.{Setting}
use Rattle.dl_script_model.specs.Marks.{Mark, Counted, Refused, is_lost_of, is_step_of}
use Rattle.dl_script_model.specs.Steps.{act_of}
use Rattle.dl_fates.specs.Lines.{StepAt}

-- marks that have a Lost event of the application
abbrev pub has_lost : ℕ → List Mark → Bool
has_lost app marks = list_any (is_lost_of app) marks

-- the first of these lines whose step comes to such marks
abbrev pub next_lost : Setting → List Done → ℕ → List StepAt → List Mark → Option ℕ
next_lost setting answers app [] done = None
next_lost setting answers app (at ∷ steps) done =
    let more = act_of setting answers at.step done in
    if has_lost app more then Some at.line else next_lost setting answers app steps (done ++ more)

-- ---- the call of a writer that is open

abbrev pub is_counted_by : ℕ → Mark → Bool
is_counted_by writer (Counted c) = c.item.writer == writer
is_counted_by writer _ = false

-- marks that count a call of the writer
abbrev pub has_counted : ℕ → List Mark → Bool
has_counted writer marks = list_any (is_counted_by writer) marks

-- the line that notes the next Lost event behind the first of these lines that counts a call of the writer
abbrev pub lost_behind_count : Setting → List Done → (writer app : ℕ) → List StepAt → List Mark → Option ℕ
lost_behind_count setting answers writer app [] done = None
lost_behind_count setting answers writer app (at ∷ steps) done =
    let more = act_of setting answers at.step done in
    if has_counted writer more then next_lost setting answers app steps (done ++ more) else lost_behind_count setting answers writer app steps (done ++ more)

abbrev pub is_refused : Mark → Bool
is_refused (Refused c) = true
is_refused _ = false

-- the next step of the writer in these lines is a push that the ring refuses
abbrev pub is_refused_next : Setting → List Done → ℕ → List StepAt → List Mark → Bool
is_refused_next setting answers writer [] done = false
is_refused_next setting answers writer (at ∷ steps) done =
    let more = act_of setting answers at.step done in
    option_map_or is_refused (find (is_step_of writer) more) (is_refused_next setting answers writer steps (done ++ more))
