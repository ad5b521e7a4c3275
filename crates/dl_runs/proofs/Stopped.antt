-- At the end of a run no Level event is owed, and every client went.
use Rattle.std.proofs.Common.{◌≡◌, ℕ, zero, suc, ◌+◌, ◌<◌, ◌≤◌, Bool, true, false, cond, eqb, List, [], ◌∷◌, ◌++◌, Option, Some, None, refl, sym, ap, subst, ◌∙◌, append_assoc, arith, inl, inr}
use Rattle.std.specs.Prelude.{count_by, is_some, map, slice_get, ◌||◌, ◌⊎◌}
use Rattle.std.specs.List.{cons_option, filter_map, list_any, range_with_len}
use Rattle.std.proofs.lemmas.Bool.{cases_eq, eq-eqb, eqb-true}
use Rattle.std.proofs.lemmas.List.{append-nil}
use Rattle.std.proofs.lemmas.List.Elements.{filter_map-append}
use Rattle.std.proofs.lemmas.List.Folds.{list_any-append}
use Rattle.dl_lemmas.proofs.Lists.{by_end}
use Rattle.dl_bytes.specs.declared.outcome.Done.{Done}
use Rattle.dl_events.specs.declared.event.Event.{Event}
use Rattle.dl_events.specs.declared.event.Event.TheVariants as event
use Rattle.dl_events.specs.declared.event.Why.{Why}
use Rattle.dl_events.specs.declared.event.Why.TheVariants as why
use Rattle.dl_script_model.specs.declared.step.Step.{Step}
use Rattle.dl_model.specs.declared.registry.LevelChange.{LevelChange}
use Rattle.dl_model.specs.Setting.{Setting}
use Rattle.dl_model.specs.Journal.{IsOpen, IsSettled, comes_or_goes, is_connect}
use Rattle.dl_script_model.specs.Marks.{Mark, Noted, event_of, journal}
use Rattle.dl_model.specs.Report.{closed_of, why_of}
use Rattle.dl_script_model.specs.Steps.{close, in_sequence, is_open, level_noted, note, note_levels, run, when}
use Rattle.dl_runs.proofs.Relations.{AreAll, holds_on}
use Rattle.dl_laws.proofs.ClientStays.{AllSpeak, came_more, first_speak, opened, opened-one, opened_is}
use Rattle.dl_runs.proofs.Drained.{drained, levelled, whole_is, word_note}
use Rattle.dl_laws.proofs.LevelsInForce.{settled_close}
use Rattle.dl_runs.proofs.LevelTurns.{levels_in_turn}
use Rattle.dl_runs.proofs.Turns.{Going, Turn, close_in_turn, going_levels, ready, stops, stops_in_turn}
use Rattle.dl_runs.proofs.WellFormed.{plain, run_stands, stand_and_speak}

-- ---- no Level event is owed

settled_on : (setting : Setting) (done : List Mark) (mark : Mark) → IsSettled setting (journal done) → Turn setting Going done mark → IsSettled setting (journal (done ++ mark ∷ []))
settled_on setting done (Noted (event.Close client cause)) settled turn =
    subst (IsSettled setting) (sym (filter_map-append event_of done (Noted (event.Close client cause) ∷ []))) (settled_close setting (journal done) client cause settled)
settled_on setting done (Noted (event.Level slot level)) settled turn = let owes = turn.0 in absurd cc
settled_on setting done (Noted (event.Connect client)) settled turn = absurd turn.1
settled_on setting done (Noted (event.Request client frame answer)) settled turn = absurd turn.1
settled_on setting done (Noted (event.Log app writer call moment)) settled turn = absurd turn.1
settled_on setting done (Noted (event.Claim claim moment)) settled turn = absurd turn.1
settled_on setting done (Noted (event.Lost app count moment)) settled turn = absurd turn.1
settled_on setting done (Noted (event.User channel msg moment)) settled turn = absurd turn.1
settled_on setting done mark settled turn = subst (IsSettled setting) (sym (plain done mark refl)) settled

-- a run is its marks before the stop, and those of the stop
run_parts : (setting : Setting) (answers : List Done) (steps : List Step) → run setting answers steps ≡ levelled setting answers steps ++ stops setting (levelled setting answers steps)
run_parts setting answers steps =
    whole_is setting answers steps ∙ sym (append_assoc (drained setting answers steps) (note_levels setting (drained setting answers steps)) (stops setting (levelled setting answers steps)))

pub run_settled : (setting : Setting) (answers : List Done) (steps : List Step) → IsSettled setting (journal (run setting answers steps))
run_settled setting answers steps =
    let before = levelled setting answers steps in
    let settled = (levels_in_turn setting (λ done mark. Unit {0}) (λ done change turn. tt) (drained setting answers steps)).1 in
    subst (λ (ms : List Mark). IsSettled setting (journal ms)) (sym (run_parts setting answers steps))
    (holds_on (Turn setting Going) (λ done. IsSettled setting (journal done)) (settled_on setting) before (stops setting before) settled (stops_in_turn setting before))

-- ---- who is closed stays so

shut_on : (setting : Setting) (client : ℕ) (done : List Mark) (mark : Mark) → opened client (journal done) ≡ false → Turn setting Going done mark → opened client (journal (done ++ mark ∷ [])) ≡ false
shut_on setting client done (Noted (event.Close other cause)) shut turn =
    ap (opened client) (filter_map-append event_of done (Noted (event.Close other cause) ∷ [])) ∙ opened-one client (journal done) (event.Close other cause) ∙ by_test (eqb other client) where
      by_test : (b : Bool) → cond b false (opened client (journal done)) ≡ false
      by_test true = refl
      by_test false = shut
shut_on setting client done (Noted (event.Level slot level)) shut turn =
    ap (opened client) (filter_map-append event_of done (Noted (event.Level slot level) ∷ [])) ∙ opened-one client (journal done) (event.Level slot level) ∙ shut
shut_on setting client done (Noted (event.Connect other)) shut turn = absurd turn.1
shut_on setting client done (Noted (event.Request other frame answer)) shut turn = absurd turn.1
shut_on setting client done (Noted (event.Log app writer call moment)) shut turn = absurd turn.1
shut_on setting client done (Noted (event.Claim claim moment)) shut turn = absurd turn.1
shut_on setting client done (Noted (event.Lost app count moment)) shut turn = absurd turn.1
shut_on setting client done (Noted (event.User channel msg moment)) shut turn = absurd turn.1
shut_on setting client done mark shut turn = ap (opened client) (plain done mark refl) ∙ shut

stays_shut : (setting : Setting) (client : ℕ) (done marks : List Mark) → opened client (journal done) ≡ false → AreAll (Turn setting Going) done marks → opened client (journal (done ++ marks)) ≡ false
stays_shut setting client done marks shut all = holds_on (Turn setting Going) (λ ms. opened client (journal ms) ≡ false) (shut_on setting client) done marks shut all

abbrev stop : Setting → ℕ → List Mark → List Mark
stop setting client = close setting client why.Stopped

level_leaves : (client : ℕ) (done : List Mark) (c : LevelChange) → opened client (journal (done ++ level_noted c ∷ [])) ≡ opened client (journal done)
level_leaves client done c = ap (opened client) (filter_map-append event_of done (level_noted c ∷ [])) ∙ opened-one client (journal done) (event.Level c.slot c.level)

stop_shuts : (setting : Setting) (client : ℕ) (done : List Mark) → opened client (journal (done ++ stop setting client done)) ≡ false
stop_shuts setting client done = by_test (is_open client done) refl where
  by_test : (b : Bool) → is_open client done ≡ b → opened client (journal (done ++ when b (note setting (λ _. event.Close client why.Stopped)) done)) ≡ false
  by_test true is =
      let now = ready setting done in
      word_note (λ ms. opened client (journal ms)) (level_leaves client) setting (λ _. event.Close client why.Stopped) done
      ∙ ap (opened client) (filter_map-append event_of now (Noted (event.Close client why.Stopped) ∷ []))
      ∙ opened-one client (journal now) (event.Close client why.Stopped)
      ∙ ap (λ (b : Bool). cond b false (opened client (journal now))) (eq-eqb client client refl)
  by_test false is = ap (λ (ms : List Mark). opened client (journal ms)) (append-nil done) ∙ is

stop_each : (setting : Setting) (client k a : ℕ) (done : List Mark) → (opened client (journal done) ≡ false) ⊎ ((a ≤ client) × (client < a + k)) →
    opened client (journal (done ++ in_sequence (map (stop setting) (range_with_len a k)) done)) ≡ false
stop_each setting client zero a done (inl shut) = ap (λ (ms : List Mark). opened client (journal ms)) (append-nil done) ∙ shut
stop_each setting client zero a done (inr range) = absurd (omega (arith, range.0, range.1))
stop_each setting client (suc k) a done there =
    let first = stop setting a done in
    let now = done ++ first in
    let rest = in_sequence (map (stop setting) (range_with_len (a + 1) k)) now in
    let same : now ++ rest ≡ done ++ (first ++ rest) = append_assoc done first rest in
    ap (λ (ms : List Mark). opened client (journal ms)) (sym same) ∙ stop_each setting client k (a + 1) now (next there) where
      next : (opened client (journal done) ≡ false) ⊎ ((a ≤ client) × (client < a + suc k)) → (opened client (journal (done ++ stop setting a done)) ≡ false) ⊎ ((a + 1 ≤ client) × (client < a + 1 + k))
      next (inl shut) = inl (stays_shut setting client done (stop setting a done) shut (close_in_turn setting Going going_levels a why.Stopped refl tt done))
      next (inr range) = elim (cases_eq a client) [
        | inl is ↦ inl (subst (λ (c : ℕ). opened client (journal (done ++ stop setting c done)) ≡ false) (sym is) (stop_shuts setting client done))
        | inr apart ↦ inr (omega (arith, range.0, apart), omega (arith, range.1))
      ]

-- ---- who is open has a number

abbrev Numbered : List Event → Type 0
Numbered events = (client : ℕ) → opened client events ≡ true → (1 ≤ client) × (client < 1 + count_by is_connect events)

numbered_step : (before : List Event) (e : Event) → Numbered before → (comes_or_goes 0 e ≡ comes_or_goes 0 e) → ((client : ℕ) → comes_or_goes client e ≡ true → is_connect e ≡ true → client ≡ 1 + count_by is_connect before) → Numbered (before ++ e ∷ [])
numbered_step before e numbered trivial says client is = by_test (comes_or_goes client e) refl (sym (opened-one client before e) ∙ is) where
  by_test : (b : Bool) → comes_or_goes client e ≡ b → cond b (is_connect e) (opened client before) ≡ true → (1 ≤ client) × (client < 1 + count_by is_connect (before ++ e ∷ []))
  by_test true of_client comes =
      let number = says client of_client comes in
      let one : ◌≡◌ {A = ℕ} (cond (is_connect e) 1 0) 1 = ap (λ (b : Bool). cond b 1 0) comes in
      let more = came_more before e in
      (omega (arith, number), omega (arith, number, more, one))
  by_test false other still =
      let was = numbered client still in
      let more = came_more before e in
      (was.0, omega (arith, was.1, more))

abbrev Says : List Event → Event → Type 0
Says before e = (client : ℕ) → comes_or_goes client e ≡ true → is_connect e ≡ true → client ≡ 1 + count_by is_connect before

all_numbered : (before events : List Event) → Numbered before → AllSpeak before events → Numbered (before ++ events)
all_numbered before [] numbered all = subst Numbered (sym (append-nil before)) numbered
all_numbered before (e ∷ events) numbered all =
    subst Numbered (append_assoc before (e ∷ []) events) (all_numbered (before ++ e ∷ []) events (numbered_step before e numbered refl (says e all)) all.1) where
      says : (e : Event) → AllSpeak before (e ∷ events) → Says before e
      says (event.Connect other) speaks client of_client comes = sym (eqb-true other client of_client) ∙ speaks.0
      says (event.Close other cause) speaks client of_client comes = absurd cc
      says (event.Claim claim moment) speaks client of_client comes = absurd cc
      says (event.Level slot level) speaks client of_client comes = absurd cc
      says (event.Request other frame answer) speaks client of_client comes = absurd cc
      says (event.Log app writer call moment) speaks client of_client comes = absurd cc
      says (event.Lost app count moment) speaks client of_client comes = absurd cc
      says (event.User channel msg moment) speaks client of_client comes = absurd cc

-- ---- whole runs

run_speaks : (setting : Setting) (answers : List Done) (steps : List Step) → AllSpeak [] (journal (run setting answers steps))
run_speaks setting answers steps =
    stand_and_speak setting [] (run setting answers steps) (run_stands setting answers steps)

shut_from : (setting : Setting) (client : ℕ) (before : List Mark) → AllSpeak [] (journal before) → opened client (journal (before ++ stops setting before)) ≡ false
shut_from setting client before speaks = stop_each setting client (count_by is_connect (journal before)) 1 before (by_open (opened client (journal before)) refl) where
  by_open : (b : Bool) → opened client (journal before) ≡ b → (opened client (journal before) ≡ false) ⊎ ((1 ≤ client) × (client < 1 + count_by is_connect (journal before)))
  by_open true is = inr (all_numbered [] (journal before) (λ c none. absurd cc) speaks client is)
  by_open false is = inl is

pub all_shut : (setting : Setting) (answers : List Done) (steps : List Step) (client : ℕ) → opened client (journal (run setting answers steps)) ≡ false
all_shut setting answers steps client =
    let before = levelled setting answers steps in
    let speaks : AllSpeak [] (journal before) = first_speak [] (journal before) (journal (stops setting before))
    (subst (AllSpeak []) (ap journal (run_parts setting answers steps) ∙ filter_map-append event_of before (stops setting before)) (run_speaks setting answers steps)) in
    ap (λ (ms : List Mark). opened client (journal ms)) (run_parts setting answers steps) ∙ shut_from setting client before speaks

pub nobody_open : (setting : Setting) (answers : List Done) (steps : List Step) (client : ℕ) → IsOpen client (journal (run setting answers steps)) → ⊥
nobody_open setting answers steps client is =
    let there : opened client (journal (run setting answers steps)) ≡ true = opened_is client (journal (run setting answers steps)) is in
    let not = all_shut setting answers steps client in
    absurd cc

-- ---- every client that came has a Close

abbrev HaveCome : List Event → Type 0
HaveCome events = (client : ℕ) → 1 ≤ client → client < 1 + count_by is_connect events → list_any (comes_or_goes client) events ≡ true

any_before : (p : Event → Bool) (xs ys : List Event) → list_any p xs ≡ true → list_any p (xs ++ ys) ≡ true
any_before p xs ys is = list_any-append p xs ys ∙ ap (λ (b : Bool). b || list_any p ys) is

any_last : (p : Event → Bool) (xs : List Event) (x : Event) → p x ≡ true → list_any p (xs ++ x ∷ []) ≡ true
any_last p xs x is = list_any-append p xs (x ∷ []) ∙ ap (λ (b : Bool). list_any p xs || (b || false)) is ∙ either (list_any p xs) where
  either : (b : Bool) → (b || true) ≡ true
  either true = refl
  either false = refl

come_step : (before : List Event) (e : Event) (events : List Event) → HaveCome before → AllSpeak before (e ∷ events) → HaveCome (before ++ e ∷ [])
come_step before (event.Connect other) events come speaks client least most =
    let more : count_by is_connect (before ++ event.Connect other ∷ []) ≡ count_by is_connect before + 1 = came_more before (event.Connect other) in
    elim (cases_eq other client) [
      | inl same ↦ any_last (comes_or_goes client) before (event.Connect other) (eq-eqb other client same)
      | inr apart ↦ any_before (comes_or_goes client) before (event.Connect other ∷ []) (come client least (omega (arith, most, more, apart, speaks.0)))
    ]
come_step before e events come speaks client least most = any_before (comes_or_goes client) before (e ∷ []) (come client least (omega (arith, most, came_more before e, none e))) where
  none : (e : Event) → ◌≡◌ {A = ℕ} (cond (is_connect e) 1 0) (cond (is_connect e) 1 0)
  none e = refl

all_come : (before events : List Event) → HaveCome before → AllSpeak before events → HaveCome (before ++ events)
all_come before [] come all = subst HaveCome (sym (append-nil before)) come
all_come before (e ∷ events) come all = subst HaveCome (append_assoc before (e ∷ []) events) (all_come (before ++ e ∷ []) events (come_step before e events come all) all.1)

-- a client that came and isn't open went
abbrev HasClose : ℕ → List Event → Type 0
HasClose client events = opened client events ≡ false → list_any (comes_or_goes client) events ≡ true → is_some (why_of client events) ≡ true

first_longer : (xs ys : List Why) → is_some (slice_get xs 0) ≡ true → is_some (slice_get (xs ++ ys) 0) ≡ true
first_longer [] ys is = absurd cc
first_longer (x ∷ xs) ys is = refl

first_there : (xs : List Why) (x : Why) → is_some (slice_get (xs ++ x ∷ []) 0) ≡ true
first_there [] x = refl
first_there (y ∷ xs) x = refl

close_step : (client : ℕ) (events : List Event) (e : Event) → HasClose client events → HasClose client (events ++ e ∷ [])
close_step client events e has shut came = by_event e refl where
  later : comes_or_goes client e ≡ false → is_some (why_of client (events ++ e ∷ [])) ≡ true
  later quiet =
      let still : opened client events ≡ false = ap (λ (b : Bool). cond b (is_connect e) (opened client events)) (sym quiet) ∙ sym (opened-one client events e) ∙ shut in
      let there : list_any (comes_or_goes client) events ≡ true = either (list_any (comes_or_goes client) events) (sym (list_any-append (comes_or_goes client) events (e ∷ [])) ∙ came) in
      ap (λ (ws : List Why). is_some (slice_get ws 0)) (filter_map-append (closed_of client) events (e ∷ [])) ∙ first_longer (filter_map (closed_of client) events) (filter_map (closed_of client) (e ∷ [])) (has still there) where
        either : (b : Bool) → (b || (comes_or_goes client e || false)) ≡ true → b ≡ true
        either true is = refl
        either false is = let no : (comes_or_goes client e || false) ≡ false = ap (λ (b : Bool). b || false) quiet in absurd cc

  by_event : (x : Event) → x ≡ e → is_some (why_of client (events ++ e ∷ [])) ≡ true
  by_event (event.Close other cause) same = by_test (eqb other client) refl where
    by_test : (b : Bool) → eqb other client ≡ b → is_some (why_of client (events ++ e ∷ [])) ≡ true
    by_test true is =
        let here : closed_of client e ≡ Some cause = ap (closed_of client) (sym same) ∙ ap (λ (b : Bool). cond b (Some cause) None) is in
        ap (λ (ws : List Why). is_some (slice_get ws 0)) (filter_map-append (closed_of client) events (e ∷ []) ∙ ap (λ (o : Option Why). filter_map (closed_of client) events ++ cons_option o []) here)
        ∙ first_there (filter_map (closed_of client) events) cause
    by_test false is = later (ap (comes_or_goes client) (sym same) ∙ is)
  by_event (event.Connect other) same = by_test (eqb other client) refl where
    by_test : (b : Bool) → eqb other client ≡ b → is_some (why_of client (events ++ e ∷ [])) ≡ true
    by_test true is =
        let open_now : opened client (events ++ e ∷ []) ≡ true = opened-one client events e ∙ ap (λ (x : Event). cond (comes_or_goes client x) (is_connect x) (opened client events)) (sym same) ∙ ap (λ (b : Bool). cond b true (opened client events)) is in
        absurd cc
    by_test false is = later (ap (comes_or_goes client) (sym same) ∙ is)
  by_event (event.Claim claim moment) same = later (ap (comes_or_goes client) (sym same))
  by_event (event.Level slot level) same = later (ap (comes_or_goes client) (sym same))
  by_event (event.Request other frame answer) same = later (ap (comes_or_goes client) (sym same))
  by_event (event.Log app writer call moment) same = later (ap (comes_or_goes client) (sym same))
  by_event (event.Lost app count moment) same = later (ap (comes_or_goes client) (sym same))
  by_event (event.User channel msg moment) same = later (ap (comes_or_goes client) (sym same))

pub all_went : (setting : Setting) (answers : List Done) (steps : List Step) (client : ℕ) → 1 ≤ client → client ≤ count_by is_connect (journal (run setting answers steps)) → is_some (why_of client (journal (run setting answers steps))) ≡ true
all_went setting answers steps client least most =
    let events = journal (run setting answers steps) in
    by_end (HasClose client) (λ shut came. absurd cc) (close_step client) events (all_shut setting answers steps client)
    (all_come [] events (λ c low high. absurd (omega (arith, low, high))) (run_speaks setting answers steps) client least (omega (arith, most)))
