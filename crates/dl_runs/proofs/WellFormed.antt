-- The journal of a run is well-formed.
use Rattle.std.proofs.Common.{◌≡◌, ℕ, false, List, [], ◌∷◌, ◌++◌, Option, None, refl, sym, ap, subst, ◌∙◌, append_assoc, inl, inr}
use Rattle.std.specs.Prelude.{map, ◌⊎◌, ◌||◌}
use Rattle.std.specs.List.{cons_option, list_any}
use Rattle.std.proofs.lemmas.Bool.{or_from}
use Rattle.std.proofs.lemmas.List.{append-nil}
use Rattle.std.proofs.lemmas.List.Elements.{filter_map-append}
use Rattle.std.proofs.lemmas.List.Folds.{list_any-append}
use Rattle.dl_bytes.specs.declared.outcome.Done.{Done}
use Rattle.dl_events.specs.declared.event.Event.{Event}
use Rattle.dl_events.specs.declared.event.Event.TheVariants as event
use Rattle.dl_events.specs.declared.event.Why.{Why}
use Rattle.dl_events.specs.declared.event.Why.TheVariants as why
use Rattle.dl_script_model.specs.declared.step.Step.{Step}
use Rattle.dl_model.specs.Setting.{Setting}
use Rattle.dl_model.specs.Frames.{FrameSource}
use Rattle.dl_model.specs.Journal.{is_stop, is_slow, IsRunning, IsSlowAsTold, IsInTurn, AreInTurn, IsWellFormed}
use Rattle.dl_script_model.specs.Marks.{Mark, Noted, journal, event_of}
use Rattle.dl_script_model.specs.Steps.{Act, in_sequence, act_of, note_levels, end_of, after_lines, run}
use Rattle.dl_script_model.proofs.Marks.{in_sequence-one}
use Rattle.dl_laws.specs.PresentClaims.{IsThere, AreThere, ClaimsArePresent}
use Rattle.dl_laws.proofs.ClientStays.{Speaks, AllSpeak}
use Rattle.dl_runs.proofs.Relations.{AreAll, both, weaker}
use Rattle.dl_runs.proofs.Turns.{TurnOf, NoStop, Going, Turn, finishes, drains, stops, before_stop, lines_in_turn, before_stop_in_turn, stops_in_turn}

-- ---- acts in turn, in two parts

pub in_sequence-append : (acts others : List Act) (done : List Mark) → in_sequence (acts ++ others) done ≡ in_sequence acts done ++ in_sequence others (done ++ in_sequence acts done)
in_sequence-append [] others done = ap (in_sequence others) (sym (append-nil done))
in_sequence-append (act ∷ acts) others done =
    let now = done ++ act done in
    let later : in_sequence (acts ++ others) now ≡ in_sequence acts now ++ in_sequence others (done ++ (act done ++ in_sequence acts now)) =
    in_sequence-append acts others now ∙ ap (λ d. in_sequence acts now ++ in_sequence others d) (append_assoc done (act done) (in_sequence acts now)) in
    ap (λ (ms : List Mark). act done ++ ms) later ∙ sym (append_assoc (act done) (in_sequence acts now) (in_sequence others (done ++ (act done ++ in_sequence acts now))))

-- a run, up to the stop of its clients and behind it
pub run_is : (setting : Setting) (answers : List Done) (steps : List Step) → run setting answers steps ≡ before_stop setting answers steps [] ++ stops setting (before_stop setting answers steps [])
run_is setting answers steps =
    let lines = map (act_of setting answers) steps in
    let first = in_sequence lines [] in
    let begin_end : List Act = finishes ∷ drains setting ∷ note_levels setting ∷ [] in
    let last = in_sequence begin_end first in
    let before_is : before_stop setting answers steps [] ≡ first ++ last = in_sequence-one lines (in_sequence begin_end) [] in
    let end_is : end_of setting first ≡ last ++ stops setting (first ++ last) = in_sequence-one begin_end (stops setting) first in
    let whole : run setting answers steps ≡ first ++ (last ++ stops setting (first ++ last)) = in_sequence-one lines (end_of setting) [] ∙ ap (λ (ms : List Mark). first ++ ms) end_is in
    whole ∙ sym (append_assoc first last (stops setting (first ++ last))) ∙ ap (λ d. d ++ stops setting d) (sym before_is)

-- ---- each event in its turn

-- while the daemon runs, or at its stop
abbrev pub Stands : Setting → List Mark → Mark → Type 0
Stands setting done mark = (Turn setting NoStop done mark × IsRunning (journal done)) ⊎ (Turn setting Going done mark)

no_slow : (setting : Setting) (source : FrameSource) (before : List Event) (client : ℕ) (cause : Why) (events : List Event) → is_slow (event.Close client cause) ≡ false → IsSlowAsTold setting source before client cause events
no_slow setting source before client (why.Slow room need) events none = absurd cc
no_slow setting source before client _ events none = tt

while_running : (setting : Setting) (source : FrameSource) (before : List Event) (e : Event) (events : List Event) → TurnOf setting before e → IsRunning before → IsThere setting before e → IsInTurn setting source before e events
while_running setting source before (event.Level slot level) events turn running there = turn
while_running setting source before (event.Connect client) events turn running there =
    record { settled = turn.settled; running = running; number = turn.number; limit = turn.limit; at_most = turn.at_most }
while_running setting source before (event.Request client frame answer) events turn running there = turn
while_running setting source before (event.Close client cause) events turn running there =
    record { settled = turn.settled; is_open = turn.is_open; slow = no_slow setting source before client cause events turn.not_slow }
while_running setting source before (event.Claim claim moment) events turn running there = record { settled = turn; running = running; there = there }
while_running setting source before (event.Log app writer call moment) events turn running there = (turn, running)
while_running setting source before (event.Lost app count moment) events turn running there = (turn, running)
while_running setting source before (event.User channel msg moment) events turn running there = (turn, running)

at_stop : (setting : Setting) (source : FrameSource) (before : List Event) (e : Event) (events : List Event) → TurnOf setting before e → Going e → IsInTurn setting source before e events
at_stop setting source before (event.Level slot level) events turn going = turn
at_stop setting source before (event.Close client cause) events turn going =
    record { settled = turn.settled; is_open = turn.is_open; slow = no_slow setting source before client cause events turn.not_slow }
at_stop setting source before _ events turn going = absurd going

event_stands : (setting : Setting) (source : FrameSource) (done : List Mark) (e : Event) (events : List Event) → Stands setting done (Noted e) → IsThere setting (journal done) e → IsInTurn setting source (journal done) e events
event_stands setting source done e events (inl is) there = while_running setting source (journal done) e events is.0.0 is.1 there
event_stands setting source done e events (inr is) there = at_stop setting source (journal done) e events is.0 is.1

-- a mark that is no event changes nothing
pub plain : (done : List Mark) (mark : Mark) → event_of mark ≡ None → journal (done ++ mark ∷ []) ≡ journal done
plain done mark none = filter_map-append event_of done (mark ∷ []) ∙ ap (λ (o : Option Event). journal done ++ cons_option o []) none ∙ append-nil (journal done)

pub stand_in_turn : (setting : Setting) (source : FrameSource) (before marks : List Mark) → AreAll (Stands setting) before marks → AreThere setting (journal before) (journal marks) → AreInTurn setting source (journal before) (journal marks)
stand_in_turn setting source before [] all there = tt
stand_in_turn setting source before (Noted e ∷ marks) all there =
    let more = filter_map-append event_of before (Noted e ∷ []) in (
      event_stands setting source before e (journal marks) all.0 there.0,
      subst (λ b. AreInTurn setting source b (journal marks)) more
          (stand_in_turn setting source (before ++ Noted e ∷ []) marks all.1 (subst (λ b. AreThere setting b (journal marks)) (sym more) there.1)),
    )
stand_in_turn setting source before (mark ∷ marks) all there =
    let same = plain before mark refl in
    subst (λ b. AreInTurn setting source b (journal marks)) same
    (stand_in_turn setting source (before ++ mark ∷ []) marks all.1 (subst (λ b. AreThere setting b (journal marks)) (sym same) there))

-- what each event says of clients holds of every run
event_speaks : (setting : Setting) (done : List Mark) (e : Event) → Stands setting done (Noted e) → Speaks (journal done) e
event_speaks setting done (event.Connect client) (inl is) = is.0.0.number
event_speaks setting done (event.Connect client) (inr is) = is.0.number
event_speaks setting done (event.Close client cause) (inl is) = is.0.0.is_open
event_speaks setting done (event.Close client cause) (inr is) = is.0.is_open
event_speaks setting done _ stands = tt

pub stand_and_speak : (setting : Setting) (before marks : List Mark) → AreAll (Stands setting) before marks → AllSpeak (journal before) (journal marks)
stand_and_speak setting before [] all = tt
stand_and_speak setting before (Noted e ∷ marks) all = (
  event_speaks setting before e all.0,
  subst (λ b. AllSpeak b (journal marks)) (filter_map-append event_of before (Noted e ∷ [])) (stand_and_speak setting (before ++ Noted e ∷ []) marks all.1),
)
stand_and_speak setting before (mark ∷ marks) all =
    subst (λ b. AllSpeak b (journal marks)) (plain before mark refl) (stand_and_speak setting (before ++ mark ∷ []) marks all.1)

-- ---- no event of the stop

runs_on : (setting : Setting) (done : List Mark) (mark : Mark) → Turn setting NoStop done mark → IsRunning (journal done) → IsRunning (journal (done ++ mark ∷ []))
runs_on setting done (Noted e) turn running =
    ap (list_any is_stop) (filter_map-append event_of done (Noted e ∷ [])) ∙ list_any-append is_stop (journal done) (e ∷ []) ∙ or_from (list_any is_stop (journal done)) (is_stop e || false) running (or_from (is_stop e) false turn.1 refl)
runs_on setting done mark turn running = ap (list_any is_stop) (plain done mark refl) ∙ running

pub stand_while_running : (setting : Setting) (before marks : List Mark) → AreAll (Turn setting NoStop) before marks → IsRunning (journal before) → AreAll (Stands setting) before marks
stand_while_running setting before [] all running = tt
stand_while_running setting before (mark ∷ marks) all running =
    (inl (all.0, running), stand_while_running setting (before ++ mark ∷ []) marks all.1 (runs_on setting before mark all.0 running))

-- ---- whole runs

pub lines_stand : (setting : Setting) (answers : List Done) (steps : List Step) → AreAll (Stands setting) [] (after_lines setting answers steps)
lines_stand setting answers steps = stand_while_running setting [] (after_lines setting answers steps) (lines_in_turn setting answers steps) refl

pub run_stands : (setting : Setting) (answers : List Done) (steps : List Step) → AreAll (Stands setting) [] (run setting answers steps)
run_stands setting answers steps =
    let begun = before_stop setting answers steps [] in
    let ended = stops setting begun in
    subst (AreAll (Stands setting) []) (sym (run_is setting answers steps))
    (both (Stands setting) [] begun ended (stand_while_running setting [] begun (before_stop_in_turn setting answers steps) refl)
    (weaker (Turn setting Going) (Stands setting) (λ done mark turn. inr turn) begun ended (stops_in_turn setting begun)))

pub lines_well_formed : (setting : Setting) (source : FrameSource) (answers : List Done) (steps : List Step) →
    ClaimsArePresent setting (journal (after_lines setting answers steps)) → IsWellFormed setting source (journal (after_lines setting answers steps))
lines_well_formed setting source answers steps = stand_in_turn setting source [] (after_lines setting answers steps) (lines_stand setting answers steps)

pub run_well_formed : (setting : Setting) (source : FrameSource) (answers : List Done) (steps : List Step) →
    ClaimsArePresent setting (journal (run setting answers steps)) → IsWellFormed setting source (journal (run setting answers steps))
run_well_formed setting source answers steps = stand_in_turn setting source [] (run setting answers steps) (run_stands setting answers steps)
