-- Marks of lines that have no Lost event of an application, and of lines that have no step of a writer.
use Rattle.std.proofs.Common.{◌≡◌, ℕ, true, false, eqb, List, refl, arith}
use Rattle.std.proofs.lemmas.Bool.Decides.{nat_tests}
use Rattle.dl_bytes.specs.declared.outcome.Done.{Done}
use Rattle.dl_events.specs.declared.event.Event.TheVariants as event
use Rattle.dl_script_model.specs.declared.step.Step.{Step}
use Rattle.dl_script_model.specs.declared.step.Step.TheVariants as line
use Rattle.dl_model.specs.Setting.{Setting}
use Rattle.dl_script_model.specs.Marks.{Mark, Counted, Filtered, Noted, Passed, Queued, Refused, is_lost_of, is_step_of, number_of}
use Rattle.dl_script_model.specs.Steps.{act_of, take_losses}
use Rattle.dl_runs.proofs.Relations.{Keeps, asked_for}
use Rattle.dl_fates.proofs.Walks.{Suits, is_plain, line_walk, losses_walk}

-- ---- no Lost event of an application

abbrev pub NoLoss : ℕ → List Mark → Mark → Type 0
NoLoss app done mark = is_lost_of app mark ≡ false

plain_no_loss : (app : ℕ) (done : List Mark) (mark : Mark) → is_plain mark ≡ true → NoLoss app done mark
plain_no_loss app done (Noted (event.Lost other count moment)) is = absurd cc
plain_no_loss app done mark is = refl

step_no_loss : (app writer : ℕ) → Unit {0} → (done : List Mark) (mark : Mark) → is_step_of writer mark ≡ true → NoLoss app done mark
step_no_loss app writer so done (Noted e) is = absurd cc
step_no_loss app writer so done mark is = refl

-- a line that takes no losses
abbrev pub TakesNone : Step → Type 0
TakesNone (line.Losses apid) = ⊥
TakesNone _ = Unit {0}

suits_none : (app : ℕ) (step : Step) → TakesNone step → Suits (λ writer. Unit {0}) step
suits_none app (line.Losses apid) none = none
suits_none app step none = tt

pub line_silent : (app : ℕ) (setting : Setting) (answers : List Done) (step : Step) → TakesNone step → Keeps (NoLoss app) (act_of setting answers step)
line_silent app setting answers step none =
    line_walk (NoLoss app) (plain_no_loss app) (λ writer. Unit {0}) (step_no_loss app) setting answers step (suits_none app step none)

pub losses_silent : (app : ℕ) (setting : Setting) (other : ℕ) → eqb other app ≡ false → Keeps (NoLoss app) (take_losses setting other)
losses_silent app setting other apart = losses_walk (NoLoss app) (plain_no_loss app) (λ writer. Unit {0}) (step_no_loss app) setting other (λ d. apart)

-- ---- no step of a writer

abbrev pub NoStep : ℕ → List Mark → Mark → Type 0
NoStep writer done mark = is_step_of writer mark ≡ false

plain_no_step : (writer : ℕ) (done : List Mark) (mark : Mark) → is_plain mark ≡ true → NoStep writer done mark
plain_no_step writer done (Filtered c) is = absurd cc
plain_no_step writer done (Passed c) is = absurd cc
plain_no_step writer done (Queued c) is = absurd cc
plain_no_step writer done (Refused c) is = absurd cc
plain_no_step writer done (Counted c) is = absurd cc
plain_no_step writer done mark is = refl

apart_by : (writer other own : ℕ) → eqb other writer ≡ false → eqb own other ≡ true → eqb own writer ≡ false
apart_by writer other own apart is = grind (arith, nat_tests, apart, is)

step_no_step : (writer other : ℕ) → eqb other writer ≡ false → (done : List Mark) (mark : Mark) → is_step_of other mark ≡ true → NoStep writer done mark
step_no_step writer other apart done (Filtered c) is = apart_by writer other c.item.writer apart is
step_no_step writer other apart done (Passed c) is = apart_by writer other c.item.writer apart is
step_no_step writer other apart done (Queued c) is = apart_by writer other c.item.writer apart is
step_no_step writer other apart done (Refused c) is = apart_by writer other c.item.writer apart is
step_no_step writer other apart done (Counted c) is = apart_by writer other c.item.writer apart is
step_no_step writer other apart done mark is = refl

-- a line that moves no call of the writer
abbrev pub MovesNone : ℕ → Step → Type 0
MovesNone writer (line.Load call) = eqb call.writer writer ≡ false
MovesNone writer (line.Push other) = eqb other writer ≡ false
MovesNone writer (line.Count other) = eqb other writer ≡ false
MovesNone writer (line.Call call) = eqb call.writer writer ≡ false
MovesNone writer (line.Log call) = eqb call.writer writer ≡ false
MovesNone writer (line.Claim asked) = eqb asked.writer writer ≡ false
MovesNone writer (line.Announce other) = eqb other writer ≡ false
MovesNone writer (line.Register asked) = eqb asked.writer writer ≡ false
MovesNone writer _ = Unit {0}

pub line_still : (writer : ℕ) (setting : Setting) (answers : List Done) (step : Step) → MovesNone writer step → Keeps (NoStep writer) (act_of setting answers step)
line_still writer setting answers (line.Losses apid) so = λ done.
    asked_for (NoStep writer) (number_of apid done) (take_losses setting) done
    (λ app found. losses_walk (NoStep writer) (plain_no_step writer) (λ other. eqb other writer ≡ false) (step_no_step writer) setting app (λ d. refl) done)
line_still writer setting answers (line.Load call) so = line_walk (NoStep writer) (plain_no_step writer) (λ other. eqb other writer ≡ false) (step_no_step writer) setting answers (line.Load call) so
line_still writer setting answers (line.Push other) so = line_walk (NoStep writer) (plain_no_step writer) (λ other. eqb other writer ≡ false) (step_no_step writer) setting answers (line.Push other) so
line_still writer setting answers (line.Count other) so = line_walk (NoStep writer) (plain_no_step writer) (λ other. eqb other writer ≡ false) (step_no_step writer) setting answers (line.Count other) so
line_still writer setting answers (line.Call call) so = line_walk (NoStep writer) (plain_no_step writer) (λ other. eqb other writer ≡ false) (step_no_step writer) setting answers (line.Call call) so
line_still writer setting answers (line.Log call) so = line_walk (NoStep writer) (plain_no_step writer) (λ other. eqb other writer ≡ false) (step_no_step writer) setting answers (line.Log call) so
line_still writer setting answers (line.Claim asked) so = line_walk (NoStep writer) (plain_no_step writer) (λ other. eqb other writer ≡ false) (step_no_step writer) setting answers (line.Claim asked) so
line_still writer setting answers (line.Announce other) so = line_walk (NoStep writer) (plain_no_step writer) (λ other. eqb other writer ≡ false) (step_no_step writer) setting answers (line.Announce other) so
line_still writer setting answers (line.Register asked) so = line_walk (NoStep writer) (plain_no_step writer) (λ other. eqb other writer ≡ false) (step_no_step writer) setting answers (line.Register asked) so
line_still writer setting answers step so = line_walk (NoStep writer) (plain_no_step writer) (λ other. eqb other writer ≡ false) (step_no_step writer) setting answers step tt
