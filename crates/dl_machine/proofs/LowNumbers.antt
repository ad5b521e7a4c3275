-- Channels are numbered from 1.
use Rattle.std.proofs.Common.{◌≤◌, ℕ, Bool, true, false, cond, filter, List, [], ◌∷◌, sym, subst, arith}
use Rattle.std.specs.List.{AllByRecursion}
use Rattle.std.specs.Map.{keys_of, set_value}
use Rattle.std.specs.Prelude.{nat_eq, not}
use Rattle.dl_lemmas.proofs.Lists.{all_both}
use Rattle.dl_outside.specs.Told.{LinkTold}
use Rattle.dl_socket.specs.Channels.{Channels}
use Rattle.dl_user.specs.Channel as cutter
use Rattle.dl_user.specs.Channel.{unfed}
use Rattle.dl_machine.specs.State.{State}
use Rattle.dl_machine.specs.Steps.{Came, Ended, Entered, Forwarded, Goes, IsProgramStep, IsStep, Kind, LetGo, Levelled, Noted, OfClient, OfProgram, OfRings, PartedAll, ProgramKind, Renewed, Said, ShutOff, Stopping, TookLevels, Unregistered, Wanted}
use Rattle.dl_machine.proofs.Composed.{steps_keep}

abbrev pub AreLowIn : List (ℕ × cutter.Channel) → Type 0
AreLowIn inboxes = AllByRecursion (λ (e : ℕ × cutter.Channel). 1 ≤ e.0) inboxes

abbrev pub HasLow : State → Type 0
HasLow s = AreLowIn s.channels.inboxes

pub low_keys : (inboxes : List (ℕ × cutter.Channel)) → AreLowIn inboxes → AllByRecursion (λ number. 1 ≤ number) (keys_of inboxes)
low_keys [] all = tt
low_keys (e ∷ inboxes) all = (all.0, low_keys inboxes all.1)

set_low : (number : ℕ) (inboxes : List (ℕ × cutter.Channel)) (inbox : cutter.Channel) → AreLowIn inboxes → AreLowIn (set_value (nat_eq number) inboxes inbox)
set_low number [] inbox all = tt
set_low number (e ∷ inboxes) inbox all = by (nat_eq number e.0) (set_low number inboxes inbox all.1) where
  by : (b : Bool) → AreLowIn (set_value (nat_eq number) inboxes inbox) → AreLowIn (cond b ((e.0, inbox) ∷ inboxes) (e ∷ set_value (nat_eq number) inboxes inbox))
  by true rest = all
  by false rest = (all.0, rest)

gone_low : (number : ℕ) (inboxes : List (ℕ × cutter.Channel)) → AreLowIn inboxes → AreLowIn (filter (λ (e : ℕ × cutter.Channel). not (nat_eq number e.0)) inboxes)
gone_low number [] all = tt
gone_low number (e ∷ inboxes) all = by (not (nat_eq number e.0)) (gone_low number inboxes all.1) where
  by : (b : Bool) → AreLowIn (filter (λ (x : ℕ × cutter.Channel). not (nat_eq number x.0)) inboxes) → AreLowIn (cond b (e ∷ filter (λ (x : ℕ × cutter.Channel). not (nat_eq number x.0)) inboxes) (filter (λ (x : ℕ × cutter.Channel). not (nat_eq number x.0)) inboxes))
  by true rest = (all.0, rest)
  by false rest = rest

abbrev LowOf : Channels → Type 0
LowOf channels = AreLowIn channels.inboxes

program_low : (number : ℕ) (kind : ProgramKind) (old new : State) → IsProgramStep number kind old new → HasLow old → HasLow new
program_low number (Said ends link inbox msgs) old new step low = subst LowOf (sym step.10) (set_low number old.channels.inboxes inbox low)
program_low number (Forwarded moment msgs) old new step low = subst LowOf (sym step.2) low
program_low number (Noted moment msg) old new step low = subst LowOf (sym step.2) low
program_low number (Unregistered moment apid) old new step low = subst LowOf (sym step.2) low
program_low number (TookLevels ends link) old new step low = subst LowOf (sym step.4) low
program_low number (ShutOff link) old new step low = subst LowOf (sym step.3) low
program_low number Ended old new step low = subst LowOf (sym step.1) (gone_low number old.channels.inboxes low)

module _ (IsTold : LinkTold → Type 0) where
  step_low : (kind : Kind) (old new : State) → IsStep IsTold kind old new → HasLow old → HasLow new
  step_low (Came number link) old new step low = subst HasLow (sym step.3) low
  step_low (Entered number link) old new step low =
      let first : 1 ≤ number = (let next = step.2.2 in omega (arith, next)) in
      subst LowOf (sym step.2.3) (all_both (λ (e : ℕ × cutter.Channel). 1 ≤ e.0) old.channels.inboxes ((number, unfed) ∷ []) low (first, tt))
  step_low LetGo old new step low = subst HasLow (sym step.1) low
  step_low Wanted old new step low = subst HasLow (sym step) low
  step_low (Levelled change) old new step low = subst HasLow (sym step.1) low
  step_low (OfClient number kind) old new step low = subst HasLow (sym step.2) low
  step_low (OfProgram number kind) old new step low = program_low number kind old new step.1 low
  step_low (OfRings kind) old new step low = subst HasLow (sym step.1) low
  step_low PartedAll old new step low = subst HasLow (sym step.3) low
  step_low Renewed old new step low = subst HasLow (sym step.1) low
  step_low Stopping old new step low = subst HasLow (sym step) low

  pub low_after : (old new : State) → Goes IsTold old new → HasLow old → HasLow new
  low_after old new goes low = steps_keep IsTold HasLow step_low goes.kinds old new goes.steps low
