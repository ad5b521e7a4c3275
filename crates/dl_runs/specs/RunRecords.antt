-- What the records of a run of steps rest on: their loads, and the pushes that were refused.
use Rattle.std.specs.Prelude.{◌≡◌, ℕ, ◌==◌, Bool, true, false, List, ◌∷◌, ◌++◌, count_by, Some}
use Rattle.dl_events.specs.declared.event.Event.{Event}
use Rattle.dl_events.specs.declared.event.Event.TheVariants.{Level}
use Rattle.dl_events.specs.declared.record.Record.{Record}
use Rattle.dl_events.specs.declared.record.Answer.TheVariants as answer
use Rattle.dl_model.specs.Setting.{Setting}
use Rattle.dl_script_model.specs.Marks.{Call, Mark, Refused, HeldBack, is_load, call_of, journal, recorded, held_by, capacity_of}
use Rattle.dl_model.specs.Journal.{slots_of}

-- ---- levels

-- a Level event of this slot
abbrev pub is_level_of : ℕ → Event → Bool
is_level_of slot (Level other level) = other == slot
is_level_of slot _ = false

-- ---- of a run of steps

-- a push of this writer, of a call or of a claim, that its ring refused
abbrev pub is_refusal_of : ℕ → Mark → Bool
is_refusal_of writer (Refused call) = call.item.writer == writer
is_refusal_of writer (HeldBack claim) = claim.writer == writer
is_refusal_of writer _ = false

-- how many pushes of a writer its ring refused
abbrev pub refusals_of : List Mark → ℕ → ℕ
refusals_of done writer = count_by (is_refusal_of writer) done

-- A call with its load: the mark of the load stands among these marks, and what the call holds is the last level, with its
-- version, that its slot had been given before.
pub record IsLoadedIn (setting : Setting) (done : List Mark) (call : Call) : Type 0 where
  pub before : List Mark
  pub load : Mark
  pub after : List Mark
  pub place : done ≡ before ++ load ∷ after
  pub first_step : is_load load ≡ true
  pub of_call : call_of load ≡ Some call
  pub version : call.version ≡ (slots_of setting (journal before) call.slot).version
  pub held : call.held ≡ (slots_of setting (journal before) call.slot).level

-- a record is that of a call with its load
pub record IsSeen (setting : Setting) (done : List Mark) (r : Record) : Type 0 where
  pub call : Call
  pub is : r ≡ recorded call r.answer
  pub loaded : IsLoadedIn setting done call

-- A lost call met a full ring: the push that refused it stands among these marks, and before it the ring of its
-- application held as many calls and claims as it can.
pub record MetFullRing (done : List Mark) (r : Record) : Type 0 where
  pub call : Call
  pub is : r ≡ recorded call answer.Lost
  pub before : List Mark
  pub after : List Mark
  pub place : done ≡ before ++ Refused call ∷ after
  pub full : held_by call.item.app before ≡ capacity_of before call.item.app
