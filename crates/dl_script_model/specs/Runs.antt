-- What each mark of a run rests on: the marks before it.
use Rattle.std.specs.Prelude.{◌≡◌, ℕ, ◌+◌, ◌%◌, ◌<◌, true, false, List, [], ◌∷◌, ◌++◌, slice_get, Some, None}
use Rattle.dl_bytes.specs.Claim.{Claimed}
use Rattle.dl_bytes.specs.Level.{passes}
use Rattle.dl_events.specs.declared.event.Event.{Event}
use Rattle.dl_events.specs.declared.event.Event.TheVariants as event
use Rattle.dl_model.specs.Setting.{Setting}
use Rattle.dl_model.specs.Journal.{slots_of}
use Rattle.dl_script_model.specs.Marks.{Call, Mark, Filtered, Passed, Queued, Refused, Counted, HasClaim, Announced, HeldBack, Noted, journal, number_of, app_of_writer, calls_of, passed_of, to_push, to_count, to_announce, next_place, OfCall, OfClaim, pushes, taken, is_full, pending}

-- A call as its load made it, where the writer's call before it was finished: its number is the next of its writer, its
-- message counter the number of the writer's calls that passed before, modulo 256, and its version and level are what
-- its slot held last.
pub record IsLoaded (setting : Setting) (call : Call) (done : List Mark) : Type 0 where
  pub none_to_push : to_push call.item.writer done ≡ None
  pub none_to_count : to_count call.item.writer done ≡ None
  pub number : call.item.call ≡ 1 + calls_of call.item.writer done
  pub counter : call.item.mcnt ≡ passed_of call.item.writer done % 256
  pub version : call.version ≡ (slots_of setting (journal done) call.slot).version
  pub held : call.held ≡ (slots_of setting (journal done) call.slot).level

-- A claim as its step made it, where the writer's call before it was finished: it is one of its writer's application, and its place
-- is the next one there.
pub record IsClaimed (claim : Claimed) (done : List Mark) : Type 0 where
  pub none_to_push : to_push claim.writer done ≡ None
  pub none_to_count : to_count claim.writer done ≡ None
  pub apid : List ℕ
  pub owner : app_of_writer claim.writer done ≡ Some apid
  pub number : number_of apid done ≡ Some claim.app
  pub place : claim.place ≡ next_place apid claim.app done

-- A Log event is that of the first that its application's ring took and the daemon didn't take yet.
pub record IsNext (app writer number : ℕ) (done : List Mark) : Type 0 where
  pub call : Call
  pub first : slice_get (pushes app done) (taken app done) ≡ Some (OfCall call)
  pub writer_is : call.item.writer ≡ writer
  pub number_is : call.item.call ≡ number

-- what an event rests on: what a Log or a Claim tells is the first in its ring, and a Lost tells all losses that are pending
abbrev pub EventRestsOn : List Mark → Event → Type 0
EventRestsOn done (event.Log app writer call moment) = IsNext app writer call done
EventRestsOn done (event.Lost app count moment) = (count ≡ pending app done) × (0 < count)
EventRestsOn done (event.Claim claim moment) = slice_get (pushes claim.app done) (taken claim.app done) ≡ Some (OfClaim claim)
EventRestsOn done _ = Unit {0}

abbrev pub RestsOn : Setting → List Mark → Mark → Type 0
-- a call is filtered where its severity is above the level of its own load, and passes where it isn't
RestsOn setting done (Filtered call) = IsLoaded setting call done × (passes call.item.severity call.held ≡ false)
RestsOn setting done (Passed call) = IsLoaded setting call done × (passes call.item.severity call.held ≡ true)
-- the call that the writer's last step let through is queued, or refused where the ring is full
RestsOn setting done (Queued call) = (to_push call.item.writer done ≡ Some call) × (is_full call.item.app done ≡ false)
RestsOn setting done (Refused call) = (to_push call.item.writer done ≡ Some call) × (is_full call.item.app done ≡ true)
-- the call that the ring refused at the writer's last step is counted
RestsOn setting done (Counted call) = to_count call.item.writer done ≡ Some call
-- a claim is made where its writer has no open call, and the first that waits is announced, or held back where the ring is full
RestsOn setting done (HasClaim claim) = IsClaimed claim done
RestsOn setting done (Announced claim) = (to_announce claim.writer done ≡ Some claim) × (is_full claim.app done ≡ false)
RestsOn setting done (HeldBack claim) = (to_announce claim.writer done ≡ Some claim) × (is_full claim.app done ≡ true)
RestsOn setting done (Noted e) = EventRestsOn done e
RestsOn setting done _ = Unit {0}

-- each of these marks rests on those before it
abbrev pub AreFounded : Setting → List Mark → List Mark → Type 0
AreFounded setting before [] = Unit {0}
AreFounded setting before (mark ∷ marks) = RestsOn setting before mark × AreFounded setting (before ++ mark ∷ []) marks
