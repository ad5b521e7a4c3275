-- Records of how many frames a trace did not store.
use Rattle.std.proofs.Common.{◌≡◌, ℕ, ◌-◌, ◌<◌, List, [], ◌∷◌, ◌++◌, map, Option, Some, None, Result, Ok, Err, true, sym, ap, ◌∙◌, append_assoc}
use Rattle.std.specs.Prelude.{IfNone, IfSome, codes, is_ok, min}
use Rattle.std.proofs.lemmas.Bool.{false≢true}
use Rattle.dl_bytes.specs.declared.moment.Moment.{Moment}
use Rattle.dl_bytes.specs.declared.outcome.TraceEnd.{TraceEnd}
use Rattle.dl_control.specs.Reply.{daemon_apid}
use Rattle.dl_hub.proofs.Overflow.{frames-step}
use Rattle.dl_message.specs.Frames.{overflow_record}
use Rattle.dl_model.specs.Frames.{stored}
use Rattle.dl_model.specs.Overflow.{overflow_frames}
use Rattle.dl_outside.specs.Told.{FolderTold}
use Rattle.dl_trace.specs.State.{Trace}
use Rattle.dl_trace.specs.Storing.{StoresOrStops}
use Rattle.dl_core.specs.Follows.{unstored_records}

-- one more is gathered
pub next_of_unstored : (ecu : List ℕ) (moment : Moment) (unstored left counter : ℕ) (frame : List ℕ) (batch now : List (List ℕ)) → 0 < left → counter ≡ min left 4294967295
    → frame ≡ overflow_record ecu daemon_apid (codes "TRCE") counter → now ≡ batch ++ stored ecu moment frame ∷ []
    → unstored_records ecu moment unstored ≡ batch ++ unstored_records ecu moment left
    → unstored_records ecu moment unstored ≡ now ++ unstored_records ecu moment (left - counter)
next_of_unstored ecu moment unstored left counter frame batch now some is what pushed far =
    let rest = unstored_records ecu moment (left - counter) in
    let next : unstored_records ecu moment left ≡ stored ecu moment frame ∷ rest =
    ap (map (stored ecu moment)) (frames-step ecu daemon_apid (codes "TRCE") left counter some is) ∙ ap (λ (f : List ℕ). stored ecu moment f ∷ rest) (sym what) in
    far ∙ ap (λ (fs : List (List ℕ)). batch ++ fs) next ∙ sym (append_assoc batch (stored ecu moment frame ∷ []) rest) ∙ ap (λ (fs : List (List ℕ)). fs ++ rest) (sym pushed)

-- what a trace answers to them
module _ (records : List (List ℕ)) (old new : Trace) (folder folder_now : FolderTold) where
  pub stored_so : (end : Option TraceEnd) (result : Result (Unit {0}) TraceEnd) → IfSome end (λ why. result ≡ Err why)
      → IfNone end (StoresOrStops records result old new folder folder_now) → is_ok result ≡ true → StoresOrStops records (Ok tt) old new folder folder_now
  stored_so None (Ok done) ended all ok = all
  stored_so None (Err why) ended all ok = absurd (false≢true ok)
  stored_so (Some why) result ended all ok = absurd (false≢true (ap is_ok (sym ended) ∙ ok))
