-- The core after a claim.
use Rattle.std.proofs.Common.{◌∷◌, [], List, Option, refl, arith}
use Rattle.dl_bytes.specs.Claim.{Claimed}
use Rattle.dl_bytes.specs.declared.moment.Moment.{Moment}
use Rattle.dl_events.specs.declared.event.Event.{Event}
use Rattle.dl_events.specs.declared.event.Event.TheVariants as event
use Rattle.dl_registry.specs.Kept.{Kept, Claims}
use Rattle.dl_registry.proofs.Following.{claim_follows as claim_is_event}
use Rattle.dl_core.specs.Admission.{AddsEach}
use Rattle.dl_core.specs.Follows.{AddsAlone}
use Rattle.dl_core.specs.Noting.{NotesClaim}
use Rattle.dl_core.specs.State.{Core}
use Rattle.dl_core.proofs.Admitted.{admits-none, alone-none}
use Rattle.dl_core.proofs.Journals.{quiet_event}

claim_follows : (claim : Claimed) (moment : Moment) (old : Core) (now : Kept) → Claims claim old.registry now → AddsAlone (event.Claim claim moment ∷ []) old (record old { registry = now })
claim_follows claim moment old now call = λ told run events taken gives after.
    quiet_event run events taken (event.Claim claim moment) old (record old { registry = now }) told
    (record { ecu = refl; level = refl; injection = refl; software = refl; hub = record { ecu = refl; buffer = refl; limit = refl } }) refl
    (claim_is_event run.setting events claim moment old.registry now after.registry call)
    (admits-none old.hub) refl after

pub claim_notes : (claim : Claimed) (moment : Moment) (old : Core) (now : Kept) (past present : Option (List Event)) → Claims claim old.registry now → AddsEach past present (event.Claim claim moment ∷ [])
    → NotesClaim moment claim old (record old { registry = now }) past present
claim_notes claim moment old now past present call noted = λ folder. record {
  after = claim_follows claim moment old now call folder;
  event = noted;
  stores = (refl, refl);
  others = alone-none old.trace folder;
  admitted = omega arith;
  still_open = refl;
  replies = refl;
  same = record { ecu = refl; buffer = refl; limit = refl };
}
