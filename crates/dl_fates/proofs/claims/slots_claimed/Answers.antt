use Rattle.std.proofs.Common.{ℕ, List, [], ◌∷◌, ◌++◌, take, sym, ap, ◌∙◌}
use Rattle.std.proofs.lemmas.List.Elements.{filter_map-append}
use Rattle.dl_fates.proofs.Places.{one_more}
use Rattle.dl_fates.specs.Claims.{slot_claimed, slots_claimed}
use Rattle.dl_fates.proofs.claims.slots_claimed.Goals as goal

pub loop-event-preserved : goal.loop-event-preserved
loop-event-preserved c =
    let i = c.loop-event.event-index in
    let events = c.args.events.now in
    let event = c.event-item.result in
    c.in_ok-push_slot.ensures ∙ ap (λ (slots : List ℕ). slots ++ slots_claimed (event ∷ [])) c.loop-event.invariant
    ∙ sym (ap slots_claimed (one_more events i event c.loop-event-test.true c.event-item.is) ∙ filter_map-append slot_claimed (take i events) (event ∷ []))
