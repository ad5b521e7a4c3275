use Rattle.std.proofs.Common.{◌≡◌, List, [], ◌∷◌, ◌++◌, ap, subst, ◌∙◌}
use Rattle.std.specs.List.{AllByRecursion, filter_map}
use Rattle.std.proofs.lemmas.List.Elements.{filter_map-append}
use Rattle.dl_lemmas.proofs.Lists.{all_map}
use Rattle.dl_bytes.specs.Claim.{Claimed}
use Rattle.dl_events.specs.declared.record.Record.{Record}
use Rattle.dl_script_model.specs.Marks.{Mark, claim_of, event_of, journal, records_of}
use Rattle.dl_model.specs.Registry.{slot_of}
use Rattle.dl_model.specs.Setting.{Setting}
use Rattle.dl_script_model.specs.Steps.{run}
use Rattle.dl_runs.specs.RunRecords.{IsSeen}
use Rattle.dl_runs.specs.WaitingClaims.{ComesEarly, IsFilteredFirst, IsUntaken, MessagesLeaveFree}
use Rattle.dl_script_runs.proofs.ClaimedFree.{IsLeft, claims_left, first_left}
use Rattle.dl_script_runs.proofs.laws.calls_of_a_script_are_filtered_until_their_claim_is_taken.Goals as goal

-- messages left the place of a claim free up to the load of a call
free_before : (setting : Setting) (marks : List Mark) (c : Claimed) → IsLeft setting marks c → (r : Record) (seen : IsSeen setting marks r) → MessagesLeaveFree setting c.app c.place [] (journal seen.loaded.before)
free_before setting marks c left r seen =
    let rest = journal (seen.loaded.load ∷ seen.loaded.after) in
    let parts : journal marks ≡ journal seen.loaded.before ++ rest = ap journal seen.loaded.place ∙ filter_map-append event_of seen.loaded.before (seen.loaded.load ∷ seen.loaded.after) in
    first_left setting c.app c.place [] (journal seen.loaded.before) rest (subst (MessagesLeaveFree setting c.app c.place []) parts left.free)

pub returns : goal.returns
returns c = λ setting answers steps writer playable.
    let marks = run setting answers steps in
    let Until : Claimed → Record → Type 0 = λ claim r. (seen : IsSeen setting marks r) → r.slot ≡ slot_of claim.app claim.place → IsUntaken claim.app claim.place (journal seen.loaded.before) → IsFilteredFirst setting r in
    all_map (IsLeft setting marks) (λ (claim : Claimed). AllByRecursion (Until claim) (records_of writer marks)) (λ claim left.
    all_map (λ (r : Record). ComesEarly setting marks r → IsFilteredFirst setting r) (Until claim) (λ r filtered seen slot untaken.
    filtered (record { seen = seen; app = claim.app; place = claim.place; below = left.below; slot = slot; untaken = untaken; free = free_before setting marks claim left r seen }))
    (records_of writer marks) (c.calls_are_filtered_until_their_claim_is_taken.ensures setting answers steps writer))
    (filter_map claim_of marks) (claims_left setting answers steps playable)
