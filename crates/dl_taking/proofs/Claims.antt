-- A claim that is noted, and the level that it sets.
use Rattle.std.proofs.Common.{◌≡◌, ℕ, ◌+◌, ◌<◌, ◌≤◌, None, refl, sym, ap, ◌∙◌, subst, inl, arith}
use Rattle.std.specs.Prelude.{◌-◌}
use Rattle.std.specs.List.{AllByRecursion}
use Rattle.dl_bytes.specs.Claim.{Claimed}
use Rattle.dl_events.specs.Journal.{one_more}
use Rattle.dl_model.specs.Registry.{claimed}
use Rattle.dl_desk.specs.Told.{ControlTold}
use Rattle.dl_registry.specs.Kept.{Claims, Kept, owed_change, slots, with_registry}
use Rattle.dl_core.specs.Admission.{more_noted}
use Rattle.dl_core.specs.Waiting.{waiting}
use Rattle.dl_core.proofs.Leveled.{settled_waits}
use Rattle.dl_admission.proofs.Added.{more_both}
use Rattle.dl_turns.specs.Events.{IsDeskOf}
use Rattle.dl_taking.specs.Takes.{owed_by}
use Rattle.dl_taking.proofs.StayingApps.{claim_numbers}

-- the desk is that of the registry, also after a claim: its applications have their numbers, and no slot another version
pub desk_claimed : (claim : Claimed) (old new : Kept) (told : ControlTold) → Claims claim old new → IsDeskOf old told → IsDeskOf new told
desk_claimed claim old new told claims desk = record {
  numbered = subst (AllByRecursion (λ (n : ℕ). n < told.apps)) (sym (claim_numbers claim old new claims)) desk.numbered;
  versions = λ slot within. ap (λ (k : Kept). (slots k slot).version) claims ∙ desk.versions slot within;
}

-- where no Level event is owed none waits
pub none_wait : (kept : Kept) → owed_change kept ≡ None → waiting kept ≡ 0
none_wait kept settled = let none : waiting (with_registry kept kept.registry) ≤ 0 = settled_waits kept kept.registry 0 settled (λ slot. inl refl) (omega arith) in omega (arith, none)

-- as many wait as are owed by the claim
pub owed_waits : (claim : Claimed) (old new : Kept) → Claims claim old new → waiting new ≡ owed_by claim old
owed_waits claim old new claims = ap waiting claims

-- the event of the claim was noted, and those that wait
pub noted_both : (owed waits waits_now noted claimed noted_now : ℕ) → waits ≡ owed → waits_now ≡ 0 → claimed ≡ one_more noted → noted_now ≡ more_noted (waits - waits_now) claimed
    → noted_now ≡ more_noted (owed + 1) noted
noted_both owed waits waits_now noted claimed noted_now many none one more =
    let levels : waits - waits_now ≡ owed = omega (arith, many, none) in
    more ∙ ap (λ (n : ℕ). more_noted n claimed) levels ∙ ap (more_noted owed) one ∙ more_both 1 owed noted
