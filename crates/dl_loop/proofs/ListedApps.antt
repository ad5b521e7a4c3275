-- Once the applications of the desk have told of themselves, each is there.
use Rattle.std.proofs.Common.{◌≡◌, ℕ, ◌+◌, ◌<◌, ◌≤◌, Bool, false, List, [], ◌∷◌, ◌++◌, length, map, Result, Ok, Err, append-nil, append_assoc, length-append, refl, sym, ap, subst, ◌∙◌, arith, inl, inr}
use Rattle.std.specs.Prelude.{◌||◌, ◌≢◌, nat_le, IfOk}
use Rattle.std.specs.List.{AllByRecursion, IsDistinct, filter_map, list_any}
use Rattle.std.specs.Result.{result_unwrap_or}
use Rattle.std.specs.Str.{bytes_eq}
use Rattle.std.proofs.lemmas.Bool.Decides.{leb_tells}
use Rattle.std.proofs.lemmas.List.{length-map}
use Rattle.std.proofs.lemmas.Map.Keys.{IsDistinct-head, IsDistinct-tail}
use Rattle.dl_bytes.specs.Id.{zero_id}
use Rattle.dl_bytes.specs.declared.conf.AppSpec.{AppSpec}
use Rattle.dl_bytes.specs.declared.moment.Moment.{Moment}
use Rattle.dl_bytes.specs.declared.user.UserMsg.{UserMsg}
use Rattle.dl_bytes.specs.declared.user.UserMsg.TheVariants as user
use Rattle.dl_bytes.specs.declared.user.UserMsg.TheVariants.{RegisterApp}
use Rattle.dl_model.specs.declared.registry.RegistryFault.{RegistryFault}
use Rattle.dl_model.specs.declared.registry.RegistryFault.TheVariants as fault
use Rattle.dl_model.specs.declared.registry.Slot.{Slot}
use Rattle.dl_model.specs.Registry.{Registry, applied}
use Rattle.dl_model.proofs.Presence.{bytes_differ}
use Rattle.dl_model.proofs.StandingApps.{AreFirst, app_comes, first_one, in_context, numbered_there, own, there, who}
use Rattle.dl_registry.specs.Kept.{Applies, Kept, slots}
use Rattle.dl_desk.specs.Apps.{AppState}
use Rattle.dl_turns.specs.State.{Side}
use Rattle.dl_taking.specs.Takes.{AreThere}
use Rattle.dl_rounds.specs.Greetings.{GreetsEach, IsRegistration, hello_of, registered}
use Rattle.dl_rounds.proofs.Greeted.{levels_leave}
use Rattle.dl_loop.specs.Greeting.{AreListed, id_in}
use Rattle.dl_lemmas.proofs.Bools.{neither}

-- ---- messages

-- these applications stand, and no other
record Stand (ids : List (List ℕ)) (r : Registry) : Type 0 where
  first : AreFirst 0 ids (there r)
  alone : length r.apps ≡ length ids

-- who stands by the same list
stand_same : (ids : List (List ℕ)) (old new : Registry) → there new ≡ there old → Stand ids old → Stand ids new
stand_same ids old new same stand = record {
  first = subst (AreFirst 0 ids) (sym same) stand.first;
  alone = sym (length-map new.apps who) ∙ ap length same ∙ length-map old.apps who ∙ stand.alone;
}

-- what a message left: what it makes, or all as it was
left : (o : Result Registry RegistryFault) (old new : Kept) → Applies o old o new → new.registry ≡ result_unwrap_or o old.registry
left (Ok r) old new is = (let same : r ≡ new.registry = cc is.0 in sym same)
left (Err fault.ZeroId) old new is = ap (λ (k : Kept). k.registry) is.1
left (Err fault.Taken) old new is = ap (λ (k : Kept). k.registry) is.1
left (Err fault.UnknownApp) old new is = ap (λ (k : Kept). k.registry) is.1
left (Err fault.UnknownContext) old new is = ap (λ (k : Kept). k.registry) is.1
left (Err fault.AppsFull) old new is = ap (λ (k : Kept). k.registry) is.1
left (Err fault.ContextsFull) old new is = ap (λ (k : Kept). k.registry) is.1
left (Err fault.Worn) old new is = ap (λ (k : Kept). k.registry) is.1
left (Err fault.OutOfMemory) old new is = ap (λ (k : Kept). k.registry) is.1

-- an application that is none of these, and has a name
next_stands : (ids : List (List ℕ)) (slots : ℕ → Slot) (r : Registry) (apid : List ℕ) (pid : ℕ) (text : List ℕ) → Stand ids r → bytes_eq apid zero_id ≡ false → list_any (λ id. bytes_eq id apid) ids ≡ false → length ids < 16
    → Stand (ids ++ apid ∷ []) (result_unwrap_or (applied slots r 0 (RegisterApp apid pid text)) r)
next_stands ids held r apid pid text stand named none few =
    let new = result_unwrap_or (applied held r 0 (RegisterApp apid pid text)) r in
    let comes = app_comes r ids held apid pid text stand.first stand.alone named none (above (length ids) few) in record {
      first = subst (AreFirst 0 (ids ++ apid ∷ [])) (sym comes)
          (subst (λ (n : ℕ). AreFirst 0 (ids ++ apid ∷ []) (there r ++ own apid n ∷ [])) (omega arith) (first_one 0 ids apid (there r) stand.first (length-map r.apps who ∙ stand.alone)));
      alone = sym (length-map new.apps who) ∙ ap length comes ∙ length-append (there r) (own apid (length ids) ∷ [])
          ∙ ap (λ (n : ℕ). n + 1) (length-map r.apps who ∙ stand.alone) ∙ sym (length-append ids (apid ∷ []));
    } where
      above : (n : ℕ) → n < 16 → nat_le 16 n ≡ false
      above n less = elim (leb_tells 16 n) [ inl all ↦ absurd (omega (arith, all.1, less)) | inr is ↦ is.0 ]

-- a context's registration leaves who is there
context_stands : (r : Registry) (o : Result Registry RegistryFault) → IfOk o (λ new. there new ≡ there r) → there (result_unwrap_or o r) ≡ there r
context_stands r (Ok new) same = same
context_stands r (Err e) same = refl

-- ---- all of them

-- none of these ids is one of those
abbrev AreOthers : List (List ℕ) → List (List ℕ) → Type 0
AreOthers ids more = AllByRecursion (λ (id : List ℕ). list_any (λ (other : List ℕ). bytes_eq other id) ids ≡ false) more

any_more : (p : List ℕ → Bool) (ids : List (List ℕ)) (apid : List ℕ) → list_any p ids ≡ false → p apid ≡ false → list_any p (ids ++ apid ∷ []) ≡ false
any_more p [] apid none not = rw not refl
any_more p (id ∷ ids) apid none not =
    let parts = neither (p id) (list_any p ids) none in ap (λ (b : Bool). b || list_any p (ids ++ apid ∷ [])) parts.0 ∙ any_more p ids apid parts.1 not

others_more : (ids more : List (List ℕ)) (apid : List ℕ) → AreOthers ids more → AllByRecursion (λ (id : List ℕ). bytes_eq apid id ≡ false) more → AreOthers (ids ++ apid ∷ []) more
others_more ids [] apid others apart = tt
others_more ids (id ∷ more) apid others apart = (any_more (λ (other : List ℕ). bytes_eq other id) ids apid others.0 apart.0, others_more ids more apid others.1 apart.1)

-- applications of these ids may come where those are there: each has a name, and an id of its own
record MayCome (ids more : List (List ℕ)) : Type 0 where
  others : AreOthers ids more
  apart : IsDistinct bytes_eq more
  named : AllByRecursion (λ (id : List ℕ). id ≢ zero_id) more
  few : length ids + length more ≤ 16

may_next : (ids : List (List ℕ)) (apid : List ℕ) (more : List (List ℕ)) → MayCome ids (apid ∷ more) → MayCome (ids ++ apid ∷ []) more
may_next ids apid more may = record {
  others = others_more ids more apid may.others.1 (IsDistinct-head bytes_eq apid more may.apart);
  apart = IsDistinct-tail bytes_eq apid more may.apart;
  named = may.named.1;
  few = omega (arith, may.few, length-append ids (apid ∷ []));
}

greets_stand : (moment : Moment) (msgs : List UserMsg) (ids : List (List ℕ)) (old new : Side) → AllByRecursion IsRegistration msgs → GreetsEach moment msgs old new → MayCome ids (filter_map id_in msgs)
    → Stand ids old.core.registry.registry → Stand (ids ++ filter_map id_in msgs) new.core.registry.registry
greets_stand moment [] ids old new are same may stand =
    subst (λ (all : List (List ℕ)). Stand all new.core.registry.registry) (sym (append-nil ids)) (subst (λ (s : Side). Stand ids s.core.registry.registry) (sym same) stand)
greets_stand moment (user.RegisterApp apid pid text ∷ msgs) ids old new are all may stand =
    let one = all.1 in
    let r = old.core.registry.registry in
    let after : all.0.core.registry.registry ≡ result_unwrap_or (applied (slots old.core.registry) r 0 (RegisterApp apid pid text)) r =
    levels_leave one.levels.0 one.between all.0 one.levels.1 ∙ left (applied (slots old.core.registry) r 0 (RegisterApp apid pid text)) old.core.registry one.between.core.registry one.registers in
    let named : bytes_eq apid zero_id ≡ false = bytes_differ apid zero_id may.named.0 in
    let next = next_stands ids (slots old.core.registry) r apid pid text stand named may.others.0 (omega (arith, may.few)) in
    subst (λ (ns : List (List ℕ)). Stand ns new.core.registry.registry) (append_assoc ids (apid ∷ []) (filter_map id_in msgs))
    (greets_stand moment msgs (ids ++ apid ∷ []) all.0 new are.1 all.2 (may_next ids apid (filter_map id_in msgs) may) (subst (Stand (ids ++ apid ∷ [])) (sym after) next))
greets_stand moment (user.RegisterContext apid ctid position level trace pid text ∷ msgs) ids old new are all may stand =
    let one = all.1 in
    let r = old.core.registry.registry in
    let o = applied (slots old.core.registry) r 0 (user.RegisterContext apid ctid position level trace pid text) in
    let after : all.0.core.registry.registry ≡ result_unwrap_or o r = levels_leave one.levels.0 one.between all.0 one.levels.1 ∙ left o old.core.registry one.between.core.registry one.registers in
    let same : there all.0.core.registry.registry ≡ there r = ap there after ∙ context_stands r o (in_context r (slots old.core.registry) 0 apid ctid position level text) in
    greets_stand moment msgs ids all.0 new are.1 all.2 may (stand_same ids r all.0.core.registry.registry same stand)
greets_stand moment (user.UnregisterApp apid pid ∷ msgs) ids old new are all may stand = absurd are.0
greets_stand moment (user.UnregisterContext apid ctid pid ∷ msgs) ids old new are all may stand = absurd are.0
greets_stand moment (user.Log message ∷ msgs) ids old new are all may stand = absurd are.0
greets_stand moment (user.LogLevel level trace position ∷ msgs) ids old new are all may stand = absurd are.0
greets_stand moment (user.Injection position service body ∷ msgs) ids old new are all may stand = absurd are.0
greets_stand moment (user.Overflow counter apid ∷ msgs) ids old new are all may stand = absurd are.0

-- ---- the desk's list

ids_named : (specs : List AppSpec) → AllByRecursion (λ (spec : AppSpec). spec.apid ≢ zero_id) specs → AllByRecursion (λ (id : List ℕ). id ≢ zero_id) (map (λ (spec : AppSpec). spec.apid) specs)
ids_named [] named = tt
ids_named (spec ∷ specs) named = (named.0, ids_named specs named.1)

none_before : (more : List (List ℕ)) → AreOthers [] more
none_before [] = tt
none_before (id ∷ more) = (refl, none_before more)

nobody_stands : (r : Registry) → length r.apps ≡ 0 → Stand [] r
nobody_stands r none = record { first = tt; alone = none }

pub listed_there : (moment : Moment) (apps : List AppState) (specs : List AppSpec) (old new : Side) → AllByRecursion IsRegistration (hello_of apps) → AreListed specs apps → registered old.core ≡ 0 → length specs ≤ 16
    → GreetsEach moment (hello_of apps) old new → AreThere (length specs) new.core.registry
listed_there moment apps specs old new are listed nobody few greets =
    let ids = map (λ (spec : AppSpec). spec.apid) specs in
    let may : MayCome [] (filter_map id_in (hello_of apps)) = subst (MayCome []) (sym listed.same) (record {
      others = none_before ids;
      apart = listed.apart;
      named = ids_named specs listed.named;
      few = omega (arith, few, length-map specs (λ (spec : AppSpec). spec.apid));
    }) in
    let stand : Stand ids new.core.registry.registry =
    subst (λ (ns : List (List ℕ)). Stand ns new.core.registry.registry) listed.same (greets_stand moment (hello_of apps) [] old new are greets may (nobody_stands old.core.registry.registry nobody)) in
    λ app within. numbered_there new.core.registry.registry ids stand.first app (omega (arith, within, length-map specs (λ (spec : AppSpec). spec.apid)))
