use Rattle.std.proofs.Common.{◌≡◌, ◌<◌, None, IfSome, length, refl, subst, sym, ap, unwrap_or, ◌∙◌}
use Rattle.std.specs.Map.{lookup}
use Rattle.std.specs.Option.{option_or}
use Rattle.std.specs.Str.{bytes_eq}
use Rattle.dl_model.specs.declared.context.Context.{Context}
use Rattle.dl_model.specs.Registry.{Registry, context_of, slot_of, stored_level, with_new_context}
use Rattle.dl_apps.specs.Change.{changed_app}
use Rattle.dl_registry.specs.Kept.{Kept, CanClaim, ClaimsIn, Fits, kept_of}
use Rattle.dl_registry.proofs.Messages.{context-room, context-done, context-fits, claimed_context}
use Rattle.dl_registry.proofs.registry.Registry.add_claimed.Goals as goal

pub add_context-requires : goal.add_context-requires
add_context-requires c =
    let r : Registry = record { level = c.self.inside.level; stored = c.self.inside.stored; apps = c.self.inside.apps.entries } in
    let t = c.self.inside.table in
    let claim = c.args.claim.now in
    let can : CanClaim (kept_of r t) c.args.apid c.args.number claim None = subst (λ (k : Kept). CanClaim k c.args.apid c.args.number claim None) (sym c.self.view_is) c.requires in
    subst (λ k. IfSome (lookup (bytes_eq c.args.apid) r.apps) (λ app. (context_of app k ≡ None) × (length app.contexts < 64))) (sym c.ctid-2.ensures.value)
    (context-room r t c.args.apid c.args.number claim None c.self.invariant can refl)

pub invariant_of-self : goal.invariant_of-self
invariant_of-self c =
    let r : Registry = record { level = c.self.inside.level; stored = c.self.inside.stored; apps = c.self.inside.apps.entries } in
    let t = c.self.inside.table in
    let claim = c.args.claim.now in
    let can : CanClaim (kept_of r t) c.args.apid c.args.number claim None = subst (λ (k : Kept). CanClaim k c.args.apid c.args.number claim None) (sym c.self.view_is) c.requires in
    let own : c.own_for-own.result ≡ option_or (stored_level c.self.inside.stored c.args.apid claim.ctid) claim.level =
    c.own_for-own.ensures ∙ (ap (λ k. option_or (stored_level c.self.inside.stored c.args.apid k) c.level.result) c.ctid.ensures.value ∙ ap (option_or (stored_level c.self.inside.stored c.args.apid claim.ctid)) c.level.ensures) in
    let text : c.claimed.result ≡ claim.text = c.claimed.ensures ∙ (c.copy.ensures ∙ c.text.ensures) in
    let context : Context = claimed_context r t c.args.apid c.args.number claim None c.self.invariant can refl in
    let made : Context = record { place = c.place.result; further = c.none.result; own = c.own_for-own.result; position = 0; text = c.claimed.result } in
    let context_is : made ≡ context = λ i. record { place = c.place.ensures.value i; further = c.none.ensures i; own = own i; position = 0; text = text i } in
    let added =
    c.add_context.ensures ∙ (ap (λ k. changed_app c.args.apid (λ app. with_new_context app k made) r.apps) c.ctid-2.ensures.value
    ∙ ap (λ (x : Context). changed_app c.args.apid (λ app. with_new_context app claim.ctid x) r.apps) context_is) in
    let level_is = c.effective.ensures ∙ ap (λ o. unwrap_or o c.self.inside.level) own in
    subst (λ es. Fits (record r { apps = es }) c.give.new.self) (sym added)
    (context-fits r t c.args.apid c.args.number claim None c.self.invariant can refl c.give.new.self c.slot_of-slot.result c.effective.result
    (c.slot_of-slot.ensures ∙ ap (slot_of c.args.number) c.place-2.ensures.value) level_is c.give.ensures.first c.give.ensures.held c.give.ensures.level)

pub returns : goal.returns
returns c =
    let r : Registry = record { level = c.self.inside.level; stored = c.self.inside.stored; apps = c.self.inside.apps.entries } in
    let t = c.self.inside.table in
    let claim = c.args.claim.now in
    let can : CanClaim (kept_of r t) c.args.apid c.args.number claim None = subst (λ (k : Kept). CanClaim k c.args.apid c.args.number claim None) (sym c.self.view_is) c.requires in
    let own : c.own_for-own.result ≡ option_or (stored_level c.self.inside.stored c.args.apid claim.ctid) claim.level =
    c.own_for-own.ensures ∙ (ap (λ k. option_or (stored_level c.self.inside.stored c.args.apid k) c.level.result) c.ctid.ensures.value ∙ ap (option_or (stored_level c.self.inside.stored c.args.apid claim.ctid)) c.level.ensures) in
    let text : c.claimed.result ≡ claim.text = c.claimed.ensures ∙ (c.copy.ensures ∙ c.text.ensures) in
    let context : Context = claimed_context r t c.args.apid c.args.number claim None c.self.invariant can refl in
    let made : Context = record { place = c.place.result; further = c.none.result; own = c.own_for-own.result; position = 0; text = c.claimed.result } in
    let context_is : made ≡ context = λ i. record { place = c.place.ensures.value i; further = c.none.ensures i; own = own i; position = 0; text = text i } in
    let added =
    c.add_context.ensures ∙ (ap (λ k. changed_app c.args.apid (λ app. with_new_context app k made) r.apps) c.ctid-2.ensures.value
    ∙ ap (λ (x : Context). changed_app c.args.apid (λ app. with_new_context app claim.ctid x) r.apps) context_is) in
    subst (λ es. ClaimsIn c.args.apid claim c.args.self.now (kept_of (record r { apps = es }) c.give.new.self)) (sym added)
    (subst (λ (k : Kept). ClaimsIn c.args.apid claim k (kept_of (record r { apps = changed_app c.args.apid (λ app. with_new_context app claim.ctid context) r.apps }) c.give.new.self)) c.self.view_is
    (context-done r t c.args.apid c.args.number claim None c.self.invariant can refl c.give.new.self c.give.ensures.first c.give.ensures.held))
