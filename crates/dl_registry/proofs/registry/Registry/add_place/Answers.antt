use Rattle.std.proofs.Common.{◌<◌, Some, IfSome, length, refl, subst, sym, ap, ◌∙◌}
use Rattle.std.specs.Map.{lookup}
use Rattle.std.specs.Str.{bytes_eq}
use Rattle.dl_model.specs.declared.context.Context.{Context}
use Rattle.dl_model.specs.Registry.{Registry, context_of, slot_of}
use Rattle.dl_apps.specs.Change.{changed_app, changed_context, placed_again}
use Rattle.dl_registry.specs.Kept.{Kept, CanClaim, ClaimsIn, Fits, kept_of}
use Rattle.dl_registry.proofs.Messages.{place-room, place-done, place-fits}
use Rattle.dl_registry.proofs.registry.Registry.add_place.Goals as goal

pub add_place-requires : goal.add_place-requires
add_place-requires c =
    let r : Registry = record { level = c.self.inside.level; stored = c.self.inside.stored; apps = c.self.inside.apps.entries } in
    let t = c.self.inside.table in
    let claim = c.args.claim.now in
    let can : CanClaim (kept_of r t) c.args.apid c.args.number claim (Some c.args.own) = subst (λ (k : Kept). CanClaim k c.args.apid c.args.number claim (Some c.args.own)) (sym c.self.view_is) c.requires in
    subst (λ k. IfSome (lookup (bytes_eq c.args.apid) r.apps) (λ app. IfSome (context_of app k) (λ (x : Context). length x.further < 63))) (sym c.ctid.ensures.value)
    (place-room r t c.args.apid c.args.number claim (Some c.args.own) c.self.invariant can c.args.own refl)

pub invariant_of-self : goal.invariant_of-self
invariant_of-self c =
    let r : Registry = record { level = c.self.inside.level; stored = c.self.inside.stored; apps = c.self.inside.apps.entries } in
    let t = c.self.inside.table in
    let claim = c.args.claim.now in
    let can : CanClaim (kept_of r t) c.args.apid c.args.number claim (Some c.args.own) = subst (λ (k : Kept). CanClaim k c.args.apid c.args.number claim (Some c.args.own)) (sym c.self.view_is) c.requires in
    let added =
    c.add_place.ensures ∙ (ap (λ k. changed_app c.args.apid (changed_context k (placed_again c.place.result)) r.apps) c.ctid.ensures.value
    ∙ ap (λ n. changed_app c.args.apid (changed_context claim.ctid (placed_again n)) r.apps) c.place.ensures.value) in
    subst (λ es. Fits (record r { apps = es }) c.give.new.self) (sym added)
    (place-fits r t c.args.apid c.args.number claim (Some c.args.own) c.self.invariant can c.args.own refl c.give.new.self c.slot_of-slot.result c.effective.result
    (c.slot_of-slot.ensures ∙ ap (slot_of c.args.number) c.place-2.ensures.value) c.effective.ensures c.give.ensures.first c.give.ensures.held c.give.ensures.level)

pub returns : goal.returns
returns c =
    let r : Registry = record { level = c.self.inside.level; stored = c.self.inside.stored; apps = c.self.inside.apps.entries } in
    let t = c.self.inside.table in
    let claim = c.args.claim.now in
    let can : CanClaim (kept_of r t) c.args.apid c.args.number claim (Some c.args.own) = subst (λ (k : Kept). CanClaim k c.args.apid c.args.number claim (Some c.args.own)) (sym c.self.view_is) c.requires in
    let added =
    c.add_place.ensures ∙ (ap (λ k. changed_app c.args.apid (changed_context k (placed_again c.place.result)) r.apps) c.ctid.ensures.value
    ∙ ap (λ n. changed_app c.args.apid (changed_context claim.ctid (placed_again n)) r.apps) c.place.ensures.value) in
    subst (λ es. ClaimsIn c.args.apid claim c.args.self.now (kept_of (record r { apps = es }) c.give.new.self)) (sym added)
    (subst (λ (k : Kept). ClaimsIn c.args.apid claim k (kept_of (record r { apps = changed_app c.args.apid (changed_context claim.ctid (placed_again claim.place)) r.apps }) c.give.new.self)) c.self.view_is
    (place-done r t c.args.apid c.args.number claim (Some c.args.own) c.self.invariant can c.args.own refl c.give.new.self c.give.ensures.first c.give.ensures.held))
