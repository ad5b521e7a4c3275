use Rattle.std.proofs.Common.{◌≡◌, ◌≢◌, false, not, Some, None, is_some, eq-eqb, sym, ap, subst, ◌∙◌}
use Rattle.std.specs.Option.{option_map}
use Rattle.dl_bytes.specs.Limits.{last_version}
use Rattle.dl_model.specs.declared.context.Context.{Context}
use Rattle.dl_model.specs.declared.registry.Slot.{Slot}
use Rattle.dl_model.specs.Registry.{Registry, app_of, context_of, is_free, slot_of}
use Rattle.dl_model.proofs.Order.{app_of_found}
use Rattle.dl_registry.specs.Table.{held_at, wanted_at}
use Rattle.dl_registry.specs.Kept.{Kept, CanClaim, ClaimsIn, kept_of}
use Rattle.dl_registry.proofs.Messages.{can_claim, claims-taken, claims-worn, free_told}
use Rattle.dl_registry.proofs.registry.Registry.claim_in.Goals as goal

pub returns-then-is_some : goal.returns-then-is_some
returns-then-is_some c =
    let r : Registry = record { level = c.self.inside.level; stored = c.self.inside.stored; apps = c.self.inside.apps.entries } in
    let t = c.self.inside.table in
    let claim = c.args.claim.now in
    let app = c.in-Some.app.now in
    let there : app_of r 0 c.args.apid ≡ Some app = ap (λ (k : Kept). app_of k.registry 0 c.args.apid) c.self.view_is ∙ sym c.in-Some.ensures in
    let at : c.slot_of-slot.result ≡ slot_of app.number claim.place = c.slot_of-slot.ensures ∙ (ap (λ n. slot_of n c.place.result) c.number-number.ensures ∙ ap (slot_of app.number) c.place.ensures.value) in
    let taken : is_some (wanted_at t c.slot_of-slot.result) ≡ c.is_some.result = ap is_some (sym c.wanted.ensures) ∙ sym c.is_some.ensures in
    let free : is_free claim.place app.contexts ≡ false =
    free_told r t c.args.apid app claim.place c.self.invariant (app_of_found r 0 c.args.apid app there) c.place.ensures.range
    ∙ (ap (λ n. not (is_some (wanted_at t n))) (sym at) ∙ ap not (taken ∙ c.if-is_some.true)) in
    subst (λ (k : Kept). ClaimsIn c.args.apid claim k k) c.self.view_is (claims-taken (kept_of r t) c.args.apid claim app there free)

pub returns-then-held-eq-LAST_VERSION : goal.returns-then-held-eq-LAST_VERSION
returns-then-held-eq-LAST_VERSION c =
    let r : Registry = record { level = c.self.inside.level; stored = c.self.inside.stored; apps = c.self.inside.apps.entries } in
    let t = c.self.inside.table in
    let claim = c.args.claim.now in
    let app = c.in-Some.app.now in
    let there : app_of r 0 c.args.apid ≡ Some app = ap (λ (k : Kept). app_of k.registry 0 c.args.apid) c.self.view_is ∙ sym c.in-Some.ensures in
    let at : c.slot_of-slot.result ≡ slot_of app.number claim.place = c.slot_of-slot.ensures ∙ (ap (λ n. slot_of n c.place.result) c.number-number.ensures ∙ ap (slot_of app.number) c.place.ensures.value) in
    let taken : is_some (wanted_at t c.slot_of-slot.result) ≡ c.is_some.result = ap is_some (sym c.wanted.ensures) ∙ sym c.is_some.ensures in
    let last : (held_at t.first t.held (slot_of app.number claim.place)).version ≡ last_version =
    ap (λ n. (held_at t.first t.held n).version) (sym at) ∙ (sym (ap (λ (s : Slot). s.version) c.held.ensures.value) ∙ c.if-held-eq-LAST_VERSION.true) in
    subst (λ (k : Kept). ClaimsIn c.args.apid claim k k) c.self.view_is
    (claims-worn (kept_of r t) c.args.apid claim app there (eq-eqb (held_at t.first t.held (slot_of app.number claim.place)).version last_version last))

pub add_place-requires : goal.add_place-requires
add_place-requires c =
    let r : Registry = record { level = c.self.inside.level; stored = c.self.inside.stored; apps = c.self.inside.apps.entries } in
    let t = c.self.inside.table in
    let claim = c.args.claim.now in
    let app = c.in-Some.app.now in
    let there : app_of r 0 c.args.apid ≡ Some app = ap (λ (k : Kept). app_of k.registry 0 c.args.apid) c.self.view_is ∙ sym c.in-Some.ensures in
    let at : c.slot_of-slot.result ≡ slot_of app.number claim.place = c.slot_of-slot.ensures ∙ (ap (λ n. slot_of n c.place.result) c.number-number.ensures ∙ ap (slot_of app.number) c.place.ensures.value) in
    let taken : is_some (wanted_at t c.slot_of-slot.result) ≡ c.is_some.result = ap is_some (sym c.wanted.ensures) ∙ sym c.is_some.ensures in
    let fresh : (held_at t.first t.held c.slot_of-slot.result).version ≢ last_version = λ last. c.if-held-eq-LAST_VERSION.false (ap (λ (s : Slot). s.version) c.held.ensures.value ∙ last) in
    let own : option_map (λ (x : Context). x.own) (context_of app claim.ctid) ≡ Some c.in-Some-context.context.now.own =
    ap (option_map (λ (x : Context). x.own)) (ap (context_of app) (sym c.ctid.ensures.value) ∙ sym c.in-Some-context.ensures) in
    subst (λ (k : Kept). CanClaim k c.args.apid c.number-number.result claim (Some c.in-Some-context.context.now.own)) c.self.view_is
    (can_claim r t c.args.apid c.number-number.result c.slot_of-slot.result claim app (Some c.in-Some-context.context.now.own) c.self.invariant there c.number-number.ensures c.place.ensures.range at
    (taken ∙ c.if-is_some.false) fresh own)

pub add_claimed-requires : goal.add_claimed-requires
add_claimed-requires c =
    let r : Registry = record { level = c.self.inside.level; stored = c.self.inside.stored; apps = c.self.inside.apps.entries } in
    let t = c.self.inside.table in
    let claim = c.args.claim.now in
    let app = c.in-Some.app.now in
    let there : app_of r 0 c.args.apid ≡ Some app = ap (λ (k : Kept). app_of k.registry 0 c.args.apid) c.self.view_is ∙ sym c.in-Some.ensures in
    let at : c.slot_of-slot.result ≡ slot_of app.number claim.place = c.slot_of-slot.ensures ∙ (ap (λ n. slot_of n c.place.result) c.number-number.ensures ∙ ap (slot_of app.number) c.place.ensures.value) in
    let taken : is_some (wanted_at t c.slot_of-slot.result) ≡ c.is_some.result = ap is_some (sym c.wanted.ensures) ∙ sym c.is_some.ensures in
    let fresh : (held_at t.first t.held c.slot_of-slot.result).version ≢ last_version = λ last. c.if-held-eq-LAST_VERSION.false (ap (λ (s : Slot). s.version) c.held.ensures.value ∙ last) in
    let own : option_map (λ (x : Context). x.own) (context_of app claim.ctid) ≡ None =
    ap (option_map (λ (x : Context). x.own)) (ap (context_of app) (sym c.ctid.ensures.value) ∙ sym c.in-None.ensures) in
    subst (λ (k : Kept). CanClaim k c.args.apid c.number-number.result claim None) c.self.view_is
    (can_claim r t c.args.apid c.number-number.result c.slot_of-slot.result claim app None c.self.invariant there c.number-number.ensures c.place.ensures.range at (taken ∙ c.if-is_some.false) fresh own)
