use Rattle.std.proofs.Common.{◌≡◌, ◌≢◌, Some, Ok, Err, subst, sym, ap, ◌∙◌, rules, unwrap_or, cond}
use Rattle.std.specs.Prelude.{◌==◌}
use Rattle.dl_model.specs.declared.context.Context.{Context}
use Rattle.dl_model.specs.declared.registry.RegistryFault.TheVariants as fault
use Rattle.dl_model.specs.declared.registry.Slot.{Slot}
use Rattle.dl_bytes.specs.Limits.{last_version}
use Rattle.dl_model.specs.Registry.{Registry, slot_of, with_new_context}
use Rattle.dl_apps.specs.Change.{changed_app}
use Rattle.dl_registry.specs.Kept.{Kept, Fits, kept_of}
use Rattle.dl_registry.specs.Table.{held_at, wanted_at}
use Rattle.dl_registry.proofs.Messages.{Adds, MayAdd, coming, with_coming, adds-full, adds-worn, adds-memory, adds-done, fits-coming, room_for}
use Rattle.dl_registry.proofs.registry.Registry.add_context.Goals as goal

pub returns-in_default : goal.returns-in_default
returns-in_default c =
    let r : Registry = record { level = c.self.inside.level; stored = c.self.inside.stored; apps = c.self.inside.apps.entries } in
    let may : MayAdd (kept_of r c.self.inside.table) c.args.apid c.args.ctid c.args.number = subst (λ (k : Kept). MayAdd k c.args.apid c.args.ctid c.args.number) (sym c.self.view_is) c.requires in
    subst (λ (k : Kept). Adds k c.args.apid c.args.ctid c.args.position c.args.own c.args.text.now (Err fault.ContextsFull) k) c.self.view_is
    (adds-full r c.self.inside.table c.args.apid c.args.ctid c.args.number c.args.position c.args.own c.args.text.now c.self.invariant may c.in_default.ensures)

pub returns-then-held-eq-LAST_VERSION : goal.returns-then-held-eq-LAST_VERSION
returns-then-held-eq-LAST_VERSION c =
    let r : Registry = record { level = c.self.inside.level; stored = c.self.inside.stored; apps = c.self.inside.apps.entries } in
    let t = c.self.inside.table in
    let may : MayAdd (kept_of r t) c.args.apid c.args.ctid c.args.number = subst (λ (k : Kept). MayAdd k c.args.apid c.args.ctid c.args.number) (sym c.self.view_is) c.requires in
    let held = c.held.ensures.value ∙ ap (held_at t.first t.held) c.slot_of-slot.ensures in
    let last : (held_at t.first t.held (slot_of c.args.number c.in-Some.place)).version ≡ last_version = sym (ap (λ (s : Slot). s.version) held) ∙ c.if-held-eq-LAST_VERSION.true in
    subst (λ (k : Kept). Adds k c.args.apid c.args.ctid c.args.position c.args.own c.args.text.now (Err fault.Worn) k) c.self.view_is
    (adds-worn r t c.args.apid c.args.ctid c.args.number c.args.position c.args.own c.args.text.now c.self.invariant may c.in-Some.place c.in-Some.ensures last)

pub returns-in_err-text : goal.returns-in_err-text
returns-in_err-text c =
    let r : Registry = record { level = c.self.inside.level; stored = c.self.inside.stored; apps = c.self.inside.apps.entries } in
    let t = c.self.inside.table in
    let may : MayAdd (kept_of r t) c.args.apid c.args.ctid c.args.number = subst (λ (k : Kept). MayAdd k c.args.apid c.args.ctid c.args.number) (sym c.self.view_is) c.requires in
    let held = c.held.ensures.value ∙ ap (held_at t.first t.held) c.slot_of-slot.ensures in
    let fresh : (held_at t.first t.held (slot_of c.args.number c.in-Some.place)).version ≢ last_version = λ last. c.if-held-eq-LAST_VERSION.false (ap (λ (s : Slot). s.version) held ∙ last) in
    let refusal : c.from_residual.result ≡ Err fault.OutOfMemory = search rules in
    subst (λ res. Adds c.args.self.now c.args.apid c.args.ctid c.args.position c.args.own c.args.text.now res c.args.self.now) (sym refusal)
    (subst (λ (k : Kept). Adds k c.args.apid c.args.ctid c.args.position c.args.own c.args.text.now (Err fault.OutOfMemory) k) c.self.view_is
    (adds-memory r t c.args.apid c.args.ctid c.args.number c.args.position c.args.own c.args.text.now c.self.invariant may c.in-Some.place c.in-Some.ensures fresh))

pub add_context-requires : goal.add_context-requires
add_context-requires c =
    let r : Registry = record { level = c.self.inside.level; stored = c.self.inside.stored; apps = c.self.inside.apps.entries } in
    let t = c.self.inside.table in
    let may : MayAdd (kept_of r t) c.args.apid c.args.ctid c.args.number = subst (λ (k : Kept). MayAdd k c.args.apid c.args.ctid c.args.number) (sym c.self.view_is) c.requires in
    room_for r t c.args.apid c.args.ctid c.args.number c.args.position c.args.own c.args.text.now c.self.invariant may c.in-Some.place c.in-Some.ensures

pub invariant_of-self : goal.invariant_of-self
invariant_of-self c =
    let r : Registry = record { level = c.self.inside.level; stored = c.self.inside.stored; apps = c.self.inside.apps.entries } in
    let t = c.self.inside.table in
    let may : MayAdd (kept_of r t) c.args.apid c.args.ctid c.args.number = subst (λ (k : Kept). MayAdd k c.args.apid c.args.ctid c.args.number) (sym c.self.view_is) c.requires in
    let held = c.held.ensures.value in
    let fresh : (held_at t.first t.held c.slot_of-slot.result).version ≢ last_version = λ last. c.if-held-eq-LAST_VERSION.false (ap (λ (s : Slot). s.version) held ∙ last) in
    let context : Context = coming r c.args.apid c.args.ctid c.in-Some.place c.args.own c.args.position c.args.text.now in
    let context_is : record { place = c.in-Some.place; further = c.none.result; own = c.own_for-own.result; position = c.args.position; text = c.in_ok-text.text } ≡ context =
    λ i. record { place = c.in-Some.place; further = c.none.ensures i; own = c.own_for-own.ensures i; position = c.args.position; text = c.in_ok-text.ensures i } in
    let added = c.add_context.ensures ∙ ap (λ (x : Context). changed_app c.args.apid (λ app. with_new_context app c.args.ctid x) r.apps) context_is in
    let level_is = c.effective-level.ensures ∙ ap (λ o. unwrap_or o c.self.inside.level) c.own_for-own.ensures in
    subst (λ es. Fits (record r { apps = es }) c.give.new.self) (sym added)
    (fits-coming r t c.args.apid c.args.ctid c.args.number c.args.position c.args.own c.args.text.now c.self.invariant may c.give.new.self c.in-Some.place c.slot_of-slot.result c.in-Some.ensures
    c.slot_of-slot.ensures fresh c.give.ensures.first c.give.ensures.held
    (λ other within. c.give.ensures.level other within ∙ ap (λ l. cond (other == c.slot_of-slot.result) (Some l) (wanted_at t other)) level_is))

pub returns : goal.returns
returns c =
    let r : Registry = record { level = c.self.inside.level; stored = c.self.inside.stored; apps = c.self.inside.apps.entries } in
    let t = c.self.inside.table in
    let may : MayAdd (kept_of r t) c.args.apid c.args.ctid c.args.number = subst (λ (k : Kept). MayAdd k c.args.apid c.args.ctid c.args.number) (sym c.self.view_is) c.requires in
    let held = c.held.ensures.value ∙ ap (held_at t.first t.held) c.slot_of-slot.ensures in
    let fresh : (held_at t.first t.held (slot_of c.args.number c.in-Some.place)).version ≢ last_version = λ last. c.if-held-eq-LAST_VERSION.false (ap (λ (s : Slot). s.version) held ∙ last) in
    let context : Context = coming r c.args.apid c.args.ctid c.in-Some.place c.args.own c.args.position c.args.text.now in
    let context_is : record { place = c.in-Some.place; further = c.none.result; own = c.own_for-own.result; position = c.args.position; text = c.in_ok-text.text } ≡ context =
    λ i. record { place = c.in-Some.place; further = c.none.ensures i; own = c.own_for-own.ensures i; position = c.args.position; text = c.in_ok-text.ensures i } in
    let added = c.add_context.ensures ∙ ap (λ (x : Context). changed_app c.args.apid (λ app. with_new_context app c.args.ctid x) r.apps) context_is in
    subst (λ es. Adds c.args.self.now c.args.apid c.args.ctid c.args.position c.args.own c.args.text.now (Ok tt) (kept_of (record r { apps = es }) c.give.new.self)) (sym added)
    (subst (λ (k : Kept). Adds k c.args.apid c.args.ctid c.args.position c.args.own c.args.text.now (Ok tt)
    (kept_of (with_coming r t c.args.apid c.args.ctid c.args.number c.args.position c.args.own c.args.text.now c.self.invariant may c.in-Some.place) c.give.new.self)) c.self.view_is
    (adds-done r t c.args.apid c.args.ctid c.args.number c.args.position c.args.own c.args.text.now c.self.invariant may c.give.new.self c.in-Some.place c.in-Some.ensures fresh c.give.ensures.first c.give.ensures.held))
