use Rattle.std.proofs.Common.{◌≡◌, ◌==◌, ◌&&◌, not, cond, length, Ok, Some, refl, sym, ap, subst, ◌∙◌}
use Rattle.std.specs.List.{IsDistinct}
use Rattle.std.specs.Map.{keys_of, lookup}
use Rattle.std.specs.Str.{bytes_eq}
use Rattle.dl_model.specs.Registry.{Registry, context_of, effective, is_worn, matching, own_set, with_app, with_context}
use Rattle.dl_registry.specs.Table.{held_at, wanted_at}
use Rattle.dl_apps.specs.Change.{leveled}
use Rattle.dl_registry.specs.Kept.{Kept, Fits, slots, with_registry}
use Rattle.dl_registry.specs.Refresh.{has_slot}
use Rattle.dl_registry.proofs.Naming.{fits-one, no_app, no_context, one-changed, one-matches, one-set, one-worn}
use Rattle.dl_registry.proofs.registry.Registry.set_one.Goals as goal

pub returns-in_default-clause-set : goal.returns-in_default-clause-set
returns-in_default-clause-set c =
    let r : Registry = record { level = c.self.inside.level; stored = c.self.inside.stored; apps = c.self.inside.apps.entries } in (
      ap (λ (k : Kept). own_set (slots k) k.registry c.args.apid c.args.ctid c.args.own) (sym c.self.view_is)
          ∙ no_app (held_at c.self.inside.table.first c.self.inside.table.held) r c.args.apid c.args.ctid c.args.own c.requires.app c.named.ensures.apart (sym c.in_default.ensures.value),
      refl,
    )

pub returns-in_default-named-clause-set : goal.returns-in_default-named-clause-set
returns-in_default-named-clause-set c =
    let r : Registry = record { level = c.self.inside.level; stored = c.self.inside.stored; apps = c.self.inside.apps.entries } in (
      ap (λ (k : Kept). own_set (slots k) k.registry c.args.apid c.args.ctid c.args.own) (sym c.self.view_is)
          ∙ no_context (held_at c.self.inside.table.first c.self.inside.table.held) r c.args.apid c.args.ctid c.args.own c.requires.app c.named.ensures.apart c.requires.context
          c.in-Some.app.now (sym c.in-Some.ensures.value) (ap (lookup (bytes_eq c.args.ctid)) (sym c.contexts.ensures) ∙ sym c.in_default-named.ensures.value),
      refl,
    )

pub returns-then-would_wear-clause-set : goal.returns-then-would_wear-clause-set
returns-then-would_wear-clause-set c =
    let r : Registry = record { level = c.self.inside.level; stored = c.self.inside.stored; apps = c.self.inside.apps.entries } in
    let s = held_at c.self.inside.table.first c.self.inside.table.held in
    let app = c.in-Some.app.now in
    let context = c.in-Some-named.context.now in
    let there : context_of app c.args.ctid ≡ Some context = ap (lookup (bytes_eq c.args.ctid)) (sym c.contexts.ensures) ∙ sym c.in-Some-named.ensures.value in
    let alone : IsDistinct bytes_eq (keys_of app.contexts) = subst (λ es. IsDistinct bytes_eq (keys_of es)) c.contexts.ensures c.in-Some-named.ensures.apart in
    let test : (is_worn s app.number context && not (effective r.level context == effective r.level (leveled c.args.own context))) ≡ c.would_wear.result =
    (λ i. is_worn s (sym c.number-number.ensures i) context && not (sym c.effective-old.ensures i == sym c.effective-new.ensures i)) ∙ sym c.would_wear.ensures in (
      ap (λ (k : Kept). own_set (slots k) k.registry c.args.apid c.args.ctid c.args.own) (sym c.self.view_is)
          ∙ one-worn s r c.args.apid c.args.ctid c.args.own c.requires.app c.named.ensures.apart c.requires.context app (sym c.in-Some.ensures.value) context there alone (test ∙ c.if-would_wear.true),
      refl,
    )

pub invariant_of-self : goal.invariant_of-self
invariant_of-self c =
    let r : Registry = record { level = c.self.inside.level; stored = c.self.inside.stored; apps = c.self.inside.apps.entries } in
    let t = c.self.inside.table in
    let app = c.in-Some.app.now in
    let context = c.in-Some-named.context.now in
    let found : lookup (bytes_eq c.args.apid) r.apps ≡ Some app = sym c.in-Some.ensures.value in
    let there : context_of app c.args.ctid ≡ Some context = ap (lookup (bytes_eq c.args.ctid)) (sym c.contexts.ensures) ∙ sym c.in-Some-named.ensures.value in
    let alone : IsDistinct bytes_eq (keys_of app.contexts) = subst (λ es. IsDistinct bytes_eq (keys_of es)) c.contexts.ensures c.in-Some-named.ensures.apart in
    let test : (is_worn (held_at t.first t.held) app.number context && not (effective r.level context == effective r.level (leveled c.args.own context))) ≡ c.would_wear.result =
    (λ i. is_worn (held_at t.first t.held) (sym c.number-number.ensures i) context && not (sym c.effective-old.ensures i == sym c.effective-new.ensures i)) ∙ sym c.would_wear.ensures in
    let changed : record r { apps = c.set_own.new.apps.entries } ≡ with_app r c.args.apid (with_context app c.args.ctid (leveled c.args.own context)) =
    ap (λ es. record r { apps = es }) c.set_own.ensures ∙ one-changed r c.args.apid c.args.ctid c.args.own app context found there in
    subst (λ (x : Registry). Fits x c.give_places.new.table) (sym changed)
    (fits-one r t c.give_places.new.table c.args.apid c.args.ctid c.args.own app context c.self.invariant c.requires.app c.requires.context c.named.ensures.apart found there alone (test ∙ c.if-would_wear.false)
    c.give_places.ensures.first c.give_places.ensures.held c.give_places.ensures.outside
    (λ slot within.
    c.give_places.ensures.levels slot within
    ∙ (λ i. cond (has_slot (c.number-number.ensures i) slot context) (Some (c.effective-new.ensures i)) (wanted_at t slot))))

pub returns-clause-set : goal.returns-clause-set
returns-clause-set c =
    let r : Registry = record { level = c.self.inside.level; stored = c.self.inside.stored; apps = c.self.inside.apps.entries } in
    let s = held_at c.self.inside.table.first c.self.inside.table.held in
    let app = c.in-Some.app.now in
    let context = c.in-Some-named.context.now in
    let found : lookup (bytes_eq c.args.apid) r.apps ≡ Some app = sym c.in-Some.ensures.value in
    let there : context_of app c.args.ctid ≡ Some context = ap (lookup (bytes_eq c.args.ctid)) (sym c.contexts.ensures) ∙ sym c.in-Some-named.ensures.value in
    let alone : IsDistinct bytes_eq (keys_of app.contexts) = subst (λ es. IsDistinct bytes_eq (keys_of es)) c.contexts.ensures c.in-Some-named.ensures.apart in
    let test : (is_worn s app.number context && not (effective r.level context == effective r.level (leveled c.args.own context))) ≡ c.would_wear.result =
    (λ i. is_worn s (sym c.number-number.ensures i) context && not (sym c.effective-old.ensures i == sym c.effective-new.ensures i)) ∙ sym c.would_wear.ensures in
    let changed : record r { apps = c.set_own.new.apps.entries } ≡ with_app r c.args.apid (with_context app c.args.ctid (leveled c.args.own context)) =
    ap (λ es. record r { apps = es }) c.set_own.ensures ∙ one-changed r c.args.apid c.args.ctid c.args.own app context found there in
    let kept : (let k : Kept = record { registry = record r { apps = c.set_own.new.apps.entries }; first = c.give_places.new.table.first; held = c.give_places.new.table.held } in k)
    ≡ record { registry = record r { apps = c.set_own.new.apps.entries }; first = c.self.inside.table.first; held = c.self.inside.table.held } =
    λ i. record { registry = record r { apps = c.set_own.new.apps.entries }; first = c.give_places.ensures.first i; held = c.give_places.ensures.held i } in (
      ap (λ (k : Kept). own_set (slots k) k.registry c.args.apid c.args.ctid c.args.own) (sym c.self.view_is)
          ∙ (one-set s r c.args.apid c.args.ctid c.args.own c.requires.app c.named.ensures.apart c.requires.context app found context there alone (test ∙ c.if-would_wear.false) ∙ ap Ok (sym changed)),
      kept ∙ ap (λ (k : Kept). with_registry k (record r { apps = c.set_own.new.apps.entries })) c.self.view_is,
    )

pub returns-clause-count : goal.returns-clause-count
returns-clause-count c =
    let r : Registry = record { level = c.self.inside.level; stored = c.self.inside.stored; apps = c.self.inside.apps.entries } in
    let app = c.in-Some.app.now in
    let context = c.in-Some-named.context.now in
    let there : context_of app c.args.ctid ≡ Some context = ap (lookup (bytes_eq c.args.ctid)) (sym c.contexts.ensures) ∙ sym c.in-Some-named.ensures.value in
    let alone : IsDistinct bytes_eq (keys_of app.contexts) = subst (λ es. IsDistinct bytes_eq (keys_of es)) c.contexts.ensures c.in-Some-named.ensures.apart in
    sym (one-matches (held_at c.self.inside.table.first c.self.inside.table.held) r c.args.apid c.args.ctid c.args.own c.requires.app c.named.ensures.apart c.requires.context app (sym c.in-Some.ensures.value) context there alone)
    ∙ ap (λ (k : Kept). length (matching k.registry c.args.apid c.args.ctid)) c.self.view_is
