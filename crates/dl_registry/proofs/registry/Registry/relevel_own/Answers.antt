use Rattle.std.proofs.Common.{◌≡◌, false, Ok, Err, refl, sym, ap, subst, ◌∙◌}
use Rattle.std.specs.Prelude.{if◌then◌else◌}
use Rattle.std.specs.List.{IsDistinct}
use Rattle.std.specs.Map.{keys_of, lookup}
use Rattle.std.specs.Option.{option_map_or, option_or}
use Rattle.std.specs.Str.{bytes_eq}
use Rattle.dl_model.specs.declared.registry.SetFault.TheVariants as set
use Rattle.dl_model.specs.Registry.{Registry, is_pattern, releveled, set_matching, unless_worn, wears, wears_app}
use Rattle.dl_registry.specs.Table.{held_at, wanted_at}
use Rattle.dl_registry.specs.Kept.{Kept, Fits, Sets, slots, with_registry}
use Rattle.dl_registry.specs.Refresh.{level_named}
use Rattle.dl_registry.proofs.Naming.{app-releveled, app-wears_is, fits-app}
use Rattle.dl_registry.proofs.registry.Registry.relevel_own.Goals as goal

pub returns-then-is_pattern : goal.returns-then-is_pattern
returns-then-is_pattern c =
    subst (λ n. Sets (unless_worn (slots c.args.self.now) c.args.self.now.registry n (set_matching c.args.apid c.args.ctid c.args.own)) c.args.self.now c.relevel.result c.relevel.new.self)
    (ap (λ (k : Kept). k.registry.level) c.self.view_is) c.relevel.ensures

pub returns-then-wears_in : goal.returns-then-wears_in
returns-then-wears_in c =
    let r : Registry = record { level = c.self.inside.level; stored = c.self.inside.stored; apps = c.self.inside.apps.entries } in
    let s = held_at c.self.inside.table.first c.self.inside.table.held in
    let own = set_matching c.args.apid c.args.ctid c.args.own in
    let some : is_pattern c.args.apid ≡ false = sym c.is_pattern.ensures ∙ c.if-is_pattern.false in
    let apart : IsDistinct bytes_eq (keys_of r.apps) = subst (λ (k : Kept). IsDistinct bytes_eq (keys_of k.registry.apps)) (sym c.self.view_is) c.wears_in.ensures.apart in
    let test : wears s r r.level own ≡ c.wears_in.result =
    app-wears_is r c.args.apid c.args.ctid some apart c.args.own s
    ∙ (ap (λ (k : Kept). option_map_or (λ app. wears_app (slots k) k.registry.level r.level own (c.args.apid, app)) (lookup (bytes_eq c.args.apid) k.registry.apps) false) c.self.view_is
    ∙ sym c.wears_in.ensures.wears) in (
      ap (λ (k : Kept). unless_worn (slots k) k.registry k.registry.level own) (sym c.self.view_is)
          ∙ ap (λ b. if b then Err set.Worn else Ok (releveled r.level own r)) (test ∙ c.if-wears_in.true),
      refl,
    )

pub invariant_of-self : goal.invariant_of-self
invariant_of-self c =
    let r : Registry = record { level = c.self.inside.level; stored = c.self.inside.stored; apps = c.self.inside.apps.entries } in
    let t = c.self.inside.table in
    let own = set_matching c.args.apid c.args.ctid c.args.own in
    let some : is_pattern c.args.apid ≡ false = sym c.is_pattern.ensures ∙ c.if-is_pattern.false in
    let apart : IsDistinct bytes_eq (keys_of r.apps) = subst (λ (k : Kept). IsDistinct bytes_eq (keys_of k.registry.apps)) (sym c.self.view_is) c.wears_in.ensures.apart in
    let test : wears (held_at t.first t.held) r r.level own ≡ c.wears_in.result =
    app-wears_is r c.args.apid c.args.ctid some apart c.args.own (held_at t.first t.held)
    ∙ (ap (λ (k : Kept). option_map_or (λ app. wears_app (slots k) k.registry.level r.level own (c.args.apid, app)) (lookup (bytes_eq c.args.apid) k.registry.apps) false) c.self.view_is
    ∙ sym c.wears_in.ensures.wears) in
    subst (λ es. Fits (record r { apps = es }) c.refresh_in.new.table) (sym c.relevel_in.ensures)
    (fits-app r t c.refresh_in.new.table c.args.apid c.args.ctid c.args.own c.self.invariant some apart (test ∙ c.if-wears_in.false)
    c.refresh_in.ensures.first c.refresh_in.ensures.held c.refresh_in.ensures.outside
    (λ slot within. c.refresh_in.ensures.levels slot within ∙ ap (λ es. option_or (level_named r.level es c.args.apid slot) (wanted_at t slot)) c.relevel_in.ensures))

pub returns : goal.returns
returns c =
    let r : Registry = record { level = c.self.inside.level; stored = c.self.inside.stored; apps = c.self.inside.apps.entries } in
    let s = held_at c.self.inside.table.first c.self.inside.table.held in
    let own = set_matching c.args.apid c.args.ctid c.args.own in
    let some : is_pattern c.args.apid ≡ false = sym c.is_pattern.ensures ∙ c.if-is_pattern.false in
    let apart : IsDistinct bytes_eq (keys_of r.apps) = subst (λ (k : Kept). IsDistinct bytes_eq (keys_of k.registry.apps)) (sym c.self.view_is) c.wears_in.ensures.apart in
    let test : wears s r r.level own ≡ c.wears_in.result =
    app-wears_is r c.args.apid c.args.ctid some apart c.args.own s
    ∙ (ap (λ (k : Kept). option_map_or (λ app. wears_app (slots k) k.registry.level r.level own (c.args.apid, app)) (lookup (bytes_eq c.args.apid) k.registry.apps) false) c.self.view_is
    ∙ sym c.wears_in.ensures.wears) in
    let kept : (let k : Kept = record { registry = record r { apps = c.relevel_in.new.apps.entries }; first = c.refresh_in.new.table.first; held = c.refresh_in.new.table.held } in k)
    ≡ record { registry = record r { apps = c.relevel_in.new.apps.entries }; first = c.self.inside.table.first; held = c.self.inside.table.held } =
    λ i. record { registry = record r { apps = c.relevel_in.new.apps.entries }; first = c.refresh_in.ensures.first i; held = c.refresh_in.ensures.held i } in (
      ap (λ (k : Kept). unless_worn (slots k) k.registry k.registry.level own) (sym c.self.view_is)
          ∙ (ap (λ b. if b then Err set.Worn else Ok (releveled r.level own r)) (test ∙ c.if-wears_in.false)
          ∙ ap Ok (app-releveled r c.args.apid c.args.ctid some apart c.args.own ∙ sym (ap (λ es. record r { apps = es }) c.relevel_in.ensures))),
      kept ∙ ap (λ (k : Kept). with_registry k (record r { apps = c.relevel_in.new.apps.entries })) c.self.view_is,
    )
