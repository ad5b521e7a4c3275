use Rattle.std.proofs.Common.{◌≡◌, ◌≤◌, length, false, sym, ap, ◌∙◌, rules, arith}
use Rattle.dl_model.specs.Registry.{Registry, is_pattern, matching}
use Rattle.dl_registry.specs.Kept.{Kept}
use Rattle.dl_registry.proofs.Informing.{matching_limit}
use Rattle.dl_registry.proofs.Naming.{matching-absent, matching-named}
use Rattle.dl_registry.proofs.registry.Registry.matching.Goals as goal

pub overflow_cast-result : goal.overflow_cast-result
overflow_cast-result c =
    let r : Registry = record { level = c.self.inside.level; stored = c.self.inside.stored; apps = c.self.inside.apps.entries } in
    let some : is_pattern c.args.apid ≡ false = sym c.is_pattern.ensures ∙ c.if-is_pattern.false in
    let count : c.matching.result ≡ length (matching r c.args.apid c.args.ctid) =
    c.matching.ensures ∙ ap length (sym (matching-named r c.args.apid c.args.ctid some c.named.ensures.apart c.in-Some.app.now (sym c.in-Some.ensures.value))) in
    let limit : length (matching r c.args.apid c.args.ctid) ≤ 1024 = matching_limit r c.args.apid c.args.ctid c.self.invariant.order in
    let few : c.matching.result ≤ 1024 = omega (arith, count, limit) in
    search rules

pub returns-in-Some : goal.returns-in-Some
returns-in-Some c =
    let r : Registry = record { level = c.self.inside.level; stored = c.self.inside.stored; apps = c.self.inside.apps.entries } in
    let some : is_pattern c.args.apid ≡ false = sym c.is_pattern.ensures ∙ c.if-is_pattern.false in
    c.matching.ensures
    ∙ (ap length (sym (matching-named r c.args.apid c.args.ctid some c.named.ensures.apart c.in-Some.app.now (sym c.in-Some.ensures.value)))
    ∙ ap (λ (k : Kept). length (matching k.registry c.args.apid c.args.ctid)) c.self.view_is)

pub returns-in-None : goal.returns-in-None
returns-in-None c =
    let r : Registry = record { level = c.self.inside.level; stored = c.self.inside.stored; apps = c.self.inside.apps.entries } in
    let some : is_pattern c.args.apid ≡ false = sym c.is_pattern.ensures ∙ c.if-is_pattern.false in
    ap length (sym (matching-absent r c.args.apid c.args.ctid some c.named.ensures.apart (sym c.in-None.ensures.value)))
    ∙ ap (λ (k : Kept). length (matching k.registry c.args.apid c.args.ctid)) c.self.view_is
