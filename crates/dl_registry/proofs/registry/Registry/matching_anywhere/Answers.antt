use Rattle.std.proofs.Common.{◌≡◌, ◌≤◌, ◌-◌, ◌^◌, min, length, map, ap, ◌∙◌, rules, arith}
use Rattle.std.specs.List.{flat_map}
use Rattle.std.specs.Map.Iter.{deref_pair}
use Rattle.std.proofs.lemmas.Map.Iter.{iter_end}
use Rattle.dl_model.specs.Registry.{Registry, matching, matching_in}
use Rattle.dl_registry.specs.Kept.{Kept}
use Rattle.dl_registry.proofs.Informing.{matching_limit}
use Rattle.dl_registry.proofs.registry.Registry.matching_anywhere.Goals as goal

pub overflow_cast-result : goal.overflow_cast-result
overflow_cast-result c =
    let r : Registry = record { level = c.self.inside.level; stored = c.self.inside.stored; apps = c.self.inside.apps.entries } in
    let all : map deref_pair c.loop-id.yielded ≡ c.self.inside.apps.entries = search (rules, iter_end) in
    let count : c.loop-id.count ≡ min (2 ^ 64 - 1) (length (matching r c.args.apid c.args.ctid)) =
    c.loop-id.invariant ∙ ap (λ es. min (2 ^ 64 - 1) (length (flat_map (matching_in c.args.apid c.args.ctid) es))) all in
    let limit : length (matching r c.args.apid c.args.ctid) ≤ 1024 = matching_limit r c.args.apid c.args.ctid c.self.invariant.order in
    let few : c.loop-id.count ≤ 1024 = omega arith in
    search rules

pub returns : goal.returns
returns c =
    let r : Registry = record { level = c.self.inside.level; stored = c.self.inside.stored; apps = c.self.inside.apps.entries } in
    let all : map deref_pair c.loop-id.yielded ≡ c.self.inside.apps.entries = search (rules, iter_end) in
    let count : c.loop-id.count ≡ min (2 ^ 64 - 1) (length (matching r c.args.apid c.args.ctid)) =
    c.loop-id.invariant ∙ ap (λ es. min (2 ^ 64 - 1) (length (flat_map (matching_in c.args.apid c.args.ctid) es))) all in
    let limit : length (matching r c.args.apid c.args.ctid) ≤ 1024 = matching_limit r c.args.apid c.args.ctid c.self.invariant.order in
    let same : c.loop-id.count ≡ length (matching r c.args.apid c.args.ctid) = omega arith in
    same ∙ ap (λ (k : Kept). length (matching k.registry c.args.apid c.args.ctid)) c.self.view_is
